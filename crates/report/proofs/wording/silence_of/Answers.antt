use Rattle.std.proofs.Common.{◌≡◌, ◌<◌, List, [], ◌∷◌, length, refl, arith}
use Rattle.splitting.specs.Score.{Score}
use Rattle.splitting.specs.Splitting.{silence}
use Rattle.splitting.specs.declared.Piece.{Piece}
use Rattle.report.proofs.wording.silence_of.Goals as goal

-- fewer than two pieces have none
none_left : (score : Score) (pieces : List Piece) → length pieces < 2 → silence score pieces ≡ 0
none_left score [] l = refl
none_left score (p ∷ []) l = refl
none_left score (p ∷ q ∷ ps) l = absurd (omega arith)

pub returns : goal.returns
returns c = λ score. omega (arith, c.loop-rest.invariant.0 score, none_left score c.loop-rest.rest.now c.in_default.len_below)
