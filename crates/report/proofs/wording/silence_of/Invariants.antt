use Rattle.std.proofs.Common.{◌≡◌, ◌+◌, ◌-◌, ◌*◌, ◌^◌, ◌≤◌, length}
use Rattle.splitting.specs.Score.{Score}
use Rattle.splitting.specs.Splitting.{silence}
use Rattle.report.proofs.wording.silence_of.Given as goal

-- the silence of the pieces that are left is still to be added
abbrev pub invariant-loop-rest : goal.invariant-loop-rest
invariant-loop-rest l = ((score : Score) → l.sum + silence score l.rest ≡ silence score l.pieces) × (l.sum ≤ (length l.pieces - length l.rest) * 2 ^ 64) × (length l.rest ≤ length l.pieces)

abbrev pub decreases-loop-rest : goal.decreases-loop-rest
decreases-loop-rest l = length l.rest
