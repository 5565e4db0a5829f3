-- A score that was written is held again.
use Rattle.std.proofs.Common.{◌≡◌, ℕ, ◌*◌, ◌≤◌, Bool, true, T, List, map, length, vec_items, ◌∙◌, arith}
use Rattle.std.proofs.lemmas.Nat.{mul-le}
use Rattle.notation.specs.Kind.{Kind, readable}
use Rattle.notation.specs.Known.{known}
use Rattle.book.specs.Grids.{Grid, ScoreOf, bytes_of}
use Rattle.splitting.specs.Score as splitting
use Rattle.finder.specs.Edits.{grid_columns}
use Rattle.finder.specs.Scores.{columns_held, score_grid}
use Rattle.finder.specs.declared.score.Score.{Score}
use Rattle.finder.proofs.ColumnEdits.{columns_front}
use Rattle.finder.proofs.Filled.{score_spelled}

-- where the bytes of every score of the kind that has the tracks and fits are held, so are those of a score that was written
pub written_again : {S : Type 0} (k : Kind) (byte : S → ℕ) → ((s : S) → T (readable k (byte s))) → (input : List ℕ) (t room : ℕ) (granted : Bool) (holds : splitting.Score) →
    ((g : Grid) → T (known k.number) → ScoreOf k g → input ≡ bytes_of k g → g.tracks ≡ t → g.columns ≤ room → (granted ≡ true) × (holds ≡ grid_columns g)) →
    (w : Score S) → T (known k.number) → input ≡ bytes_of k (score_grid byte w) → w.tracks ≡ t → w.columns ≤ room → (granted ≡ true) × (holds ≡ columns_held byte w)
written_again k byte law input t room granted holds again w known-kind e same fits =
    let cells = vec_items w.memory in
    let used : w.columns * w.tracks ≤ length cells = omega (arith, mul-le w.columns w.tracks w.capacity w.tracks w.held (omega arith), w.room, w.memory.ok.0) in
    let spelled = score_spelled k byte law w.tracks w.columns cells w.some_track w.few_tracks (omega (arith, w.held, w.few_columns)) used in
    let h = again (score_grid byte w) known-kind spelled e same fits in
    (h.0, h.1 ∙ columns_front w.tracks w.columns (map byte cells))
