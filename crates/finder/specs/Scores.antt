-- The meaning of a score, and what each call on it promises.
use Rattle.std.specs.Prelude.{◌≡◌, ℕ, ◌*◌, ◌≤◌, true, false, T, List, map, take, is_ok, Some, None, vec_items, Option, Result, MatchOption, MatchResult}
use Rattle.notation.specs.Kind.{Kind}
use Rattle.notation.specs.Known.{known}
use Rattle.book.specs.Grids.{Grid, ScoreOf, bytes_of}
use Rattle.book.specs.Reading.{has_place}
use Rattle.book.specs.declared.refusal.Refusal.{Refusal}
use Rattle.splitting.specs.Score as splitting
use Rattle.search.specs.Columns.{columns_of}
use Rattle.finder.specs.Edits.{grid_columns}
use Rattle.finder.specs.ScoreRules.{score_told}
use Rattle.finder.specs.declared.score.Score.{Score}
use Rattle.finder.specs.declared.score_fault.ScoreFault.{ScoreFault}

-- the columns that a score holds now, each symbol by its byte
abbrev pub columns_held : {S : Type 0} → (S → ℕ) → Score S → splitting.Score
columns_held byte s = columns_of s.tracks s.columns (map byte (vec_items s.memory))

-- a call that changes a score: refused by its rule alone, and then the whole score is as it was; else the score holds what the call leads to, in its old shape
abbrev pub Changed : {S R : Type 0} → (S → ℕ) → Option Refusal → splitting.Score → Score S → Score S → Result R ScoreFault → Type 0
Changed byte rule leads_to before after r =
    MatchResult r
    (λ _. (rule ≡ None) × (columns_held byte after ≡ leads_to) × (after.tracks ≡ before.tracks) × (after.capacity ≡ before.capacity))
    (λ f. (rule ≡ Some (score_told f)) × (after ≡ before))

-- the symbol in a column on a track, both counted from 1, told exactly where there is such a place
abbrev pub SymbolTold : {S : Type 0} → (S → ℕ) → Score S → ℕ → ℕ → Option S → Type 0
SymbolTold byte s column track r =
    MatchOption r
    (has_place s.tracks s.columns column track ≡ false)
    (λ x. (has_place s.tracks s.columns column track ≡ true) × (byte x ≡ splitting.symbol (columns_held byte s) column track))

-- the score that a book of it holds
abbrev pub score_grid : {S : Type 0} → (S → ℕ) → Score S → Grid
score_grid byte s = record { tracks = s.tracks; columns = s.columns; cells = take (s.columns * s.tracks) (map byte (vec_items s.memory)) }

-- that is a score of the kind with the very columns
abbrev pub Spelled : {S : Type 0} → Kind → (S → ℕ) → Score S → Type 0
Spelled k byte s = ScoreOf k (score_grid byte s) × (grid_columns (score_grid byte s) ≡ columns_held byte s)

-- filling from the bytes of any score of a known kind is granted where it has as many tracks and there is room, and leaves the very columns
abbrev pub HoldsAgain : {S R : Type 0} → Kind → (S → ℕ) → List ℕ → Score S → Score S → Result R ScoreFault → Type 0
HoldsAgain k byte input before after r =
    (g : Grid) → T (known k.number) → ScoreOf k g → input ≡ bytes_of k g → g.tracks ≡ before.tracks → g.columns ≤ before.capacity →
    (is_ok r ≡ true) × (columns_held byte after ≡ grid_columns g)

-- so a score that was written is held again: filling from its bytes any score of as many tracks, with room for its columns, is granted and leaves the very columns
abbrev pub WrittenAgain : {S R : Type 0} → Kind → (S → ℕ) → List ℕ → Score S → Score S → Result R ScoreFault → Type 0
WrittenAgain {S = S} k byte input before after r =
    (written : Score S) → T (known k.number) → input ≡ bytes_of k (score_grid byte written) → written.tracks ≡ before.tracks → written.columns ≤ before.capacity →
    (is_ok r ≡ true) × (columns_held byte after ≡ columns_held byte written)
