-- Scores, and what is asked of them, by the bytes of their symbols.
use Rattle.std.specs.Prelude.{◌≡◌, ℕ, zero, suc, ◌<◌, ◌≤◌, List, [], length, ℤ, pos, Some, ◌≢◌, slice_index_or}
use Rattle.notation.specs.Kind.{Kind, rest}
use Rattle.notation.specs.declared.mode.Mode.{Mode}
use Rattle.notation.specs.declared.mode.Mode.TheVariants.{Untransposed, AnyTransposition}

-- a column has one byte a track, a score has its columns in order
abbrev pub Column : Type 0
Column = List ℕ

abbrev pub Score : Type 0
Score = List Column

-- the byte in a column of a track, both counted from 1: outside the score there are rests
abbrev pub symbol : Score → ℕ → ℕ → ℕ
symbol score zero track = rest
symbol score (suc j) zero = rest
symbol score (suc j) (suc t) = slice_index_or (slice_index_or score j []) t rest

-- some track sounds in the column
abbrev pub Sounding : Score → ℕ → Type 0
Sounding score j = (t : ℕ) × (symbol score j t ≢ rest)

-- a note of a query, counted from 1
abbrev pub note : List ℕ → ℕ → ℕ
note query zero = rest
note query (suc i) = slice_index_or query i rest

-- what is asked: where in a score, of some kind of symbols, a query can be found, under a limit on the
-- gaps and a mode
pub record Question : Type 0 where
  pub kind : Kind
  pub score : Score
  pub limit : ℕ
  pub mode : Mode
  pub query : List ℕ

-- the transpositions that a mode admits
abbrev pub Admits : Mode → ℤ → Type 0
Admits Untransposed c = c ≡ pos 0
Admits AnyTransposition c = Unit {0}

-- the interval from note i of the query to the symbol in column j of track t is c
abbrev pub Matches : Question → ℤ → ℕ → ℕ → ℕ → Type 0
Matches ask c i j t = ask.kind.interval (note ask.query i) (symbol ask.score j t) ≡ Some c

-- each note of the second query is that of the first, transposed by d
pub record Transposed (k : Kind) (d : ℤ) (query query' : List ℕ) : Type 0 where
  pub as_long : length query' ≡ length query
  pub each : (i : ℕ) → 0 < i → i ≤ length query → k.interval (note query i) (note query' i) ≡ Some d
