-- How much workspace a question asks for.
use Rattle.std.specs.Prelude.{◌≡◌, ℕ, ◌<◌, max, Bool, true, cond, List, [], ◌∷◌, ℤ, pos, Some, None, sum_by, count_by, Option, nat_eq, slice_index}
use Rattle.std.specs.List.{flat_map}
use Rattle.notation.specs.Kind.{Kind}
use Rattle.notation.specs.declared.mode.Mode.{Mode}
use Rattle.notation.specs.declared.mode.Mode.TheVariants.{Untransposed, AnyTransposition}
use Rattle.splitting.specs.Score.{Score, Question, note}
use Rattle.search.specs.Queries.{same_interval, tells}

-- all symbols of a score, column after column
abbrev pub symbols : Score → List ℕ
symbols score = flat_map (λ column. column) score

-- whether a mode admits a transposition
abbrev pub admits : Mode → ℤ → Bool
admits Untransposed c = same_interval c (pos 0)
admits AnyTransposition c = true

-- how many of some symbols lie at the interval c from a note
abbrev pub matching : Kind → ℤ → List ℕ → ℕ → ℕ
matching k c cells n = count_by (λ b. tells (k.interval n b) c) cells

-- how many triples of a note, a column and a track match under the transposition c
abbrev pub triples : Kind → ℤ → List ℕ → List ℕ → ℕ
triples k c cells query = sum_by (matching k c cells) query

-- the triples under a transposition, if there is one and the mode admits it
abbrev pub candidate_size : Kind → Mode → List ℕ → List ℕ → Option ℤ → ℕ
candidate_size k mode cells query None = 0
candidate_size k mode cells query (Some c) = cond (admits mode c) (triples k c cells query) 0

-- the greatest of some sizes, 0 without any
abbrev pub greatest : (ℕ → ℕ) → List ℕ → ℕ
greatest size [] = 0
greatest size (b ∷ bs) = max (size b) (greatest size bs)

-- A candidate is an admitted transposition that is the interval from the first note to a symbol of the
-- score. The workspace is the greatest number of triples that match under one candidate, also under one
-- where some note matches nowhere.
unfoldable pub workspace : Kind → Mode → List ℕ → List ℕ → ℕ
workspace k mode cells query = greatest (λ b. candidate_size k mode cells query (k.interval (note query 1) b)) cells

-- the workspace of a question
abbrev pub workspace_of : Question → ℕ
workspace_of ask = workspace ask.kind ask.mode (symbols ask.score) ask.query

-- so many of the symbols are the byte b
abbrev pub Counted : List ℕ → List ℕ → Type 0
Counted counts cells = (b : ℕ) → b < 256 → slice_index counts b ≡ count_by (nat_eq b) cells
