-- What is asked of the symbols of a score, which questions are refused, and what is answered.
use Rattle.std.specs.Prelude.{◌≡◌, ℕ, ◌≤◌, ◌&&◌, List, map, length, Some, None, Option, Result, MatchResult, nat_le}
use Rattle.notation.specs.Kind.{Kind}
use Rattle.notation.specs.declared.mode.Mode.{Mode}
use Rattle.book.specs.Refusals.{refusal, unless, then}
use Rattle.book.specs.declared.refusal.Layer.TheVariants.{Question as of-question}
use Rattle.book.specs.declared.refusal.Refusal.{Refusal}
use Rattle.price.specs.Pricing.{Pricing}
use Rattle.splitting.specs.Score.{Score, Question}
use Rattle.splitting.specs.Answer.{Answers, meant}
use Rattle.splitting.specs.declared.Answer.{Answer}
use Rattle.splitting.specs.declared.Piece.{Piece}
use Rattle.book.specs.declared.grid.Grid.{Grid}
use Rattle.search.specs.Candidates.{Asked}
use Rattle.search.specs.Columns.{columns_of}
use Rattle.search.specs.Faults.{query_told, question_told}
use Rattle.search.specs.Queries.{query_refusal, list_refusal}
use Rattle.search.specs.Sheets.{Room}
use Rattle.search.specs.Workspace.{workspace, workspace_of}
use Rattle.search.specs.declared.fault.QueryFault.{QueryFault}
use Rattle.search.specs.declared.fault.QuestionFault.{QuestionFault}
use Rattle.search.specs.declared.sheets.Sheets.{Sheets}

-- the columns that a grid spells
abbrev pub spelled : {S : Type 0} → (S → ℕ) → Grid S → Score
spelled byte grid = columns_of grid.tracks grid.columns (map byte grid.symbols.now)

-- where in a grid a query can be found, under a limit and a mode
abbrev pub grid_question : {S : Type 0} → Kind → (S → ℕ) → Grid S → ℕ → Mode → List S → Question
grid_question kind byte grid limit mode query = record { kind = kind; score = spelled byte grid; limit = limit; mode = mode; query = map byte query }

-- the workspace that a question asks for, told exactly where the query is not refused
abbrev pub Sized : Question → Result ℕ QueryFault → Type 0
Sized ask r =
    MatchResult r
    (λ size. (query_refusal ask.query ≡ None) × (size ≡ workspace_of ask))
    (λ f. query_refusal ask.query ≡ Some (query_told f))

-- a refused query; a list with room for fewer pieces than the query has notes; a sheet below the workspace
abbrev pub question_refusal : Question → (list prices window steps : ℕ) → Option Refusal
question_refusal ask list prices window steps =
    then (list_refusal ask.query list)
    (unless (nat_le (workspace_of ask) prices && nat_le (workspace_of ask) window && nat_le (workspace_of ask) steps) (refusal 20 (workspace_of ask) of-question) None)

-- A question with this rule is refused by it alone, and then everything lent is as it was. Else it is answered, and
-- the sheets are free.
abbrev pub Sought : {P : Type 0} (m : Pricing) → (P → m.Meaning) → Question → Option Refusal → (before after : List Piece) → (untouched : Type 0) → Result (Answer P) QuestionFault → Type 0
Sought m meaning ask rule before after untouched r =
    MatchResult r
    (λ answer. (rule ≡ None) × Answers ask m (meant meaning answer) before after)
    (λ f. (rule ≡ Some (question_told f)) × (after ≡ before) × untouched)

-- Some question is about the score whose symbols stand column after column. The list has room
-- for a piece for each note of its query, and the sheets have room for the workspace.
pub record Granted {P : Type 0} (bytes : List ℕ) (tracks : ℕ) (kind : Kind) (mode : Mode) (limit : ℕ) (query : List ℕ) (list : ℕ) (sheets : Sheets P) : Type 0 where
  pub ask : Question
  pub asked : Asked ask bytes tracks kind mode limit query
  pub room_list : length query ≤ list
  pub room : Room (workspace kind mode bytes query) sheets
