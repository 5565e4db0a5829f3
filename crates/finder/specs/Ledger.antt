-- The ledger: what a score and its terms are after some calls, by the calls' arguments alone.
use Rattle.std.specs.Prelude.{ℕ, ◌/◌, Bool, true, false, cond, not, List, [], ◌∷◌, map, length, take, ℤ, Some, None, fold, Option}
use Rattle.notation.specs.Kind.{Kind}
use Rattle.notation.specs.declared.mode.Mode.{Mode}
use Rattle.notation.specs.declared.mode.Mode.TheVariants.{Untransposed}
use Rattle.book.specs.declared.refusal.Refusal.{Refusal}
use Rattle.splitting.specs.Score.{Score, Column, Question}
use Rattle.finder.specs.Edits.{appended, corrected, first_columns, book_columns}
use Rattle.finder.specs.Limits.{limit_refusal}
use Rattle.search.specs.Queries.{query_refusal, transpose_refusal}
use Rattle.search.specs.Questions.{question_refusal}
use Rattle.finder.specs.ScoreRules.{in_score, append_refusal, correct_refusal, cut_refusal, fill_refusal}
use Rattle.finder.specs.declared.call.Call.{Call}
use Rattle.finder.specs.declared.call.Call.TheVariants.{Append, Correct, Cut, Fill, Set, Begin, End, Size, Transpose, Ask}
use Rattle.finder.specs.declared.call.PriceKind.{PriceKind}
use Rattle.finder.specs.declared.call.Room.{Room}

pub record Ledger : Type 0 where
  -- as made: tracks, and the columns that there is room for
  pub tracks : ℕ
  pub capacity : ℕ
  pub columns : Score
  -- the limit in force, and the mode
  pub limit : ℕ
  pub mode : Mode
  -- the limits that stand again when the open trials end, that of the last trial first
  pub stack : List ℕ

-- a call, by the bytes of its symbols
pub data Command : Type 0 where
  appends : Column → Command
  corrects : (column track symbol : ℕ) → Command
  cuts : (columns : ℕ) → Command
  fills : (book : List ℕ) → Command
  sets : (limit : ℕ) → Mode → Command
  begins : (limit : ℕ) → Command
  ends : Command
  sizes : (query : List ℕ) → Command
  transposes : (query : List ℕ) → (by : ℤ) → (room : ℕ) → Command
  asks : (query : List ℕ) → Room → PriceKind → Command

abbrev pub command : {S : Type 0} → (S → ℕ) → Call S → Command
command byte (Append column) = appends (map byte column.now)
command byte (Correct column track symbol) = corrects column track (byte symbol)
command byte (Cut columns) = cuts columns
command byte (Fill book) = fills book.now
command byte (Set limit mode) = sets limit mode
command byte (Begin limit) = begins limit
command byte End = ends
command byte (Size query) = sizes (map byte query.now)
command byte (Transpose query by room) = transposes (map byte query.now) by room
command byte (Ask query room at) = asks (map byte query.now) room at

-- the ledger of a score made over memory of so many symbols: what is no memory of a score makes one track and no room
abbrev pub at_first : (tracks memory : ℕ) → Ledger
at_first tracks memory =
    cond (in_score tracks memory)
    (record { tracks = tracks; capacity = memory / tracks; columns = []; limit = 0; mode = Untransposed; stack = [] })
    (record { tracks = 1; capacity = 0; columns = []; limit = 0; mode = Untransposed; stack = [] })

-- what is asked by a query now
abbrev pub asked : Kind → Ledger → List ℕ → Question
asked k l query = record { kind = k; score = l.columns; limit = l.limit; mode = l.mode; query = query }

abbrev pub no_trial : Ledger → Bool
no_trial l = elim l.stack [ [] ↦ true | ◌∷◌ former others ↦ false ]

-- a setting while a trial is open, and an end where none is, are no calls
abbrev pub no_call : Ledger → Command → Bool
no_call l (appends column) = false
no_call l (corrects column track symbol) = false
no_call l (cuts columns) = false
no_call l (fills book) = false
no_call l (sets limit mode) = not (no_trial l)
no_call l (begins limit) = false
no_call l ends = no_trial l
no_call l (sizes query) = false
no_call l (transposes query by room) = false
no_call l (asks query room at) = false

-- the refusal that a call meets, if any
abbrev pub call_refusal : Kind → Ledger → Command → Option Refusal
call_refusal k l (appends column) = append_refusal l.tracks l.capacity (length l.columns) (length column)
call_refusal k l (corrects column track symbol) = correct_refusal l.tracks (length l.columns) column track
call_refusal k l (cuts columns) = cut_refusal (length l.columns) columns
call_refusal k l (fills book) = fill_refusal k l.tracks l.capacity book
call_refusal k l (sets limit mode) = limit_refusal limit
call_refusal k l (begins limit) = limit_refusal limit
call_refusal k l ends = None
call_refusal k l (sizes query) = query_refusal query
call_refusal k l (transposes query by room) = transpose_refusal k by query room
call_refusal k l (asks query room at) = question_refusal (asked k l query) room.list room.prices room.window room.steps

abbrev pub with_columns : Ledger → Score → Ledger
with_columns l columns = record { tracks = l.tracks; capacity = l.capacity; columns = columns; limit = l.limit; mode = l.mode; stack = l.stack }

-- the ledger with the limits in force from the last trial to none: the first of them, and those below it
abbrev pub with_limits : Ledger → (limit : ℕ) → Mode → (stack : List ℕ) → Ledger
with_limits l limit mode stack = record { tracks = l.tracks; capacity = l.capacity; columns = l.columns; limit = limit; mode = mode; stack = stack }

abbrev pub popped : Ledger → List ℕ → Ledger
popped l [] = l
popped l (former ∷ others) = with_limits l former l.mode others

-- what a granted call leads to
abbrev pub granted : Ledger → Command → Ledger
granted l (appends column) = with_columns l (appended l.columns column)
granted l (corrects column track symbol) = with_columns l (corrected l.columns column track symbol)
granted l (cuts columns) = with_columns l (first_columns l.columns columns)
granted l (fills book) = with_columns l (book_columns book)
granted l (sets limit mode) = with_limits l limit mode l.stack
granted l (begins limit) = with_limits l limit l.mode (l.limit ∷ l.stack)
granted l ends = popped l l.stack
granted l (sizes query) = l
granted l (transposes query by room) = l
granted l (asks query room at) = l

-- by a rule: refused, and nothing changes, or granted
abbrev pub by_rule : Option Refusal → (former next : Ledger) → Ledger
by_rule None former next = next
by_rule (Some r) former next = former

-- what a call leads to: no call and a refused one change nothing
abbrev pub leads_to : Kind → Ledger → Command → Ledger
leads_to k l call = cond (no_call l call) l (by_rule (call_refusal k l call) l (granted l call))

-- the ledger after some calls, from another on
abbrev pub after : Kind → Ledger → List Command → Ledger
after k l calls = fold (leads_to k) l calls

-- the ledger that call i meets, counted from 0, in a list of calls on a score over memory of so many symbols
abbrev pub ledger_before : Kind → (tracks memory : ℕ) → List Command → ℕ → Ledger
ledger_before k tracks memory calls i = after k (at_first tracks memory) (take i calls)
