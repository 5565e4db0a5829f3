-- What the rows of the search say about the rests of a query.
use Rattle.std.specs.Prelude.{◌≡◌, ℕ, suc, ◌+◌, ◌*◌, ◌/◌, ◌<◌, ◌≤◌, List, length, drop, ℤ, Some, None, sum_by, count_by, Option, nat_eq, slice_index, slice_index_or}
use Rattle.std.specs.Option.{option_map}
use Rattle.notation.specs.Kind.{rest}
use Rattle.price.specs.Pricing.{Pricing}
use Rattle.splitting.specs.Score.{Question, note}
use Rattle.splitting.specs.Splitting.{gap}
use Rattle.splitting.specs.Rest.{Rest, Least}
use Rattle.splitting.specs.Laws.{Covered}
use Rattle.search.specs.Columns.{columns_of}
use Rattle.search.specs.Tables.{later}
use Rattle.search.specs.Rows.{column_of, track_of, value, going_on}

-- a question about the score whose symbols stand column after column
pub record Posed (ask : Question) (bytes : List ℕ) (tracks : ℕ) : Type 0 where
  pub columns : ℕ
  pub score_is : ask.score ≡ columns_of tracks columns bytes
  pub size_is : length bytes ≡ columns * tracks
  pub covered : Covered ask

-- under the transposition c note i wants the byte b
abbrev pub Wants : Question → ℤ → ℕ → ℕ → Type 0
Wants ask c i b = ask.kind.interval (note ask.query i) b ≡ Some c

-- note i wants the byte b, and the note after it b'
pub record NextNotes (ask : Question) (c : ℤ) (i b b' : ℕ) (bytes : List ℕ) (tracks limit : ℕ) : Type 0 where
  pub posed : Posed ask bytes tracks
  pub limit_is : ask.limit ≡ limit
  pub wants : Wants ask c i b
  pub wants_next : Wants ask c (suc i) b'
  pub more : i < length ask.query

-- the step that stands for a place in a row
abbrev pub step_at : List ℕ → ℕ → List ℕ → ℕ → ℕ
step_at bytes offset steps q = slice_index steps (offset + later bytes q)

module _ {P : Type 0} (m : Pricing) (meaning : P → m.Meaning) (ask : Question) (bytes : List ℕ) (tracks : ℕ) where
  -- from u on a row has at each place of the byte the least price of the rests of note i
  abbrev pub LeastRow : ℤ → ℕ → ℕ → (ℕ → Option P) → ℕ → Type 0
  LeastRow c i b row u = (q : ℕ) → u ≤ q → q < length bytes → slice_index_or bytes q rest ≡ b → Least m (Rest m ask c i (column_of tracks q) (track_of tracks q)) (option_map meaning (row q))

  -- a step from place q leads to a price in the next row, from which the price at q comes
  pub data Leads (next : ℕ → Option P) (q : ℕ) : Option P → ℕ → Type 0 where
    nowhere : {s : ℕ} → Leads next q None s
    on : {a : P} → next (q + tracks) ≡ Some a → Leads next q (Some a) going_on
    over : {a a' : P} {s : ℕ} → next s ≡ Some a' → q / tracks < s / tracks → gap ask.score (column_of tracks q) (column_of tracks s) ≤ ask.limit → meaning a ≡ m.charged (meaning a') (gap ask.score (column_of tracks q) (column_of tracks s)) → Leads next q (Some a) s

  -- from u on each step of a row leads into the next row
  abbrev pub LeadingRow : ℕ → (ℕ → Option P) → (ℕ → Option P) → (ℕ → ℕ) → ℕ → Type 0
  LeadingRow b row next steps u = (q : ℕ) → u ≤ q → q < length bytes → slice_index_or bytes q rest ≡ b → Leads next q (row q) (steps q)

-- under the transposition c each note wants its byte
pub record Wanted (ask : Question) (c : ℤ) (want : List ℕ) : Type 0 where
  pub as_long : length want ≡ length ask.query
  pub each : (k : ℕ) → k < length want → Wants ask c (suc k) (slice_index want k)

-- where the row of a note, counted from 0, begins: behind the rows of all later notes
abbrev pub offset_of : List ℕ → List ℕ → ℕ → ℕ
offset_of bytes want k = sum_by (λ b. count_by (nat_eq b) bytes) (drop (k + 1) want)

-- the row of a note, counted from 0
abbrev pub row_of : {P : Type 0} → List ℕ → List ℕ → List (Option P) → ℕ → ℕ → Option P
row_of bytes want prices k = value bytes (slice_index want k) (offset_of bytes want k) prices

-- the row of a note has the least prices of its rests, and its steps lead into the next row
pub record RowRight {P : Type 0} (m : Pricing) (meaning : P → m.Meaning) (ask : Question) (c : ℤ) (bytes : List ℕ) (tracks : ℕ) (want : List ℕ) (prices : List (Option P)) (steps : List ℕ) (k : ℕ) : Type 0 where
  pub least : LeastRow m meaning ask bytes tracks c (suc k) (slice_index want k) (row_of bytes want prices k) 0
  pub leading : k + 1 < length want → LeadingRow m meaning ask bytes tracks (slice_index want k) (row_of bytes want prices k) (row_of bytes want prices (k + 1)) (step_at bytes (offset_of bytes want k) steps) 0

-- the rows from note i on, counted from 0, are right for every question and transposition under which the notes
-- want these bytes
abbrev pub RowsRight : {P : Type 0} (m : Pricing) → (P → m.Meaning) → List ℕ → ℕ → ℕ → List ℕ → List (Option P) → List ℕ → ℕ → Type 0
RowsRight m meaning bytes tracks limit want prices steps i = (ask : Question) (c : ℤ) → Posed ask bytes tracks → ask.limit ≡ limit → Wanted ask c want → (k : ℕ) → i ≤ k → k < length want → RowRight m meaning ask c bytes tracks want prices steps k
