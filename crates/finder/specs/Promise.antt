-- What a list of calls promises, whatever it holds.
use Rattle.std.specs.Prelude.{◌≡◌, ℕ, ◌<◌, ◌≤◌, List, [], ◌++◌, length, ℤ, Some, None, vec_items, vec_len, Option, slice_index_or}
use Rattle.notation.specs.Kind.{Kind}
use Rattle.notation.specs.declared.mode.Mode.TheVariants.{AnyTransposition}
use Rattle.price.specs.Pricing.{Pricing}
use Rattle.splitting.specs.Answer.{meant}
use Rattle.splitting.specs.AnswerLaws.{NoDearer, Moved}
use Rattle.splitting.specs.Score.{Score, Question, Transposed}
use Rattle.splitting.specs.declared.Answer.{Answer}
use Rattle.finder.specs.Ledger.{Command, appends, corrects, cuts, fills, sets, begins, ends, sizes, transposes, asks, ledger_before, asked}
use Rattle.finder.specs.Outcomes.{Prices, RightOutcome}
use Rattle.finder.specs.ScoreRules.{memory_refusal}
use Rattle.finder.specs.declared.outcome.Outcome.{Outcome}
use Rattle.finder.specs.declared.outcome.Outcome.TheVariants.{NoCall, Refused, Done, Size, Transposed as MovedTo, First, Second}
use Rattle.finder.specs.declared.outcome.Performance.{Performance}

-- the query of a call, of no notes where it has none
abbrev pub query_of : Command → List ℕ
query_of (appends column) = []
query_of (corrects column track symbol) = []
query_of (cuts columns) = []
query_of (fills book) = []
query_of (sets limit mode) = []
query_of (begins limit) = []
query_of ends = []
query_of (sizes query) = query
query_of (transposes query by room) = query
query_of (asks query room at) = query

-- what a granted question at the first price kind was answered, and at the second
abbrev pub first_answer : {S P R M : Type 0} → (P → M) → Outcome S P R → Option (Answer M)
first_answer meaning NoCall = None
first_answer meaning (Refused r) = None
first_answer meaning Done = None
first_answer meaning (Size n) = None
first_answer meaning (MovedTo v) = None
first_answer meaning (First t) = Some (meant meaning t.answer)
first_answer meaning (Second t) = None

abbrev pub second_answer : {S P R M : Type 0} → (R → M) → Outcome S P R → Option (Answer M)
second_answer meaning NoCall = None
second_answer meaning (Refused r) = None
second_answer meaning Done = None
second_answer meaning (Size n) = None
second_answer meaning (MovedTo v) = None
second_answer meaning (First t) = None
second_answer meaning (Second t) = Some (meant meaning t.answer)

-- the score that the second question is about begins with the whole score of the first; its limit is no lower, and query and mode are the same
pub record AsksMore (one other : Question) : Type 0 where
  pub more : Score
  pub columns : other.score ≡ one.score ++ more
  pub limit : one.limit ≤ other.limit
  pub mode : other.mode ≡ one.mode
  pub query : other.query ≡ one.query

-- the second question is about the same score, under the same limit, and both under any transposition; its query is the first's transposed by d
pub record AsksTransposed (k : Kind) (d : ℤ) (one other : Question) : Type 0 where
  pub columns : other.score ≡ one.score
  pub limit : other.limit ≡ one.limit
  pub mode : one.mode ≡ AnyTransposition
  pub other_mode : other.mode ≡ AnyTransposition
  pub query : Transposed k d one.query other.query

-- any two granted questions at one price kind: `ask i` is what call i asked, `told i` its answer
pub record Alike (k : Kind) (m : Pricing) (ask : ℕ → Question) (told : ℕ → Option (Answer m.Meaning)) : Type 0 where
  -- appending columns and raising the limit lose nothing that was found, and make it no dearer
  pub harmless : (i j : ℕ) (x y : Answer m.Meaning) → told i ≡ Some x → told j ≡ Some y → AsksMore (ask i) (ask j) → NoDearer m x y
  -- a query transposed by d is found alike: at an equal price and the same place, d followed by its shift being the other's
  pub moved : (i j : ℕ) (x y : Answer m.Meaning) → told i ≡ Some x → told j ≡ Some y → (d : ℤ) → AsksTransposed k d (ask i) (ask j) → Moved m k d x y

-- what call i asks, where it is a question
abbrev pub asked_by : Kind → (tracks memory : ℕ) → List Command → ℕ → Question
asked_by k tracks memory calls i = asked k (ledger_before k tracks memory calls i) (query_of (slice_index_or calls i ends))

-- what is promised of a list of calls on a score over memory of so many symbols
pub record Performed {S P R : Type 0} (k : Kind) (byte : S → ℕ) (prices : Prices P R) (tracks memory : ℕ) (calls : List Command) (r : Performance S P R) : Type 0 where
  -- the memory is refused exactly where its rule says so
  pub check : r.memory ≡ memory_refusal tracks memory
  pub as_many : vec_len r.outcomes ≡ length calls
  -- each outcome is right for the ledger that its call meets
  pub each : (i : ℕ) → i < length calls → RightOutcome k byte prices (ledger_before k tracks memory calls i) (slice_index_or calls i ends) (slice_index_or (vec_items r.outcomes) i NoCall)
  -- and any two granted questions at one price kind are alike
  pub first : Alike k prices.first (asked_by k tracks memory calls) (λ i. first_answer prices.first_means (slice_index_or (vec_items r.outcomes) i NoCall))
  pub second : Alike k prices.second (asked_by k tracks memory calls) (λ i. second_answer prices.second_means (slice_index_or (vec_items r.outcomes) i NoCall))
