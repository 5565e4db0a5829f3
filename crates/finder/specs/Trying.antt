-- How a session keeps the ledger, and what it is to try one call.
use Rattle.std.specs.Prelude.{◌≡◌, ℕ, List, ◌∷◌, map, reverse, vec_items, drop, Some, None, Ok, Err, Result, MatchResult, slice_index}
use Rattle.notation.specs.Kind.{Kind}
use Rattle.notation.specs.declared.mode.Mode.{Mode}
use Rattle.notation.specs.declared.Symbol.{Ghosts as SymbolGhosts}
use Rattle.price.specs.declared.Price.{Ghosts as PriceGhosts}
use Rattle.price.specs.Pricing.{Pricing}
use Rattle.book.specs.declared.refusal.Refusal.{Refusal}
use Rattle.splitting.specs.Score.{Question}
use Rattle.finder.specs.Ledger.{Ledger, Command, leads_to}
use Rattle.finder.specs.Outcomes.{Prices, RightOutcome, ToldRightly}
use Rattle.search.specs.Questions.{question_refusal}
use Rattle.finder.specs.ScoreRules.{score_told}
use Rattle.finder.specs.Scores.{columns_held}
use Rattle.finder.specs.declared.call.Room.{Room}
use Rattle.finder.specs.declared.outcome.Outcome.{Outcome}
use Rattle.finder.specs.declared.outcome.Outcome.TheVariants.{Refused, Done}
use Rattle.finder.specs.declared.outcome.Told.{Told}
use Rattle.finder.specs.declared.score.Score.{Score}
use Rattle.finder.specs.declared.score_fault.ScoreFault.{ScoreFault}
use Rattle.finder.specs.declared.session.Session.{Session}

-- the limits from the one in force to that of the terms, which stands when no trial is open
abbrev pub limits : {S : Type 0} → Session S → List ℕ
limits s = reverse (map (λ l. l.value) (s.terms.limit ∷ vec_items s.tried))

-- the ledger that a session keeps: the terms hold their own limit, and the limits tried come after it
abbrev pub ledger_of : {S : Type 0} → (S → ℕ) → Session S → Ledger
ledger_of byte s =
    record {
      tracks = s.score.tracks;
      capacity = s.score.capacity;
      columns = columns_held byte s.score;
      limit = slice_index (limits s) 0;
      mode = s.terms.mode;
      stack = drop 1 (limits s);
    }

abbrev pub prices_of : {P R : Type 0} (m : Pricing) → (P → m.Meaning) → (n : Pricing) → (R → n.Meaning) → Prices P R
prices_of m means n also = record { first = m; first_means = means; second = n; second_means = also }

-- a call is tried: its outcome is right, and what is kept is what it leads to
abbrev pub Tried : {S P R : Type 0} → Kind → (S → ℕ) → Prices P R → Ledger → Command → Ledger → Outcome S P R → Type 0
Tried k byte prices before call after o = RightOutcome k byte prices before call o × (after ≡ leads_to k before call)

-- and on a session, by what its symbols and the values of both price kinds mean
abbrev pub CallTried : {S P R : Type 0} → SymbolGhosts S → PriceGhosts P → PriceGhosts R → (before : Session S) → Command → (after : Session S) → Outcome S P R → Type 0
CallTried s p r before call after o = Tried s.kind s.byte (prices_of p.pricing p.meaning r.pricing r.meaning) (ledger_of s.byte before) call (ledger_of s.byte after) o

-- the outcome of a change by its result
abbrev pub changed : {S P R : Type 0} → Result (Unit {0}) ScoreFault → Outcome S P R
changed (Ok x) = Done
changed (Err f) = Refused (score_told f)

-- what a query asks of a score under a limit and a mode
abbrev pub under : {S : Type 0} → Kind → (S → ℕ) → Score S → (limit : ℕ) → Mode → List S → Question
under k byte score limit mode query = record { kind = k; score = columns_held byte score; limit = limit; mode = mode; query = map byte query }

-- a question lent a list and sheets of these lengths: told rightly, or refused by its rule
abbrev pub AnsweredUnder : {P : Type 0} (m : Pricing) → (P → m.Meaning) → Question → Room → Result (Told P) Refusal → Type 0
AnsweredUnder m meaning ask room r =
    MatchResult r
    (λ t. (question_refusal ask room.list room.prices room.window room.steps ≡ None) × ToldRightly m meaning ask room.list t)
    (λ f. question_refusal ask room.list room.prices room.window room.steps ≡ Some f)
