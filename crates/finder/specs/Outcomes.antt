-- Which outcome of a call is right, by the ledger that it meets.
use Rattle.std.specs.Prelude.{◌≡◌, ℕ, min, List, map, length, take, drop, replicate, ℤ, vec_items, MatchBool, MatchOption}
use Rattle.notation.specs.Kind.{Kind, rest}
use Rattle.price.specs.Pricing.{Pricing}
use Rattle.splitting.specs.Answer.{Answers, meant}
use Rattle.splitting.specs.Score.{Question, Transposed}
use Rattle.splitting.specs.declared.Piece.{Piece}
use Rattle.finder.specs.Ledger.{Ledger, Command, appends, corrects, cuts, fills, sets, begins, ends, sizes, transposes, asks, no_call, call_refusal, asked}
use Rattle.search.specs.Workspace.{workspace_of}
use Rattle.finder.specs.declared.call.PriceKind.{PriceKind}
use Rattle.finder.specs.declared.call.PriceKind.TheVariants.{First as at-first-kind, Second as at-second-kind}
use Rattle.finder.specs.declared.outcome.Outcome.{Outcome}
use Rattle.finder.specs.declared.outcome.Outcome.TheVariants.{NoCall, Refused, Done, Size, Transposed as MovedTo, First, Second}
use Rattle.finder.specs.declared.outcome.Told.{Told}

-- a piece of a list as it is made
abbrev pub blank : Piece
blank = record { first = 0; len = 0; track = 0; column = 0 }

-- a list of so many pieces, and of so many symbols, as they are made: no query has more than 64 notes
abbrev pub blanks : ℕ → List Piece
blanks room = replicate (min room 64) blank

abbrev pub rests : ℕ → List ℕ
rests room = replicate (min room 64) rest

-- what a question is told, with the list as it was made and as it is told
abbrev pub ToldRightly : {P : Type 0} (m : Pricing) → (P → m.Meaning) → Question → ℕ → Told P → Type 0
ToldRightly m meaning ask room t = Answers ask m (meant meaning t.answer) (blanks room) (vec_items t.list)

-- the front of a list is a query transposed, and the rest of it as it was made
abbrev pub MovedRightly : Kind → ℤ → (query : List ℕ) → ℕ → List ℕ → Type 0
MovedRightly k by query room list = Transposed k by query (take (length query) list) × (drop (length query) list ≡ drop (length query) (rests room))

-- Two price kinds, with the meaning of their values.
pub record Prices (P R : Type 0) : Type 1 where
  pub first : Pricing
  pub first_means : P → first.Meaning
  pub second : Pricing
  pub second_means : R → second.Meaning

abbrev pub TransposedBy : {S P R : Type 0} → Kind → (S → ℕ) → ℤ → List ℕ → ℕ → Outcome S P R → Type 0
TransposedBy k byte by query room NoCall = ⊥
TransposedBy k byte by query room (Refused r) = ⊥
TransposedBy k byte by query room Done = ⊥
TransposedBy k byte by query room (Size n) = ⊥
TransposedBy k byte by query room (MovedTo v) = MovedRightly k by query room (map byte (vec_items v))
TransposedBy k byte by query room (First t) = ⊥
TransposedBy k byte by query room (Second t) = ⊥

-- a question is told at the price kind that it was asked at
abbrev pub AnsweredAt : {S P R : Type 0} → Prices P R → Question → ℕ → PriceKind → Outcome S P R → Type 0
AnsweredAt prices ask room at NoCall = ⊥
AnsweredAt prices ask room at (Refused r) = ⊥
AnsweredAt prices ask room at Done = ⊥
AnsweredAt prices ask room at (Size n) = ⊥
AnsweredAt prices ask room at (MovedTo v) = ⊥
AnsweredAt prices ask room at (First t) = (at ≡ at-first-kind) × ToldRightly prices.first prices.first_means ask room t
AnsweredAt prices ask room at (Second t) = (at ≡ at-second-kind) × ToldRightly prices.second prices.second_means ask room t

-- what a granted call gives
abbrev pub Gives : {S P R : Type 0} → Kind → (S → ℕ) → Prices P R → Ledger → Command → Outcome S P R → Type 0
Gives k byte prices l (appends column) o = o ≡ Done
Gives k byte prices l (corrects column track symbol) o = o ≡ Done
Gives k byte prices l (cuts columns) o = o ≡ Done
Gives k byte prices l (fills book) o = o ≡ Done
Gives k byte prices l (sets limit mode) o = o ≡ Done
Gives k byte prices l (begins limit) o = o ≡ Done
Gives k byte prices l ends o = o ≡ Done
Gives k byte prices l (sizes query) o = o ≡ Size (workspace_of (asked k l query))
Gives k byte prices l (transposes query by room) o = TransposedBy k byte by query room o
Gives k byte prices l (asks query room at) o = AnsweredAt prices (asked k l query) room.list at o

-- no call, refused with number, place and layer, or granted: each exactly where the ledger says so
abbrev pub RightOutcome : {S P R : Type 0} → Kind → (S → ℕ) → Prices P R → Ledger → Command → Outcome S P R → Type 0
RightOutcome k byte prices l call o =
    MatchBool (no_call l call)
    (o ≡ NoCall)
    (MatchOption (call_refusal k l call) (Gives k byte prices l call o) (λ r. o ≡ Refused r))
