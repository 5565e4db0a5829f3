-- The pieces that the steps of the rows lead through.
use Rattle.std.specs.Prelude.{◌≡◌, ℕ, ◌<◌, ◌≤◌, List, ◌++◌, length, drop, ℤ, Some, Option}
use Rattle.price.specs.Pricing.{Pricing}
use Rattle.splitting.specs.declared.Piece.{Piece}
use Rattle.splitting.specs.declared.Place.{Place}
use Rattle.splitting.specs.Score.{Question}
use Rattle.splitting.specs.Splitting.{Splits, price_of}
use Rattle.splitting.specs.Answer.{beginning}
use Rattle.search.specs.Resting.{Posed, Wanted, row_of, RowRight}

-- the rows are right for a question and a transposition, and at the place `start` that of the first note has a price
pub record Trail {P : Type 0} (m : Pricing) (meaning : P → m.Meaning) (bytes : List ℕ) (tracks : ℕ) (want steps : List ℕ) (start : ℕ) (ask : Question) (c : ℤ) (prices : List (Option P)) (a : P) : Type 0 where
  pub posed : Posed ask bytes tracks
  pub wanted : Wanted ask c want
  pub right : (k : ℕ) → k < length want → RowRight m meaning ask c bytes tracks want prices steps k
  pub stands : row_of bytes want prices 0 start ≡ Some a

-- The front of the list that was `before` and is now `after` holds so many pieces. They split the whole query under
-- the transposition c, from the place x, at the price a; what lies behind them is as it was.
pub record Written (m : Pricing) (ask : Question) (c : ℤ) (x : Place) (a : m.Meaning) (count : ℕ) (before after : List Piece) : Type 0 where
  pub pieces : List Piece
  pub splits : Splits ask c 1 pieces
  pub begins : beginning pieces ≡ x
  pub price_is : price_of m ask.score pieces ≡ a
  pub count_is : count ≡ length pieces
  pub room : count ≤ length before
  pub list_is : after ≡ pieces ++ drop count before

-- some question, transposition and prices have a trail from the place `start`
abbrev pub Leading : {P : Type 0} (m : Pricing) → (P → m.Meaning) → List ℕ → ℕ → List ℕ → List ℕ → ℕ → Type 0
Leading {P = P} m meaning bytes tracks want steps start = (ask : Question) × (c : ℤ) × (prices : List (Option P)) × (a : P) × Trail m meaning bytes tracks want steps start ask c prices a
