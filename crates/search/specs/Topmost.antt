-- The cheapest rest of a row, and of those the one that begins earliest.
use Rattle.std.specs.Prelude.{◌≡◌, ℕ, ◌≤◌, T, ℤ, Some, None, Option, ◌≢◌}
use Rattle.price.specs.Pricing.{Pricing}
use Rattle.splitting.specs.Score.{Question}
use Rattle.splitting.specs.Rest.{Rest}
use Rattle.splitting.specs.Answer.{NotAfter}
use Rattle.splitting.specs.declared.Place.{Place}
use Rattle.search.specs.Rows.{column_of, track_of}
use Rattle.search.specs.declared.topping.Best.{Best}

module _ {P : Type 0} (m : Pricing) (meaning : P → m.Meaning) (row : ℕ → Option P) where
  -- the laws of prices hold of all prices in a row
  abbrev pub Shallow : Type 0
  Shallow = (q : ℕ) (a : P) → row q ≡ Some a → m.depth (meaning a) ≤ 63

  -- a price of the row, than which none from u on costs less, and none of that price stands at an earlier place
  pub record Tops (b : Best P) (u : ℕ) : Type 0 where
    pub stands : row b.place ≡ Some b.price
    pub cheapest : (q : ℕ) (a : P) → u ≤ q → row q ≡ Some a → T (m.not_above (meaning b.price) (meaning a))
    pub earliest : (q : ℕ) (a : P) → u ≤ q → row q ≡ Some a → T (m.not_above (meaning a) (meaning b.price)) → b.place ≤ q

  -- the best of the places from u on, or absence where there is no price
  abbrev pub Topmost : Option (Best P) → ℕ → Type 0
  Topmost None u = (q : ℕ) (a : P) → u ≤ q → row q ≢ Some a
  Topmost (Some b) u = Tops b u

-- the column and the track of a place
abbrev pub place_at : ℕ → ℕ → Place
place_at tracks q = record { column = column_of tracks q; track = track_of tracks q }

-- a rest of the whole query, than which none under the same transposition costs less, and none of that price begins
-- in an earlier column, nor on a lower track of that column
pub record BestRest {P : Type 0} (m : Pricing) (meaning : P → m.Meaning) (ask : Question) (c : ℤ) (tracks : ℕ) (b : Best P) : Type 0 where
  pub rest_is : Rest m ask c 1 (column_of tracks b.place) (track_of tracks b.place) (meaning b.price)
  pub least : (x : Place) (a : m.Meaning) → Rest m ask c 1 x.column x.track a → T (m.not_above (meaning b.price) a)
  pub earliest : (x : Place) (a : m.Meaning) → Rest m ask c 1 x.column x.track a → T (m.not_above a (meaning b.price)) → NotAfter (place_at tracks b.place) x

-- the best rest under one transposition, or absence where there is none
abbrev pub BestUnder : {P : Type 0} (m : Pricing) → (P → m.Meaning) → Question → ℤ → ℕ → Option (Best P) → Type 0
BestUnder m meaning ask c tracks None = (x : Place) (a : m.Meaning) → Rest m ask c 1 x.column x.track a → ⊥
BestUnder m meaning ask c tracks (Some b) = BestRest m meaning ask c tracks b
