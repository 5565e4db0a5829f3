-- What a question may be answered.
use Rattle.std.specs.Prelude.{◌≡◌, ◌<◌, ◌≤◌, T, ◌⊎◌, List, [], ◌∷◌, ◌++◌, length, drop, ℤ}
use Rattle.price.specs.Pricing.{Pricing, Equal}
use Rattle.splitting.specs.declared.Answer.{Answer}
use Rattle.splitting.specs.declared.Answer.TheVariants.{None as none, Found as found}
use Rattle.splitting.specs.declared.Found.{Found}
use Rattle.splitting.specs.declared.Piece.{Piece}
use Rattle.splitting.specs.declared.Place.{Place}
use Rattle.splitting.specs.Score.{Question, Admits}
use Rattle.splitting.specs.Splitting.{Splits, price_of}

-- a way to find the whole query: a splitting of it, under a transposition that the mode admits
pub record Way (ask : Question) (shift : ℤ) (pieces : List Piece) : Type 0 where
  pub admitted : Admits ask.mode shift
  pub splits : Splits ask shift 1 pieces

abbrev pub NoWay : Question → Type 0
NoWay ask = (c : ℤ) (ps : List Piece) → Way ask c ps → ⊥

-- where a way begins
abbrev pub beginning : List Piece → Place
beginning [] = record { column = 0; track = 0 }
beginning (p ∷ ps) = record { column = p.column; track = p.track }

-- an earlier column, or the same column and no higher track
abbrev pub NotAfter : Place → Place → Type 0
NotAfter x y = (x.column < y.column) ⊎ ((x.column ≡ y.column) × (x.track ≤ y.track))

-- what is found is told rightly, and the list that was `before` is now `after`
pub record Right (ask : Question) (m : Pricing) (f : Found m.Meaning) (before after : List Piece) : Type 0 where
  -- the pieces told are a way, under the transposition told, from the place told
  pub pieces : List Piece
  pub way : Way ask f.shift pieces
  pub place_is : f.place ≡ beginning pieces
  -- at the price told, of a depth at which the laws of prices hold, so that being equal says something
  pub price_is : Equal m (price_of m ask.score pieces) f.price
  pub price_deep : m.depth f.price ≤ 63
  -- no way costs less
  pub least : (c : ℤ) (ps : List Piece) → Way ask c ps → T (m.not_above f.price (price_of m ask.score ps))
  -- and none at that price begins in an earlier column, nor on a lower track of that column
  pub earliest : (c : ℤ) (ps : List Piece) → Way ask c ps → Equal m (price_of m ask.score ps) f.price → NotAfter f.place (beginning ps)
  -- the pieces are the front of the list, in the number told, and the rest of it is as it was
  pub count_is : f.count ≡ length pieces
  pub room : f.count ≤ length before
  pub list_is : after ≡ pieces ++ drop f.count before

-- an answer: none exactly where there is no way, and then the list is as it was
abbrev pub Answers : Question → (m : Pricing) → Answer m.Meaning → List Piece → List Piece → Type 0
Answers ask m none before after = NoWay ask × (after ≡ before)
Answers ask m (found f) before after = Right ask m f before after

-- what is told, by the meaning of the price: `Answers` speaks of meanings
abbrev pub meant : {P M : Type 0} → (P → M) → Answer P → Answer M
meant meaning none = none
meant meaning (found f) = found (record { price = meaning f.price; count = f.count; shift = f.shift; place = f.place })
