-- What it is to split a query into pieces that lie in a score, and what a splitting costs.
use Rattle.std.specs.Prelude.{◌≡◌, ℕ, suc, ◌+◌, ◌-◌, ◌<◌, ◌≤◌, List, [], ◌∷◌, length, ℤ, sum}
use Rattle.price.specs.Pricing.{Pricing}
use Rattle.splitting.specs.declared.Piece.{Piece}
use Rattle.splitting.specs.Score.{Score, Question, Matches}

-- the last column of a piece
abbrev pub last : Piece → ℕ
last p = p.column + p.len - 1

-- The gap between a piece that ends in column a and one that begins in column b: how many columns
-- lie strictly between. A column in which every track rests counts like any other. What is used of
-- this definition elsewhere are its laws alone (`Gaps` of `Laws`).
unfoldable pub gap : Score → ℕ → ℕ → ℕ
gap score a b = b - suc a

-- a piece that begins with the note `from`: not empty, unbroken on one track in neighbouring columns,
-- each of its notes at the interval c from the query's
pub record Placed (ask : Question) (c : ℤ) (from : ℕ) (p : Piece) : Type 0 where
  pub first_is : p.first ≡ from
  pub some : 0 < p.len
  pub lies : (i : ℕ) → i < p.len → Matches ask c (p.first + i) (p.column + i) p.track

-- a hand-over, the joint of two pieces: the second begins, on any track, in a later column than the
-- first ended, and their gap is at most the limit
pub record HandedOver (ask : Question) (p q : Piece) : Type 0 where
  pub later : last p < q.column
  pub within : gap ask.score (last p) q.column ≤ ask.limit

-- the pieces cut the query from the note `from` on, under the transposition c
abbrev pub Splits : Question → ℤ → ℕ → List Piece → Type 0
Splits ask c from [] = ⊥
Splits ask c from (p ∷ []) = Placed ask c from p × (from + p.len ≡ suc (length ask.query))
Splits ask c from (p ∷ q ∷ ps) = Placed ask c from p × HandedOver ask p q × Splits ask c (from + p.len) (q ∷ ps)

-- the gaps of the hand-overs, from the first to the last
abbrev pub gaps : Score → List Piece → List ℕ
gaps score [] = []
gaps score (p ∷ []) = []
gaps score (p ∷ q ∷ ps) = gap score (last p) q.column ∷ gaps score (q ∷ ps)

-- the price of hand-overs with these gaps: charged from the last to the first
abbrev pub charges : (m : Pricing) → List ℕ → m.Meaning
charges m [] = m.nothing
charges m (g ∷ gs) = m.charged (charges m gs) g

-- the price of a splitting
abbrev pub price_of : (m : Pricing) → Score → List Piece → m.Meaning
price_of m score pieces = charges m (gaps score pieces)

-- the silence of a splitting
abbrev pub silence : Score → List Piece → ℕ
silence score pieces = sum (gaps score pieces)
