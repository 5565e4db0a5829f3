-- The rest of a query, note by note: the second view of a splitting.
use Rattle.std.specs.Prelude.{◌≡◌, ℕ, suc, ◌<◌, ◌≤◌, cond, T, List, ◌∷◌, length, ℤ, Some, None, Option}
use Rattle.price.specs.Pricing.{Pricing}
use Rattle.splitting.specs.declared.Piece.{Piece}
use Rattle.splitting.specs.declared.Place.{Place}
use Rattle.splitting.specs.Score.{Question, Admits, Matches}
use Rattle.splitting.specs.Splitting.{gap, Splits, price_of}

module _ (m : Pricing) (ask : Question) (c : ℤ) where
  -- note i lies in column j of track t, and the notes after it follow at the price a
  pub data Rest : ℕ → ℕ → ℕ → m.Meaning → Type 0 where
    -- it is the last
    ends : {i j t : ℕ} → i ≡ length ask.query → Matches ask c i j t → Rest i j t m.nothing
    -- the next note lies in the next column of the track
    goes_on : {i j t : ℕ} {a : m.Meaning} → Matches ask c i j t → Rest (suc i) (suc j) t a → Rest i j t a
    -- the next note is handed over to column j' of track t'
    handed_over : {i j t : ℕ} {a : m.Meaning} (j' t' : ℕ) → Matches ask c i j t → j < j' → gap ask.score j j' ≤ ask.limit → Rest (suc i) j' t' a → Rest i j t (m.charged a (gap ask.score j j'))

  -- pieces that split the query from note i on, the first of them in column j of track t, at the price a
  pub record Cut (i j t : ℕ) (a : m.Meaning) : Type 0 where
    pub head : Piece
    pub tail : List Piece
    pub splits : Splits ask c i (head ∷ tail)
    pub column_is : head.column ≡ j
    pub track_is : head.track ≡ t
    pub price_is : price_of m ask.score (head ∷ tail) ≡ a

-- the whole query can be found from a place at the price a, under a transposition that the mode admits
pub data Begins (m : Pricing) (ask : Question) (x : Place) : m.Meaning → Type 0 where
  begins : {a : m.Meaning} (c : ℤ) → Admits ask.mode c → Rest m ask c 1 x.column x.track a → Begins m ask x a

-- the least of the prices in P, itself one of them, or absence where there is none
abbrev pub Least : (m : Pricing) → (m.Meaning → Type 0) → Option m.Meaning → Type 0
Least m P None = (b : m.Meaning) → P b → ⊥
Least m P (Some a) = P a × ((b : m.Meaning) → P b → T (m.not_above a b))

-- the lesser of two prices where both are present, the first where they are equal
abbrev pub lesser : (m : Pricing) → Option m.Meaning → Option m.Meaning → Option m.Meaning
lesser m None y = y
lesser m (Some a) None = Some a
lesser m (Some a) (Some b) = cond (m.not_above a b) (Some a) (Some b)

-- Each place has an entry, a price or absence. These are the entries open from column j, within the
-- limit, each charged for the hand-over to it.
pub data Open (m : Pricing) (ask : Question) (entry : ℕ → ℕ → Option m.Meaning) (j : ℕ) : m.Meaning → Type 0 where
  opened : {a : m.Meaning} (j' t' : ℕ) → j < j' → gap ask.score j j' ≤ ask.limit → entry j' t' ≡ Some a → Open m ask entry j (m.charged a (gap ask.score j j'))
