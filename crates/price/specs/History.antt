-- What a window over entries has been through, and what it has to tell then.
use Rattle.std.specs.Prelude.{◌≡◌, ℕ, ◌-◌, ◌<◌, ◌≤◌, T, List, [], ◌∷◌, ◌++◌, Some, None, Option}
use Rattle.std.specs.List.{slice_get}
use Rattle.price.specs.Pricing.{Pricing}
use Rattle.price.specs.declared.entry.Entry.{Entry}

pub record History (P : Type 0) : Type 0 where
  -- for how many entries there is room
  pub memory : ℕ
  -- the widest gap that a hand-over may have
  pub limit : ℕ
  -- where the window stands; it moves to earlier positions only
  pub position : ℕ
  -- every entry put in so far, the first one first
  pub puts : List (Entry P)

-- a window just made stands past every position
abbrev pub fresh : {P : Type 0} → ℕ → ℕ → History P
fresh memory limit = record { memory = memory; limit = limit; position = 4294967295; puts = [] }

abbrev pub moved : {P : Type 0} → History P → ℕ → History P
moved h from = record { memory = h.memory; limit = h.limit; position = from; puts = h.puts }

abbrev pub put_in : {P : Type 0} → History P → ℕ → Entry P → History P
put_in h from e = record { memory = h.memory; limit = h.limit; position = from; puts = h.puts ++ e ∷ [] }

-- an entry may be put in from a position: that is no move to a later one, the entry lies after it, and no
-- entry put in before lies nearer
pub record Accepts {P : Type 0} (h : History P) (from : ℕ) (e : Entry P) : Type 0 where
  pub onward : from ≤ h.position
  pub ahead : from < e.position
  pub nearest : (i : ℕ) (d : Entry P) → slice_get h.puts i ≡ Some d → e.position ≤ d.position

-- the positions strictly between
abbrev pub gap : {P : Type 0} → ℕ → Entry P → ℕ
gap from e = e.position - from - 1

-- ahead of where the window stands, and not too far
abbrev pub Within : {P : Type 0} → History P → Entry P → Type 0
Within h e = (h.position < e.position) × (gap h.position e ≤ h.limit)

module _ {P : Type 0} (p : Pricing) (meaning : P → p.Meaning) where
  -- the price of going on at an entry from a position
  abbrev pub cost : ℕ → Entry P → p.Meaning
  cost from e = p.charged (meaning e.price) (gap from e)

  abbrev pub NoDearer : ℕ → Entry P → Entry P → Type 0
  NoDearer from e d = T (p.not_above (cost from e) (cost from d))

  abbrev pub Shallow : History P → Type 0
  Shallow h = (i : ℕ) (e : Entry P) → slice_get h.puts i ≡ Some e → p.depth (meaning e.price) ≤ 62

  -- the laws of prices speak of every entry within the limit
  pub record Bounded (h : History P) : Type 0 where
    pub shallow : Shallow h
    pub near : (i : ℕ) (e : Entry P) → slice_get h.puts i ≡ Some e → Within h e → gap h.position e ≤ 4094

  -- an entry that was put in and is within the limit; no other within it is cheaper from here, and none that
  -- was put in later is as cheap, so of equals the nearest is meant, and of those the last put in
  pub record Least (h : History P) (e : Entry P) : Type 0 where
    pub index : ℕ
    pub stands : slice_get h.puts index ≡ Some e
    pub within : Within h e
    pub least : Bounded h → (i : ℕ) (d : Entry P) → slice_get h.puts i ≡ Some d → Within h d → NoDearer h.position e d
    pub latest : Bounded h → (i : ℕ) (d : Entry P) → slice_get h.puts i ≡ Some d → Within h d → index < i → NoDearer h.position d e → ⊥

  -- absence where no entry is within the limit, else the least one
  abbrev pub Told : History P → Option (Entry P) → Type 0
  Told h None = (i : ℕ) (d : Entry P) → slice_get h.puts i ≡ Some d → Within h d → ⊥
  Told h (Some e) = Least h e
