-- What prices mean: a price kind, and the laws that every kind keeps.
use Rattle.std.specs.Prelude.{◌≡◌, ℕ, ◌+◌, ◌<◌, ◌≤◌, Bool, T, ◌⊎◌}

pub record Pricing : Type 1 where
  pub Meaning : Type 0
  -- how often a price can have been charged at most: the laws are owed up to 63
  pub depth : Meaning → ℕ
  -- the price of one piece alone
  pub nothing : Meaning
  -- a price charged for one more hand-over with its gap, the columns strictly between
  pub charged : Meaning → ℕ → Meaning
  -- the order of prices
  pub not_above : Meaning → Meaning → Bool

pub record Lawful (p : Pricing) : Type 0 where
  pub start : p.depth p.nothing ≡ 0
  -- a charge raises the depth by at most one
  pub rises : (a : p.Meaning) (g : ℕ) → p.depth a ≤ 62 → g ≤ 4094 → p.depth (p.charged a g) ≤ p.depth a + 1
  -- the order is total and transitive
  pub total : (a b : p.Meaning) → p.depth a ≤ 63 → p.depth b ≤ 63 → T (p.not_above a b) ⊎ T (p.not_above b a)
  pub trans : (a b c : p.Meaning) → p.depth a ≤ 63 → p.depth b ≤ 63 → p.depth c ≤ 63 → T (p.not_above a b) → T (p.not_above b c) → T (p.not_above a c)
  -- charging both with one gap keeps the order
  pub monotone : (a b : p.Meaning) (g : ℕ) → p.depth a ≤ 62 → p.depth b ≤ 62 → g ≤ 4094 → T (p.not_above a b) → T (p.not_above (p.charged a g) (p.charged b g))
  -- and so does one column more in both gaps
  pub farther : (a b : p.Meaning) (g h : ℕ) → p.depth a ≤ 62 → p.depth b ≤ 62 → g < 4094 → h < 4094 → T (p.not_above (p.charged a g) (p.charged b h)) → T (p.not_above (p.charged a (g + 1)) (p.charged b (h + 1)))

-- equal prices: each is not above the other
abbrev pub Equal : (p : Pricing) → p.Meaning → p.Meaning → Type 0
Equal p a b = T (p.not_above a b) × T (p.not_above b a)
