-- The widest gap is no price: one column more in both gaps can turn the order round, so an entry that the
-- window dropped could come to be the cheapest.
use Rattle.std.specs.Prelude.{ℕ, ◌+◌, max, ◌≤◌, nat_le}
use Rattle.price.specs.Pricing.{Pricing, Lawful}

-- by the widest gap of all hand-overs, however the depth is counted
abbrev pub by_widest_gap : (ℕ → ℕ) → Pricing
by_widest_gap depth = record { Meaning = ℕ; depth = depth; nothing = 0; charged = max; not_above = nat_le }

abbrev pub NoPrice : Type 0
NoPrice = (depth : ℕ → ℕ) → ¬ (Lawful (by_widest_gap depth))

-- one price charged with a gap is not above another charged with another gap, and is above it with one column
-- more in both
pub record Turns (one one-gap other other-gap : ℕ) : Type 0 where
  pub before : max one one-gap ≤ max other other-gap
  pub after : ¬ (max one (one-gap + 1) ≤ max other (other-gap + 1))
