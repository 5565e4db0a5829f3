-- Comparing two entries from one position after another.
use Rattle.std.proofs.Common.{◌≡◌, ℕ, zero, suc, ◌+◌, ◌-◌, ◌<◌, ◌≤◌, T, ◌⊎◌, subst, inl, inr, arith}
use Rattle.price.specs.Pricing.{Pricing, Lawful}
use Rattle.price.specs.History.{gap, cost, NoDearer}
use Rattle.price.specs.Keeping.{StaysNoDearer}
use Rattle.price.specs.declared.entry.Entry.{Entry}

module _ {P : Type 0} (p : Pricing) (meaning : P → p.Meaning) (laws : Lawful p) where
  abbrev Light : Entry P → Type 0
  Light e = p.depth (meaning e.price) ≤ 62

  -- a price charged once is one that can still be compared
  depth_cost : (from : ℕ) (e : Entry P) → Light e → gap from e ≤ 4094 → p.depth (cost p meaning from e) ≤ 63
  depth_cost from e l g = let r = laws.rises (meaning e.price) (gap from e) l g in omega arith

  pub no_dearer_self : (from : ℕ) (e : Entry P) → Light e → gap from e ≤ 4094 → NoDearer p meaning from e e
  no_dearer_self from e l g = let d = depth_cost from e l g in elim (laws.total (cost p meaning from e) (cost p meaning from e) d d) [ inl t ↦ t | inr t ↦ t ]

  pub no_dearer_trans :
      (from : ℕ) (a b c : Entry P) → Light a → Light b → Light c → gap from a ≤ 4094 → gap from b ≤ 4094 → gap from c ≤ 4094 → NoDearer p meaning from a b → NoDearer p meaning from b c → NoDearer p meaning from a c
  no_dearer_trans from a b c la lb lc ga gb gc =
      laws.trans (cost p meaning from a) (cost p meaning from b) (cost p meaning from c) (depth_cost from a la ga) (depth_cost from b lb gb) (depth_cost from c lc gc)

  -- one of two is no dearer
  pub no_dearer_total : (from : ℕ) (a b : Entry P) → Light a → Light b → gap from a ≤ 4094 → gap from b ≤ 4094 → NoDearer p meaning from a b ⊎ NoDearer p meaning from b a
  no_dearer_total from a b la lb ga gb = laws.total (cost p meaning from a) (cost p meaning from b) (depth_cost from a la ga) (depth_cost from b lb gb)

  module _ (a b : p.Meaning) (deep-a : p.depth a ≤ 62) (deep-b : p.depth b ≤ 62) where
    charged_at : (g g' h h' : ℕ) → g ≡ g' → h ≡ h' → T (p.not_above (p.charged a g) (p.charged b h)) → T (p.not_above (p.charged a g') (p.charged b h'))
    charged_at g g' h h' i j l = subst (λ i. i) (λ z. T (p.not_above (p.charged a (i z)) (p.charged b (j z)))) l

    farther_by : (n g h : ℕ) → g + n ≤ 4094 → h + n ≤ 4094 → T (p.not_above (p.charged a g) (p.charged b h)) → T (p.not_above (p.charged a (g + n)) (p.charged b (h + n)))
    farther_by zero g h i j l = charged_at g (g + 0) h (h + 0) (omega arith) (omega arith) l
    farther_by (suc n) g h i j l =
        charged_at (g + n + 1) (g + suc n) (h + n + 1) (h + suc n) (omega arith) (omega arith)
        (laws.farther a b (g + n) (h + n) deep-a deep-b (omega arith) (omega arith) (farther_by n g h (omega arith) (omega arith) l))

  -- what is no dearer from a position stays so as the window moves away from both
  pub stays :
      (at : ℕ) (e d : Entry P) → Light e → Light d → at < e.position → at < d.position → (gap at e ≤ 4094 → gap at d ≤ 4094 → NoDearer p meaning at e d) → StaysNoDearer p meaning at e d
  stays at e d le ld ae ad h from l ge gd =
      charged_at (meaning e.price) (meaning d.price) le ld (gap at e + (at - from)) (gap from e) (gap at d + (at - from)) (gap from d) (omega arith) (omega arith)
      (farther_by (meaning e.price) (meaning d.price) le ld (at - from) (gap at e) (gap at d) (omega arith) (omega arith) (h (omega arith) (omega arith)))
