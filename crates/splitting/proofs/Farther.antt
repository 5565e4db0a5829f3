-- An entry that costs no more than another still does so from farther away.
use Rattle.std.proofs.Common.{◌≡◌, ℕ, zero, suc, ◌+◌, ◌≤◌, T, subst, arith}
use Rattle.price.specs.Pricing.{Pricing, Lawful as PriceLaws}
use Rattle.splitting.specs.Splitting.{gap}
use Rattle.splitting.specs.Laws.{Farther}
use Rattle.splitting.proofs.Gaps.{gap_at_most, gap_through}

module _ (m : Pricing) (prices : PriceLaws m) (a b : m.Meaning) (deep-a : m.depth a ≤ 62) (deep-b : m.depth b ≤ 62) where
  charged_at : (g g' h h' : ℕ) → g ≡ g' → h ≡ h' → T (m.not_above (m.charged a g) (m.charged b h)) → T (m.not_above (m.charged a g') (m.charged b h'))
  charged_at g g' h h' p q l = subst (λ i. i) (λ z. T (m.not_above (m.charged a (p z)) (m.charged b (q z)))) l

  farther_by : (n g h : ℕ) → n + g ≤ 4094 → n + h ≤ 4094 → T (m.not_above (m.charged a g) (m.charged b h)) → T (m.not_above (m.charged a (n + g)) (m.charged b (n + h)))
  farther_by zero g h p q l = charged_at g (0 + g) h (0 + h) (omega arith) (omega arith) l
  farther_by (suc n) g h p q l =
      charged_at (n + g + 1) (suc n + g) (n + h + 1) (suc n + h) (omega arith) (omega arith)
      (prices.farther a b (n + g) (n + h) deep-a deep-b (omega arith) (omega arith) (farther_by n g h (omega arith) (omega arith) l))

pub farther : (m : Pricing) → Farther m
farther m prices score few a b deep-a deep-b i j x y from before jx jy xs ys sounds l =
    let p = gap_through score i j x before jx sounds in
    let q = gap_through score i j y before jy sounds in
    let u = gap_at_most score i x in
    let v = gap_at_most score i y in
    let n = gap score i j + 1 in
    charged_at m prices a b deep-a deep-b (n + gap score j x) (gap score i x) (n + gap score j y) (gap score i y) (omega arith) (omega arith)
    (farther_by m prices a b deep-a deep-b n (gap score j x) (gap score j y) (omega arith) (omega arith) l)
