-- The least price of a note's rest, from those of the next note.
use Rattle.std.proofs.Common.{◌≡◌, ℕ, suc, ◌<◌, ◌≤◌, Bool, true, false, cond, T, ◌⊎◌, length, ℤ, Some, None, Option, refl, subst, inl, inr, arith}
use Rattle.price.specs.Pricing.{Pricing, Lawful as PriceLaws}
use Rattle.splitting.specs.Score.{Question, Matches}
use Rattle.splitting.specs.Splitting.{gap}
use Rattle.splitting.specs.Rest.{Rest, ends, goes_on, handed_over, Least, lesser, Open, opened}
use Rattle.splitting.specs.Laws.{Covered}
use Rattle.splitting.proofs.Places.{match_note}
use Rattle.splitting.proofs.Depths.{rest_matches, gap_small, depth_small, depth_63}

-- a price is not above itself
pub self : (m : Pricing) → PriceLaws m → (a : m.Meaning) → m.depth a ≤ 63 → T (m.not_above a a)
self m prices a d = elim (prices.total a a d d) [ inl l ↦ l | inr l ↦ l ]

pub least_same : (m : Pricing) (P Q : m.Meaning → Type 0) → ((b : m.Meaning) → P b → Q b) → ((b : m.Meaning) → Q b → P b) → (x : Option m.Meaning) → Least m P x → Least m Q x
least_same m P Q to from None h = λ b q. h b (from b q)
least_same m P Q to from (Some a) h = (to a h.0, λ b q. h.1 b (from b q))

module _ (m : Pricing) (prices : PriceLaws m) (P Q : m.Meaning → Type 0) (in-P : (b : m.Meaning) → P b → m.depth b ≤ 63) (in-Q : (b : m.Meaning) → Q b → m.depth b ≤ 63) where
  chosen : (a b : m.Meaning) (v : Bool) → (T v → Least m (λ z. P z ⊎ Q z) (Some a)) → ((T v → ⊥) → Least m (λ z. P z ⊎ Q z) (Some b)) → Least m (λ z. P z ⊎ Q z) (cond v (Some a) (Some b))
  chosen a b true f g = f tt
  chosen a b false f g = g (λ z. z)

  first_least : (a b : m.Meaning) → Least m P (Some a) → Least m Q (Some b) → T (m.not_above a b) → Least m (λ z. P z ⊎ Q z) (Some a)
  first_least a b h g l =
      (inl h.0, λ z. elim [ inl p ↦ h.1 z p | inr q ↦ prices.trans a b z (in-P a h.0) (in-Q b g.0) (in-Q z q) l (g.1 z q) ])

  second_least : (a b : m.Meaning) → Least m P (Some a) → Least m Q (Some b) → T (m.not_above b a) → Least m (λ z. P z ⊎ Q z) (Some b)
  second_least a b h g l =
      (inr g.0, λ z. elim [ inl p ↦ prices.trans b a z (in-Q b g.0) (in-P a h.0) (in-P z p) l (h.1 z p) | inr q ↦ g.1 z q ])

  -- the least of two kinds of prices is the lesser of the two
  pub least_either : (x y : Option m.Meaning) → Least m P x → Least m Q y → Least m (λ z. P z ⊎ Q z) (lesser m x y)
  least_either None None h g = λ b. elim [ inl p ↦ h b p | inr q ↦ g b q ]
  least_either None (Some b) h g = (inr g.0, λ z. elim [ inl p ↦ absurd (h z p) | inr q ↦ g.1 z q ])
  least_either (Some a) None h g = (inl h.0, λ z. elim [ inl p ↦ h.1 z p | inr q ↦ absurd (g z q) ])
  least_either (Some a) (Some b) h g =
      chosen a b (m.not_above a b) (first_least a b h g)
      (λ never. elim (prices.total a b (in-P a h.0) (in-Q b g.0)) [ inl l ↦ absurd (never l) | inr l ↦ second_least a b h g l ])

module _ (m : Pricing) (prices : PriceLaws m) (ask : Question) (covered : Covered ask) (c : ℤ) (i j t : ℕ) where
  pub least_unmatched : (Matches ask c i j t → ⊥) → Least m (Rest m ask c i j t) None
  least_unmatched never b r = never (rest_matches r)

  at_last : i ≡ length ask.query → (b : m.Meaning) → Rest m ask c i j t b → T (m.not_above m.nothing b)
  at_last e b (ends f h) = self m prices m.nothing (omega (arith, prices.start))
  at_last e b (goes_on h r) = let p = match_note ask covered.kind_laws c (suc i) (suc j) t (rest_matches r) in absurd (omega arith)
  at_last e b (handed_over j' t' h l g r) = let p = match_note ask covered.kind_laws c (suc i) j' t' (rest_matches r) in absurd (omega arith)

  pub least_last : i ≡ length ask.query → Matches ask c i j t → Least m (Rest m ask c i j t) (Some m.nothing)
  least_last e h = (ends e h, at_last e)

  module _ (h : Matches ask c i j t) (more : i < length ask.query) (entry : ℕ → ℕ → Option m.Meaning) (known : (j' t' : ℕ) → Least m (Rest m ask c (suc i) j' t') (entry j' t')) where
    -- the prices of the rests that are handed over here
    data Over : m.Meaning → Type 0 where
      over : {a : m.Meaning} (j' t' : ℕ) → j < j' → gap ask.score j j' ≤ ask.limit → Rest m ask c (suc i) j' t' a → Over (m.charged a (gap ask.score j j'))

    to_rest : (b : m.Meaning) → Rest m ask c (suc i) (suc j) t b ⊎ Over b → Rest m ask c i j t b
    to_rest b (inl r) = goes_on h r
    to_rest b (inr (over j' t' l g r)) = handed_over j' t' h l g r

    from_rest : (b : m.Meaning) → Rest m ask c i j t b → Rest m ask c (suc i) (suc j) t b ⊎ Over b
    from_rest b (ends e _) = absurd (omega arith)
    from_rest b (goes_on _ r) = inl r
    from_rest b (handed_over j' t' _ l g r) = inr (over j' t' l g r)

    known_some : (j' t' : ℕ) (a : m.Meaning) → entry j' t' ≡ Some a → Least m (Rest m ask c (suc i) j' t') (Some a)
    known_some j' t' a e = subst (Least m (Rest m ask c (suc i) j' t')) e (known j' t')

    entry_of : (j' t' : ℕ) (b : m.Meaning) → Rest m ask c (suc i) j' t' b → (a : m.Meaning) × (entry j' t' ≡ Some a)
    entry_of j' t' b r = go (entry j' t') refl
      where
        go : (o : Option m.Meaning) → entry j' t' ≡ o → (a : m.Meaning) × (entry j' t' ≡ Some a)
        go None e = absurd (subst (Least m (Rest m ask c (suc i) j' t')) e (known j' t') b r)
        go (Some a) e = (a, e)

    -- before the charge a rest of the next note has depth at most 62
    before : {j' t' : ℕ} {a : m.Meaning} → Rest m ask c (suc i) j' t' a → m.depth a ≤ 62
    before r = let p = match_note ask covered.kind_laws c i j t h in let short = covered.short in let d = depth_small m prices ask covered c r in omega arith

    over_deep : (b : m.Meaning) → Over b → m.depth b ≤ 63
    over_deep b o = depth_63 m prices ask covered c (to_rest b (inr o))

    opened_over : (a : m.Meaning) → Open m ask entry j a → Over a
    opened_over a (opened {a = b} j' t' l g e) = over j' t' l g (known_some j' t' b e).0

    -- what is not above the entries open is not above any rest that is handed over
    over_below : (y : m.Meaning) → m.depth y ≤ 63 → ((b : m.Meaning) → Open m ask entry j b → T (m.not_above y b)) → (b : m.Meaning) → Over b → T (m.not_above y b)
    over_below y d lowest b (over {a = r} j' t' l g rest) =
        let e = entry_of j' t' r rest in
        let q = known_some j' t' e.0 e.1 in
        let size = gap ask.score j j' in
        let small = gap_small ask covered c i j t (suc i) j' t' h (rest_matches rest) in
        prices.trans y (m.charged e.0 size) (m.charged r size) d (over_deep (m.charged e.0 size) (over j' t' l g q.0)) (over_deep (m.charged r size) (over j' t' l g rest))
        (lowest (m.charged e.0 size) (opened j' t' l g e.1))
        (prices.monotone e.0 r size (before q.0) (before rest) small (q.1 r rest))

    none_over : ((b : m.Meaning) → Open m ask entry j b → ⊥) → (b : m.Meaning) → Over b → ⊥
    none_over none b (over {a} j' t' l g r) = let e = entry_of j' t' a r in none (m.charged e.0 (gap ask.score j j')) (opened j' t' l g e.1)

    least_over : (y : Option m.Meaning) → Least m (Open m ask entry j) y → Least m Over y
    least_over None none = none_over none
    least_over (Some y) told = let o = opened_over y told.0 in (o, over_below y (over_deep y o) told.1)

    pub least_step : (y : Option m.Meaning) → Least m (Open m ask entry j) y → Least m (Rest m ask c i j t) (lesser m (entry (suc j) t) y)
    least_step y told =
        least_same m (λ b. Rest m ask c (suc i) (suc j) t b ⊎ Over b) (Rest m ask c i j t) to_rest from_rest (lesser m (entry (suc j) t) y)
        (least_either m prices (Rest m ask c (suc i) (suc j) t) Over (λ b r. depth_63 m prices ask covered c r) over_deep (entry (suc j) t) y (known (suc j) t) (least_over y told))
