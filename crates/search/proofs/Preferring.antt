-- The better of two choices.
use Rattle.std.proofs.Common.{ℕ, ◌≤◌, ◌⊎◌, ℤ, Some, None, Option, ◌∙◌, inl, inr, arith}
use Rattle.std.proofs.lemmas.Bool.{cases_lt}
use Rattle.price.specs.Pricing.{Pricing, Lawful as PriceLaws}
use Rattle.splitting.specs.Score.{Question}
use Rattle.splitting.specs.Answer.{NotAfter}
use Rattle.splitting.specs.Laws.{Covered}
use Rattle.splitting.specs.declared.Place.{Place}
use Rattle.splitting.proofs.Depths.{depth_63}
use Rattle.search.specs.Topmost.{place_at}
use Rattle.search.specs.Candidates.{First, Leads, Stands, BestAmong, Among}
use Rattle.search.specs.declared.candidates.Choice.{Choice}
use Rattle.search.proofs.Concluding.{not_after}

not_after_trans : (x y z : Place) → NotAfter x y → NotAfter y z → NotAfter x z
not_after_trans x y z (inl l) (inl k) = inl (omega arith)
not_after_trans x y z (inl l) (inr k) = inl (omega (arith, k.0))
not_after_trans x y z (inr l) (inl k) = inl (omega (arith, l.0))
not_after_trans x y z (inr l) (inr k) = inr (l.0 ∙ k.0, omega (arith, l.1, k.1))

-- a byte of the whole range lies in its front or behind
pub parted : (ask : Question) (low mid high : ℕ) (c : ℤ) → Leads ask low high c → Leads ask low mid c ⊎ Leads ask mid high c
parted ask low mid high c h =
    elim (cases_lt h.byte mid) [
      | inl l ↦ inl (record { byte = h.byte; from = h.from; below = l; at = h.at })
      | inr l ↦ inr (record { byte = h.byte; from = l; below = h.below; at = h.at })
    ]

pub swapped : {X Y : Type 0} → X ⊎ Y → Y ⊎ X
swapped (inl x) = inr x
swapped (inr y) = inl y

module _ {P : Type 0} (m : Pricing) (prices : PriceLaws m) (meaning : P → m.Meaning) (ask : Question) (covered : Covered ask) (tracks : ℕ) (one : 1 ≤ tracks) where
  pub deep : (o : Choice P) → Stands m meaning ask tracks o → m.depth (meaning o.price) ≤ 63
  deep o s = depth_63 m prices ask covered o.shift s.rest_is

  module _ (low high low' high' low'' high'' : ℕ) (parts : (c : ℤ) → Leads ask low'' high'' c → Leads ask low high c ⊎ Leads ask low' high' c) where
    -- there is no other
    pub alone : (o : Choice P) → BestAmong m meaning ask tracks low high o → Among m meaning ask tracks low' high' None → BestAmong m meaning ask tracks low'' high'' o
    alone o h none =
        record {
          stands = h.stands;
          least = λ c x a led admits r. elim (parts c led) [ inl p ↦ h.least c x a p admits r | inr p ↦ absurd (none c x a p admits r) ];
          earliest = λ c x a led admits r less. elim (parts c led) [ inl p ↦ h.earliest c x a p admits r less | inr p ↦ absurd (none c x a p admits r) ];
        }

    -- the one that comes first wins
    pub wins : (o u : Choice P) → BestAmong m meaning ask tracks low high o → BestAmong m meaning ask tracks low' high' u → First m meaning o u → BestAmong m meaning ask tracks low'' high'' o
    wins o u h k f =
        let x-o = meaning o.price in
        let x-u = meaning u.price in
        let d-o = deep o h.stands in
        let d-u = deep u k.stands in
        record {
          stands = h.stands;
          least =
              λ c x a led admits r.
              elim (parts c led) [
                | inl p ↦ h.least c x a p admits r
                | inr p ↦ prices.trans x-o x-u a d-o d-u (depth_63 m prices ask covered c r) f.cheap (k.least c x a p admits r)
              ];
          earliest =
              λ c x a led admits r less.
              elim (parts c led) [
                | inl p ↦ h.earliest c x a p admits r less
                | inr p ↦
                    let d = depth_63 m prices ask covered c r in
                    let back = prices.trans x-u a x-o d-u d d-o (k.least c x a p admits r) less in
                    let on = prices.trans a x-o x-u d d-o d-u less f.cheap in
                    not_after_trans (place_at tracks o.place) (place_at tracks u.place) x (not_after tracks o.place u.place one (f.early back)) (k.earliest c x a p admits r on)
              ];
        }

  -- there is none in the front
  pub behind : (low mid high : ℕ) (o : Option (Choice P)) → Among m meaning ask tracks low mid None → Among m meaning ask tracks mid high o → Among m meaning ask tracks low high o
  behind low mid high None none h = λ c x a led admits r. elim (parted ask low mid high c led) [ inl p ↦ none c x a p admits r | inr p ↦ h c x a p admits r ]
  behind low mid high (Some o) none h = alone mid high low mid low high (λ c led. swapped (parted ask low mid high c led)) o h none
