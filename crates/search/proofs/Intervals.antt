-- Tests on intervals, and the one byte at an interval from a note.
use Rattle.std.proofs.Common.{◌≡◌, ℕ, ◌<◌, Bool, true, false, eqb, ℤ, pos, negsuc, Some, None, Decides, Option, sym, refl, ap, arith}
use lib.IntN.{pos-ne-negsuc}
use Rattle.std.proofs.lemmas.Bool.{true≢false}
use Rattle.std.proofs.lemmas.Bool.Decides.{Decides-eqb, Decides-like, Decides-below_or}
use Rattle.notation.specs.Kind.{Kind, rest, Lawful}
use Rattle.search.specs.Queries.{same_interval, tells, some_byte, reaches}

decides_never : (P : Type 0) → (P → ⊥) → Decides false P
decides_never P never = ((λ e. absurd (true≢false (sym e))), λ p. absurd (never p))

pub decides_interval : (e c : ℤ) → Decides (same_interval e c) (e ≡ c)
decides_interval (pos a) (pos b) = Decides-like (eqb a b) (ap pos) (λ e. let f : a ≡ b = cc in f) (Decides-eqb a b)
decides_interval (pos a) (negsuc b) = decides_never (pos a ≡ negsuc b) (pos-ne-negsuc a b)
decides_interval (negsuc a) (pos b) = decides_never (negsuc a ≡ pos b) (λ e. pos-ne-negsuc b a (sym e))
decides_interval (negsuc a) (negsuc b) = Decides-like (eqb a b) (ap negsuc) (λ e. let f : a ≡ b = cc in f) (Decides-eqb a b)

pub decides_tells : (o : Option ℤ) (c : ℤ) → Decides (tells o c) (o ≡ Some c)
decides_tells None c = decides_never (None ≡ Some c) (λ e. let z : ◌≡◌ {A = ℕ} 0 1 = cc in omega arith)
decides_tells (Some e) c = Decides-like (same_interval e c) (ap Some) (λ q. let f : e ≡ c = cc in f) (decides_interval e c)

module _ (k : Kind) (laws : Lawful k) (by : ℤ) (a : ℕ) where
  -- some byte below a bound is at the interval
  below : (n : ℕ) → Decides (some_byte (λ b. tells (k.interval a b) by) n) ((b : ℕ) × (b < n) × (k.interval a b ≡ Some by))
  below = Decides-below_or (λ b. tells (k.interval a b) by) (λ b. k.interval a b ≡ Some by) (some_byte (λ b. tells (k.interval a b) by)) (λ b. decides_tells (k.interval a b) by) refl (λ _. refl)

  pub reached : (b : ℕ) → k.interval a b ≡ Some by → reaches k by a ≡ true
  unfolding reaches
  reached b e = (below rest).1 (b, laws.sounding b (laws.present a b by e).1, e)

  pub reached_at : reaches k by a ≡ true → (b : ℕ) × (k.interval a b ≡ Some by)
  unfolding reaches
  reached_at e = let h = (below rest).0 e in (h.0, h.2)

  pub unreached : ((b : ℕ) → k.interval a b ≡ Some by → ⊥) → reaches k by a ≡ false
  unreached never = go (reaches k by a) refl
    where
      go : (v : Bool) → reaches k by a ≡ v → v ≡ false
      go true e = let h = reached_at e in absurd (never h.0 h.1)
      go false e = refl
