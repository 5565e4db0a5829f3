-- A kind of symbol, by what its bytes mean, and the laws that every kind keeps.
use Rattle.std.specs.Prelude.{◌≡◌, ℕ, ◌<◌, Bool, ◌||◌, T, ℤ, pos, ◌+ℤ◌, Some, Option, ◌==◌}
use Rattle.std.specs.Int.{int_rem_euclid}
use Rattle.notation.specs.declared.Following.{Following}
use Rattle.notation.specs.declared.Following.TheVariants.{Sum, SumModulo12, Zero}

pub record Kind : Type 0 where
  -- the byte that names the kind in books and slips
  pub number : ℕ
  -- the bytes that stand for sounding symbols
  pub code : ℕ → Bool
  -- the interval from one symbol to another, both given by their bytes
  pub interval : ℕ → ℕ → Option ℤ
  -- how one interval follows another
  pub following : Following

-- the byte of a rest, in every kind
abbrev pub rest : ℕ
rest = 255

-- the bytes that a kind reads: its codes, and a rest
abbrev pub readable : Kind → ℕ → Bool
readable k b = k.code b || b == rest

-- the interval c followed by the interval e
abbrev pub follow : Following → ℤ → ℤ → ℤ
follow Sum c e = c +ℤ e
follow SumModulo12 c e = int_rem_euclid (c +ℤ e) (pos 12)
follow Zero c e = pos 0

-- c is the interval between some two symbols of the kind
abbrev pub Told : Kind → ℤ → Type 0
Told k c = (a b : ℕ) × (k.interval a b ≡ Some c)

pub record Lawful (k : Kind) : Type 0 where
  -- a rest is no code
  pub sounding : (a : ℕ) → T (k.code a) → a < rest
  -- an interval is told between sounding symbols alone: it is absent when either is a rest
  pub present : (a b : ℕ) (c : ℤ) → k.interval a b ≡ Some c → T (k.code a) × T (k.code b)
  -- it is zero exactly for one code
  pub same : (a : ℕ) → T (k.code a) → k.interval a a ≡ Some (pos 0)
  pub only_same : (a b : ℕ) → k.interval a b ≡ Some (pos 0) → a ≡ b
  -- intervals chain
  pub chain : (a b d : ℕ) (c e : ℤ) → k.interval a b ≡ Some c → k.interval b d ≡ Some e → k.interval a d ≡ Some (follow k.following c e)
  -- there is a way back
  pub back : (a b : ℕ) (c : ℤ) → k.interval a b ≡ Some c → (d : ℤ) × (k.interval b a ≡ Some d)
  -- what follows an interval can be told from where both lead
  pub cancel : (c e f : ℤ) → Told k c → Told k e → Told k f → follow k.following c e ≡ follow k.following c f → e ≡ f
