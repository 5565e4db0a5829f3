-- Tests that the checker computes, each with what it shows.
use Rattle.std.proofs.Common.{◌≡◌, ℕ, zero, suc, ◌<◌, ◌≤◌, Bool, true, false, cond, ◌&&◌, ◌||◌, T, eqb, ltb, leb, ◌⊎◌, ℤ, pos, negsuc, Some, None, Option, sym, ap, subst, inl, inr, arith, eqb→eq, ltb→lt, leb→le}
use lib.Dec.{eqb_refl}
use Rattle.std.proofs.lemmas.Bool.{cases_lt, le-leb, lt-ltb, eq-eqb}

-- where it comes out true, P holds
pub record Test (P : Type 0) : Type 0 where
  pub holds : Bool
  pub shows : T holds → P

-- and it comes out true wherever P holds
pub record Decision (P : Type 0) : Type 0 where
  pub test : Test P
  pub told : P → T test.holds

pub both : (a b : Bool) → T (a && b) → T a × T b
both true b h = (tt, h)
both false b h = absurd h

pub both_true : (a b : Bool) → T a → T b → T (a && b)
both_true true b h g = g
both_true false b h g = absurd h

pub either : (a b : Bool) → T (a || b) → T a ⊎ T b
either true b h = inl tt
either false b h = inr h

pub given : (a b : Bool) → T (cond a b true) → T a → T b
given true b h g = h
given false b h g = absurd g

abbrev pub never : {P : Type 0} → Test P
never = record { holds = false; shows = λ v. absurd v }

-- what follows from what a test shows
abbrev pub so : {P Q : Type 0} → (P → Q) → Test P → Test Q
so f t = record { holds = t.holds; shows = λ v. f (t.shows v) }

infixr 20 ◌and◌
infixr 20 ◌or◌
infixr 20 ◌with◌
abbrev pub ◌and◌ : {P Q : Type 0} → Test P → Test Q → Test (P × Q)
◌and◌ s t = record { holds = s.holds && t.holds; shows = λ v. let g = both s.holds t.holds v in (s.shows g.0, t.shows g.1) }

abbrev pub ◌or◌ : {P Q : Type 0} → Test P → Test Q → Test (P ⊎ Q)
◌or◌ s t = record { holds = s.holds || t.holds; shows = λ v. elim (either s.holds t.holds v) [ inl h ↦ inl (s.shows h) | inr h ↦ inr (t.shows h) ] }

-- Q need be tested only where P holds
abbrev pub when : {P Q : Type 0} → Decision P → Test Q → Test (P → Q)
when d t = record { holds = cond d.test.holds t.holds true; shows = λ v p. t.shows (given d.test.holds t.holds v (d.told p)) }

abbrev pub all_below : ℕ → (ℕ → Bool) → Bool
all_below zero p = true
all_below (suc n) p = p n && all_below n p

pub all_holds : (n : ℕ) (p : ℕ → Bool) → T (all_below n p) → (i : ℕ) → i < n → T (p i)
all_holds zero p h i l = absurd (omega arith)
all_holds (suc n) p h i l =
    let g = both (p n) (all_below n p) h in
    elim (cases_lt i n) [
      | inl s ↦ all_holds n p g.1 i s
      | inr s ↦ let e : n ≡ i = omega arith in subst (λ z. T (p z)) e g.0
    ]

-- a test of each number below n
abbrev pub each_below : {P : ℕ → Type 0} → (n : ℕ) → ((i : ℕ) → Test (P i)) → Test ((i : ℕ) → i < n → P i)
each_below n t = record { holds = all_below n (λ i. (t i).holds); shows = λ v i l. (t i).shows (all_holds n (λ i. (t i).holds) v i l) }

pub is_T : (b : Bool) → b ≡ true → T b
is_T b e = subst T (sym e) tt

abbrev pub equal : (a b : ℕ) → Decision (a ≡ b)
equal a b = record { test = record { holds = eqb a b; shows = eqb→eq a b }; told = λ e. is_T (eqb a b) (eq-eqb a b e) }

abbrev pub at_most : (a b : ℕ) → Decision (a ≤ b)
at_most a b = record { test = record { holds = leb a b; shows = leb→le a b }; told = λ l. is_T (leb a b) (le-leb a b l) }

abbrev pub less : (a b : ℕ) → Decision (a < b)
less a b = record { test = record { holds = ltb a b; shows = ltb→lt a b }; told = λ l. is_T (ltb a b) (lt-ltb a b l) }

abbrev pub true_of : (b : Bool) → Decision (T b)
true_of b = record { test = record { holds = b; shows = λ v. v }; told = λ v. v }

abbrev pub ◌with◌ : {P Q : Type 0} → Decision P → Decision Q → Decision (P × Q)
◌with◌ s t = record { test = s.test and t.test; told = λ g. both_true s.test.holds t.test.holds (s.told g.0) (t.told g.1) }

abbrev pub same : ℤ → ℤ → Bool
same (pos a) (pos b) = eqb a b
same (pos a) (negsuc b) = false
same (negsuc a) (pos b) = false
same (negsuc a) (negsuc b) = eqb a b

pub same_true : (e c : ℤ) → T (same e c) → e ≡ c
same_true (pos a) (pos b) h = ap pos (eqb→eq a b h)
same_true (pos a) (negsuc b) h = absurd h
same_true (negsuc a) (pos b) h = absurd h
same_true (negsuc a) (negsuc b) h = ap negsuc (eqb→eq a b h)

pub same_refl : (c : ℤ) → T (same c c)
same_refl (pos a) = eqb_refl a
same_refl (negsuc a) = eqb_refl a

abbrev pub equal_integers : (e c : ℤ) → Decision (e ≡ c)
equal_integers e c = record { test = record { holds = same e c; shows = same_true e c }; told = λ p. subst (λ z. T (same e z)) p (same_refl e) }

abbrev pub is : Option ℤ → ℤ → Bool
is None c = false
is (Some e) c = same e c

pub is_true : (o : Option ℤ) (c : ℤ) → T (is o c) → o ≡ Some c
is_true None c h = absurd h
is_true (Some e) c h = ap Some (same_true e c h)

-- a number is present, and is c
abbrev pub present : (o : Option ℤ) (c : ℤ) → Decision (o ≡ Some c)
present o c = record { test = record { holds = is o c; shows = is_true o c }; told = λ e. subst (λ z. T (is z c)) (sym e) (same_refl c) }
