-- What it means that no rule refuses.
use Rattle.std.proofs.Common.{◌≡◌, ℕ, suc, ◌+◌, ◌-◌, ◌*◌, ◌/◌, ◌%◌, ◌<◌, ◌≤◌, min, Bool, true, false, cond, T, leb, List, [], ◌∷◌, length, Some, None, Option, sym, refl, ap, ◌∙◌, inl, inr, suc-mul, arith}
use Rattle.std.specs.List.{prefix_len, AllByRecursion}
use Rattle.std.proofs.lemmas.Nat.{div-mul-add, div-add-mod', mod_below}
use Rattle.std.proofs.lemmas.Bool.{cases_lt, leb-true, le-leb, cond-true}
use Rattle.notation.specs.Kind.{Kind, readable}
use Rattle.book.specs.Refusals.{unless, then}
use Rattle.book.specs.Books.{symbols_refusal}
use Rattle.book.specs.declared.refusal.Layer.{Layer}
use Rattle.book.specs.declared.refusal.Refusal.{Refusal}

pub unless_none : (kept : Bool) (r : Refusal) (others : Option Refusal) → unless kept r others ≡ None → (kept ≡ true) × (others ≡ None)
unless_none true r others e = (refl, e)
unless_none false r others e = let z : ◌≡◌ {A = ℕ} 0 1 = cc in absurd (omega arith)

pub unless_kept : (kept : Bool) (r : Refusal) (others : Option Refusal) → kept ≡ true → others ≡ None → unless kept r others ≡ None
unless_kept kept r others h e = cond-true kept others (Some r) h ∙ e

pub then_parts : (a b : Option Refusal) → then a b ≡ None → (a ≡ None) × (b ≡ None)
then_parts None b e = (refl, e)
then_parts (Some r) b e = let z : ◌≡◌ {A = ℕ} 0 1 = cc in absurd (omega arith)

pub then_both : (a b : Option Refusal) → a ≡ None → b ≡ None → then a b ≡ None
then_both None b e f = f
then_both (Some r) b e f = let z : ◌≡◌ {A = ℕ} 0 1 = cc in absurd (omega arith)

leading_cons : (f : ℕ → Bool) (x : ℕ) (xs : List ℕ) (b : Bool) → f x ≡ b → suc (length xs) ≤ cond b (1 + prefix_len f xs) 0 → T b × (length xs ≤ prefix_len f xs)
leading_cons f x xs true e l = (tt, omega arith)
leading_cons f x xs false e l = absurd (omega arith)

pub all_leading : (f : ℕ → Bool) (xs : List ℕ) → length xs ≤ prefix_len f xs → AllByRecursion (λ x. T (f x)) xs
all_leading f [] l = tt
all_leading f (x ∷ xs) l = let p = leading_cons f x xs (f x) refl l in (p.0, all_leading f xs p.1)

leading_true : (b : Bool) (m : ℕ) → T b → cond b (1 + m) 0 ≡ suc m
leading_true true m h = omega arith
leading_true false m h = absurd h

pub leading_all : (f : ℕ → Bool) (xs : List ℕ) → AllByRecursion (λ x. T (f x)) xs → prefix_len f xs ≡ length xs
leading_all f [] h = refl
leading_all f (x ∷ xs) h = leading_true (f x) (prefix_len f xs) h.0 ∙ ap suc (leading_all f xs h.1)

-- the kind reads all of some bytes exactly when no byte is refused
pub symbols_read : (k : Kind) (layer : Layer) (from : ℕ) (xs : List ℕ) → symbols_refusal k layer from xs ≡ None → AllByRecursion (λ x. T (readable k x)) xs
symbols_read k layer from xs e = all_leading (readable k) xs (leb-true (length xs) (prefix_len (readable k) xs) (unless_none (leb (length xs) (prefix_len (readable k) xs)) _ None e).0)

pub symbols_none : (k : Kind) (layer : Layer) (from : ℕ) (xs : List ℕ) → AllByRecursion (λ x. T (readable k x)) xs → symbols_refusal k layer from xs ≡ None
symbols_none k layer from xs h = unless_kept (leb (length xs) (prefix_len (readable k) xs)) _ None (le-leb (length xs) (prefix_len (readable k) xs) (omega (arith, leading_all (readable k) xs h))) refl

-- so many things, at most p at a time: one time, and then what is left
pub times_more : (x p : ℕ) → 0 < x → 0 < p → (x + (p - 1)) / p ≡ suc ((x - min p x + (p - 1)) / p)
times_more x p h l =
    elim (cases_lt p x) [
      | inl m ↦
          let q = (x - 1) / p in
          let r = (x - 1) % p in
          let e = div-add-mod' (x - 1) p in
          let f : x + (p - 1) ≡ suc q * p + r = omega (arith, suc-mul q p) in
          let g : x - min p x + (p - 1) ≡ q * p + r = omega arith in
          ap (λ n. n / p) f ∙ div-mul-add (suc q) p r (mod_below (x - 1) p l) ∙ ap suc (sym (ap (λ n. n / p) g ∙ div-mul-add q p r (mod_below (x - 1) p l)))
      | inr m ↦
          let f : x + (p - 1) ≡ 1 * p + (x - 1) = omega arith in
          let g : x - min p x + (p - 1) ≡ 0 * p + (p - 1) = omega arith in
          ap (λ n. n / p) f ∙ div-mul-add 1 p (x - 1) (omega arith) ∙ ap suc (sym (ap (λ n. n / p) g ∙ div-mul-add 0 p (p - 1) (omega arith)))
    ]

pub times_none : (p : ℕ) → 0 < p → (0 + (p - 1)) / p ≡ 0
times_none p l = ap (λ n. n / p) (let e : 0 + (p - 1) ≡ 0 * p + (p - 1) = omega arith in e) ∙ div-mul-add 0 p (p - 1) (omega arith)

-- past a rule that is kept
pub unless_past : (kept : Bool) (r : Refusal) (others : Option Refusal) → kept ≡ true → unless kept r others ≡ others
unless_past kept r others h = cond-true kept others (Some r) h

pub then_past : (a b : Option Refusal) → a ≡ None → then a b ≡ b
then_past None b e = refl
then_past (Some r) b e = let z : ◌≡◌ {A = ℕ} 0 1 = cc in absurd (omega arith)
