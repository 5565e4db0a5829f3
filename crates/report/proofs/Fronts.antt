-- Fronts of lists.
use Rattle.std.proofs.Common.{◌≡◌, ℕ, min, Bool, true, false, leb, List, length, take, sym, refl, ap, ◌∙◌, arith, leb-false, leb-true}
use native.Mathlib.Nat.{min-eq_left, min-eq_right}
use Rattle.std.proofs.lemmas.List.{take_all}

-- a front no longer than the list
pub take_min : {X : Type 0} (n m : ℕ) (xs : List X) → length xs ≡ m → take (min n m) xs ≡ take n xs
take_min n m xs e = by (leb n m) refl
  where
    by : (b : Bool) → leb n m ≡ b → take (min n m) xs ≡ take n xs
    by true h = let le = leb-true n m h in ap (λ (i : ℕ). take i xs) (min-eq_left le)
    by false h = let lt = leb-false n m h in ap (λ (i : ℕ). take i xs) (min-eq_right (omega arith)) ∙ take_all m xs (omega arith) ∙ sym (take_all n xs (omega arith))
