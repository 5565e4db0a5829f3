-- What stands at a place of a list, after a write and after one element more, and in a part of it.
use Rattle.std.proofs.Common.{◌≡◌, ℕ, ◌+◌, ◌<◌, ◌≤◌, ◌⊎◌, List, [], ◌∷◌, ◌++◌, length, slice_index_or, set, Some, None, Option, MatchOption, Bor, refl, inl, inr, arith, sym, ◌∙◌, subst}
use Rattle.std.specs.List.{slice_get, slice_range, HoldsAt}
use Rattle.std.specs.Option.{option_copied}
use Rattle.std.proofs.lemmas.Grind.{common_steps}
use Rattle.std.proofs.lemmas.List.{length-take, length-drop}
use Rattle.std.proofs.lemmas.Option.{slice_get_read, slice_get_past, slice_get_within, slice_get_cases, get_or_from_slice_get}

module _ {X : Type 0} where
  pub nowhere : (x : X) → None ≡ Some x → ⊥
  nowhere x e = cc

  pub found : (xs : List X) (i : ℕ) → i < length xs → (x : X) × (slice_get xs i ≡ Some x)
  found xs i l = elim (slice_get_cases xs i).1 [ inl x ↦ (x.0, x.2) | inr past ↦ absurd (omega (arith, past.0)) ]

  pub pushed_before : (xs : List X) (y : X) (i : ℕ) (x : X) → slice_get xs i ≡ Some x → slice_get (xs ++ y ∷ []) i ≡ Some x
  pushed_before xs y i x e = grind (arith, common_steps, slice_get_cases)

  pub pushed_last : (xs : List X) (y : X) → slice_get (xs ++ y ∷ []) (length xs) ≡ Some y
  pushed_last xs y = grind (arith, common_steps, slice_get_cases)

  pub pushed_cases : (xs : List X) (y : X) (i : ℕ) (x : X) → slice_get (xs ++ y ∷ []) i ≡ Some x → (slice_get xs i ≡ Some x) ⊎ ((i ≡ length xs) × (y ≡ x))
  pushed_cases xs y i x e = grind (arith, common_steps, slice_get_cases)

  pub written_here : (xs : List X) (i : ℕ) (y : X) → i < length xs → slice_get (set xs i y) i ≡ Some y
  written_here xs i y l = grind (arith, common_steps, slice_get_cases)

  pub written_elsewhere : (xs : List X) (i j : ℕ) (y : X) → (i ≡ j → ⊥) → slice_get (set xs i y) j ≡ slice_get xs j
  written_elsewhere xs i j y n = grind (arith, common_steps, slice_get_cases)

  pub read_is : (xs : List X) (i : ℕ) (x d : X) → i < length xs → x ≡ slice_index_or xs i x → slice_get xs i ≡ Some d → x ≡ d
  read_is xs i x d l r n = r ∙ get_or_from_slice_get xs i d x n

  -- what stands in a list stands in a part of it, and the other way round
  module _ (xs : List X) (from to : ℕ) (part : List X) (is : part ≡ slice_range xs from to) where
    part_at : (i : ℕ) → from + i < to → slice_get (slice_range xs from to) i ≡ slice_get xs (from + i)
    part_at i l = grind (arith, common_steps, slice_get_cases)

    pub part_has : (i j : ℕ) (x : X) → from + i ≡ j → j < to → slice_get xs j ≡ Some x → slice_get part i ≡ Some x
    part_has i j x e l n = subst (λ ys. slice_get ys i ≡ Some x) (sym is) (part_at i (omega arith) ∙ subst (λ k. slice_get xs k ≡ Some x) (sym e) n)

    pub part_long : from ≤ to → to ≤ length xs → from + length part ≡ to
    part_long l m = subst (λ ys. from + length ys ≡ to) (sym is) (omega (arith, length-take {A = X}, length-drop {A = X}))

    pub part_from : from ≤ to → to ≤ length xs → (i : ℕ) (x : X) → slice_get part i ≡ Some x → (from + i < to) × (slice_get xs (from + i) ≡ Some x)
    part_from l m i x n =
        let short : i < length part = slice_get_within part i x n in
        let low : from + i < to = omega (arith, part_long l m) in
        (low, sym (part_at i low) ∙ subst (λ ys. slice_get ys i ≡ Some x) is n)

  -- what `get` and `copied` give
  pub copied_at : (xs : List X) (i : ℕ) (o : Option (Bor X)) → MatchOption o (length xs ≤ i) (λ x. (i < length xs) × HoldsAt (λ y. x.now ≡ y) xs i) → option_copied o ≡ slice_get xs i
  copied_at xs i None past = sym (slice_get_past xs i past)
  copied_at xs i (Some b) (l, here) = sym (slice_get_read xs (length xs) i b.now refl l (here b.now))
