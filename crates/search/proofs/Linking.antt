-- The tables over places, one place further.
use Rattle.std.proofs.Common.{◌≡◌, ℕ, ◌+◌, ◌-◌, ◌<◌, cond, eqb, List, length, get_or, drop, set, replicate, count_by, sym, ap, ◌∙◌, subst, inl, inr, arith}
use Rattle.std.proofs.lemmas.List.{get_or-replicate, get_or-set_same, get_or-set_other}
use Rattle.std.proofs.lemmas.List.Sums.{sum_by-drop_more}
use Rattle.std.proofs.lemmas.Bool.{cases_eq, eq-eqb, ne_eqb, cond-true, cond-false}
use Rattle.notation.specs.Kind.{rest}
use Rattle.search.specs.Tables.{later, Mark, Linked, Marks, Ranked}
use Rattle.search.specs.Workspace.{Counted}

module _ (bytes : List ℕ) where
  mark_none : (b : ℕ) → Mark bytes b 0 0
  mark_none b = record { low = omega arith; holds = λ l. absurd (omega arith); none = λ q l m. absurd (omega arith) }

  -- one place further, which holds the byte or another one
  mark_here : (b p : ℕ) → get_or bytes p rest ≡ b → Mark bytes b (p + 1) (p + 1)
  mark_here b p e = record { low = omega arith; holds = λ l. ap (λ z. get_or bytes z rest) (let f : p + 1 - 1 ≡ p = omega arith in f) ∙ e; none = λ q l m. absurd (omega arith) }

  mark_other : (b p w : ℕ) → (get_or bytes p rest ≡ b → ⊥) → Mark bytes b p w → Mark bytes b (p + 1) w
  mark_other b p w ne h =
      record {
        low = let l = h.low in omega arith;
        holds = h.holds;
        none = λ q l m e. elim (cases_eq q p) [ inl f ↦ ne (subst (λ z. get_or bytes z rest ≡ b) f e) | inr n ↦ h.none q l (omega arith) e ];
      }

  module _ (previous last : List ℕ) (p b : ℕ) (holds : get_or bytes p rest ≡ b) (small : b < 256) where
    pub marks_more : length last ≡ 256 → Marks bytes last p → Marks bytes (set last b (p + 1)) (p + 1)
    marks_more len old d l =
        elim (cases_eq d b) [
          | inl e ↦ subst (Mark bytes d (p + 1)) (sym (ap (λ z. get_or (set last b (p + 1)) z 0) e ∙ get_or-set_same last b (p + 1) 0 (omega arith))) (mark_here d p (holds ∙ sym e))
          | inr ne ↦ subst (Mark bytes d (p + 1)) (sym (get_or-set_other last b d (p + 1) 0 ne)) (mark_other d p (get_or last d 0) (λ e. ne (sym e ∙ holds)) (old d l))
        ]

    pub linked_more : p < length previous → Marks bytes last p → Linked bytes previous p → Linked bytes (set previous p (get_or last b 0)) (p + 1)
    linked_more room marks old q l =
        elim (cases_eq q p) [
          | inl e ↦
              subst (λ z. Mark bytes (get_or bytes z rest) z (get_or (set previous p (get_or last b 0)) z 0)) (sym e)
              (subst (Mark bytes (get_or bytes p rest) p) (sym (get_or-set_same previous p (get_or last b 0) 0 room)) (subst (λ z. Mark bytes z p (get_or last b 0)) (sym holds) (marks b small)))
          | inr ne ↦ subst (Mark bytes (get_or bytes q rest) q) (sym (get_or-set_other previous p q (get_or last b 0) 0 ne)) (old q (omega arith))
        ]

  pub marks_none : Marks bytes (replicate 256 0) 0
  marks_none b l = subst (Mark bytes b 0) (sym (get_or-replicate 256 b 0 0 l)) (mark_none b)

  pub linked_none : (previous : List ℕ) → Linked bytes previous 0
  linked_none previous p l = absurd (omega arith)

  -- counted from the end
  count_drop : (b p : ℕ) → p < length bytes → count_by (eqb b) (drop p bytes) ≡ cond (eqb b (get_or bytes p rest)) 1 0 + count_by (eqb b) (drop (p + 1) bytes)
  count_drop b p l = sum_by-drop_more (λ x. cond (eqb b x) 1 0) bytes p rest l

  pub count_yes : (b p : ℕ) → p < length bytes → get_or bytes p rest ≡ b → count_by (eqb b) (drop p bytes) ≡ 1 + count_by (eqb b) (drop (p + 1) bytes)
  count_yes b p l e = count_drop b p l ∙ ap (λ n. n + count_by (eqb b) (drop (p + 1) bytes)) (cond-true {A = ℕ} (eqb b (get_or bytes p rest)) 1 0 (eq-eqb b (get_or bytes p rest) (sym e)))

  pub count_no : (b p : ℕ) → p < length bytes → (get_or bytes p rest ≡ b → ⊥) → count_by (eqb b) (drop p bytes) ≡ count_by (eqb b) (drop (p + 1) bytes)
  count_no b p l ne =
      let e = ap (λ n. n + count_by (eqb b) (drop (p + 1) bytes)) (cond-false {A = ℕ} (eqb b (get_or bytes p rest)) 1 0 (ne_eqb b (get_or bytes p rest) (λ e. ne (sym e)))) in
      let f = count_drop b p l in
      f ∙ e ∙ (let z : 0 + count_by (eqb b) (drop (p + 1) bytes) ≡ count_by (eqb b) (drop (p + 1) bytes) = omega arith in z)

  -- one place further, of which one fewer is left
  module _ (p b : ℕ) (l : p < length bytes) (holds : get_or bytes p rest ≡ b) (small : b < 256) (left : List ℕ) (len : length left ≡ 256) (old : Counted left (drop p bytes)) where
    pub one_left : get_or left b 0 ≡ 1 + count_by (eqb b) (drop (p + 1) bytes)
    one_left = old b small ∙ count_yes b p l holds

    pub counted_less : Counted (set left b (get_or left b 0 - 1)) (drop (p + 1) bytes)
    counted_less d m =
        elim (cases_eq d b) [
          | inl e ↦
              let f = ap (λ z. count_by (eqb z) (drop (p + 1) bytes)) e in
              ap (λ z. get_or (set left b (get_or left b 0 - 1)) z 0) e ∙ get_or-set_same left b (get_or left b 0 - 1) 0 (omega arith) ∙ (omega (arith, one_left, f))
          | inr ne ↦ get_or-set_other left b d (get_or left b 0 - 1) 0 ne ∙ old d m ∙ count_no d p l (λ e. ne (sym e ∙ holds))
        ]

    pub ranked_more : (after : List ℕ) → p < length after → Ranked bytes after p → Ranked bytes (set after p (get_or left b 0 - 1)) (p + 1)
    ranked_more after room ranked q m =
        elim (cases_eq q p) [
          | inl e ↦
              let f : get_or left b 0 - 1 ≡ count_by (eqb b) (drop (p + 1) bytes) = omega (arith, one_left) in
              ap (λ z. get_or (set after p (get_or left b 0 - 1)) z 0) e ∙ get_or-set_same after p (get_or left b 0 - 1) 0 room ∙ f
              ∙ ap (λ z. count_by (eqb z) (drop (p + 1) bytes)) (sym holds) ∙ ap (later bytes) (sym e)
          | inr ne ↦ get_or-set_other after p q (get_or left b 0 - 1) 0 ne ∙ ranked q (omega arith)
        ]
