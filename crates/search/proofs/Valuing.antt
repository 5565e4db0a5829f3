-- What a row has at a place.
use Rattle.std.proofs.Common.{◌≡◌, ℕ, ◌+◌, ◌-◌, ◌<◌, ◌≤◌, cond, eqb, ltb, List, length, get_or, drop, Some, None, count_by, Option, sym, refl, ap, ◌∙◌, subst, inl, inr, arith}
use Rattle.std.proofs.lemmas.List.{drop-drop}
use Rattle.std.proofs.lemmas.List.Sums.{sum_by-take-drop}
use Rattle.std.proofs.lemmas.Bool.{cases_lt, cases_eq, eq-eqb, ne_eqb, lt-ltb, le-ltb, cond-true, cond-false}
use Rattle.notation.specs.Kind.{rest}
use Rattle.search.specs.Tables.{later, Mark, Linked, Ranked}
use Rattle.search.specs.Rows.{value}
use Rattle.search.proofs.Linking.{count_yes}

module _ (bytes : List ℕ) where
  -- fewer from later on
  pub count_lower : (b u w : ℕ) → w ≤ u → count_by (eqb b) (drop u bytes) ≤ count_by (eqb b) (drop w bytes)
  count_lower b u w l =
      let e : drop (u - w) (drop w bytes) ≡ drop u bytes = drop-drop (u - w) w bytes ∙ ap (λ z. drop z bytes) (let f : w + (u - w) ≡ u = omega arith in f) in
      let s = sum_by-take-drop (λ x. cond (eqb b x) 1 0) (drop w bytes) (u - w) in
      let t = ap (count_by (eqb b)) e in
      omega arith

  -- a place is one of those that hold its byte
  pub rank_below : (b q : ℕ) → q < length bytes → get_or bytes q rest ≡ b → later bytes q < count_by (eqb b) bytes
  rank_below b q l e =
      let s = count_yes bytes b q l e in
      let t = count_lower b q 0 (omega arith) in
      let f : count_by (eqb (get_or bytes q rest)) (drop (q + 1) bytes) ≡ count_by (eqb b) (drop (q + 1) bytes) = ap (λ z. count_by (eqb z) (drop (q + 1) bytes)) e in
      omega arith

  -- and later ones of one byte have fewer behind them
  pub rank_falls : (q r : ℕ) → q < r → r < length bytes → get_or bytes q rest ≡ get_or bytes r rest → later bytes r < later bytes q
  rank_falls q r l m e =
      let b = get_or bytes r rest in
      let s = count_yes bytes b r m refl in
      let t = count_lower b r (q + 1) (omega arith) in
      let f : count_by (eqb (get_or bytes q rest)) (drop (q + 1) bytes) ≡ count_by (eqb b) (drop (q + 1) bytes) = ap (λ z. count_by (eqb z) (drop (q + 1) bytes)) e in
      omega arith

  pub rank_other : (q r : ℕ) → (q ≡ r → ⊥) → q < length bytes → r < length bytes → get_or bytes q rest ≡ get_or bytes r rest → later bytes q ≡ later bytes r → ⊥
  rank_other q r ne l m e f =
      elim (cases_lt q r) [
        | inl a ↦ let s = rank_falls q r a m e in omega arith
        | inr a ↦ let s = rank_falls r q (lower q r a ne) l (sym e) in omega arith
      ]
    where
      lower : (q r : ℕ) → r ≤ q → (q ≡ r → ⊥) → r < q
      lower q r a n = omega arith

  module _ {P : Type 0} (b offset : ℕ) (prices : List (Option P)) (q : ℕ) where
    pub value_there : q < length bytes → get_or bytes q rest ≡ b → value bytes b offset prices q ≡ get_or prices (offset + later bytes q) None
    unfolding value
    value_there l e = cond-true (ltb q (length bytes)) _ None (lt-ltb q (length bytes) l) ∙ cond-true (eqb (get_or bytes q rest) b) _ None (eq-eqb (get_or bytes q rest) b e)

    pub value_past : length bytes ≤ q → value bytes b offset prices q ≡ None
    unfolding value
    value_past l = cond-false (ltb q (length bytes)) _ None (le-ltb q (length bytes) l)

    value_unlike : (get_or bytes q rest ≡ b → ⊥) → q < length bytes → value bytes b offset prices q ≡ None
    unfolding value
    value_unlike ne l = cond-true (ltb q (length bytes)) _ None (lt-ltb q (length bytes) l) ∙ cond-false (eqb (get_or bytes q rest) b) _ None (ne_eqb (get_or bytes q rest) b ne)

    pub value_other : (get_or bytes q rest ≡ b → ⊥) → value bytes b offset prices q ≡ None
    value_other ne = elim (cases_lt q (length bytes)) [ inl l ↦ value_unlike ne l | inr l ↦ value_past l ]

    -- a price stands only where the byte does
    pub value_some : (a : P) → value bytes b offset prices q ≡ Some a → (q < length bytes) × (get_or bytes q rest ≡ b) × (get_or prices (offset + later bytes q) None ≡ Some a)
    value_some a e =
        elim (cases_lt q (length bytes)) [
          | inl l ↦ elim (cases_eq (get_or bytes q rest) b) [ inl f ↦ (l, f, sym (value_there l f) ∙ e) | inr ne ↦ absurd (never (value_other ne)) ]
          | inr l ↦ absurd (never (value_past l))
        ]
      where
        never : value bytes b offset prices q ≡ None → ⊥
        never f = let z : ◌≡◌ {A = ℕ} 0 1 = cc in omega arith

pub value_byte : {P : Type 0} (bytes : List ℕ) (b offset : ℕ) (prices : List (Option P)) (q : ℕ) (a : P) → value bytes b offset prices q ≡ Some a → get_or bytes q rest ≡ b
value_byte bytes b offset prices q a e = (value_some bytes b offset prices q a e).1

-- where the price of a place stands
pub rank_in : (bytes after : List ℕ) → Ranked bytes after (length bytes) → (b offset n q : ℕ) → offset + count_by (eqb b) bytes ≤ n → q < length bytes → get_or bytes q rest ≡ b → offset + get_or after q 0 < n
rank_in bytes after ranked b offset n q room l e = omega (arith, ranked q l, rank_below bytes b q l e)

-- one turn of a loop over the places that hold a byte: the place holds it, and the mark left is its mark below it
pub record Turn (bytes : List ℕ) (b q w : ℕ) : Type 0 where
  pub inside : q < length bytes
  pub is : get_or bytes q rest ≡ b
  pub mark : Mark bytes b q w

pub turn : (bytes previous : List ℕ) → Linked bytes previous (length bytes) → (b mark q w : ℕ) → mark ≤ length bytes → (0 < mark → get_or bytes (mark - 1) rest ≡ b) → mark ≡ q + 1 → w ≡ get_or previous q 0 → Turn bytes b q w
turn bytes previous linked b mark q w low holds step next =
    let is : get_or bytes q rest ≡ b = subst (λ z. get_or bytes z rest ≡ b) (let e : mark - 1 ≡ q = omega arith in e) (holds (omega arith)) in
    record { inside = omega arith; is = is; mark = subst (Mark bytes b q) (sym next) (subst (λ z. Mark bytes z q (get_or previous q 0)) is (linked q (omega arith))) }
