-- All rows, from the last note to the first.
use Rattle.std.proofs.Common.{◌≡◌, ℕ, suc, ◌+◌, ◌-◌, ◌<◌, ◌≤◌, eqb, List, length, get_or, drop, ℤ, None, sum_by, count_by, Option, sym, ap, ◌∙◌, subst, inl, inr, arith}
use Rattle.std.proofs.lemmas.List.{drop-drop, drop_all}
use Rattle.std.proofs.lemmas.List.Sums.{sum_by-drop_more, sum_by-take-drop}
use Rattle.std.proofs.lemmas.Bool.{cases_eq}
use Rattle.price.specs.Pricing.{Pricing}
use Rattle.splitting.specs.Score.{Question}
use Rattle.search.specs.Tables.{later}
use Rattle.search.specs.declared.row.Row.{Row}
use Rattle.search.specs.Rows.{value}
use Rattle.search.specs.Resting.{Posed, Wants, NextNotes, LeastRow, Leads, LeadingRow, step_at, offset_of, row_of, RowRight, RowsRight}
use Rattle.search.proofs.RowFilling.{value_same}
use Rattle.search.proofs.Valuing.{rank_below}

module _ (bytes want : List ℕ) where
  abbrev size : ℕ → ℕ
  size b = count_by (eqb b) bytes

  -- a row and all behind it
  pub offset_end : (k : ℕ) → k < length want → sum_by (λ b. count_by (eqb b) bytes) (drop k want) ≡ count_by (eqb (get_or want k 0)) bytes + offset_of bytes want k
  offset_end k l = sum_by-drop_more (λ b. count_by (eqb b) bytes) want k 0 l

  drop_lower : (i k : ℕ) → i ≤ k → sum_by (λ b. count_by (eqb b) bytes) (drop k want) ≤ sum_by (λ b. count_by (eqb b) bytes) (drop i want)
  drop_lower i k l =
      let e : drop (k - i) (drop i want) ≡ drop k want = drop-drop (k - i) i want ∙ ap (λ z. drop z want) (let f : i + (k - i) ≡ k = omega arith in f) in
      let s = sum_by-take-drop (λ b. count_by (eqb b) bytes) (drop i want) (k - i) in
      let t = ap (sum_by (λ b. count_by (eqb b) bytes)) e in
      omega arith

  pub offset_all : (k : ℕ) → k < length want → offset_of bytes want k + count_by (eqb (get_or want k 0)) bytes ≤ sum_by (λ b. count_by (eqb b) bytes) want
  offset_all k l = omega (arith, offset_end k l, drop_lower 0 k (omega arith))

  pub offset_before : (i k : ℕ) → i < k → k < length want → offset_of bytes want k + count_by (eqb (get_or want k 0)) bytes ≤ offset_of bytes want i
  offset_before i k l n = omega (arith, offset_end k n, drop_lower (i + 1) k (omega arith))

  pub offset_next : (i : ℕ) → i + 1 < length want → offset_of bytes want i ≡ offset_of bytes want (i + 1) + count_by (eqb (get_or want (i + 1) 0)) bytes
  offset_next i l = omega (arith, offset_end (i + 1) l)

  pub offset_last : (k : ℕ) → k + 1 ≡ length want → offset_of bytes want k ≡ 0
  offset_last k e = ap (sum_by (λ b. count_by (eqb b) bytes)) (drop_all (k + 1) want (omega arith))

  module _ {P : Type 0} (m : Pricing) (meaning : P → m.Meaning) (tracks limit : ℕ) (i : ℕ) (prices prices' : List (Option P)) (steps steps' : List ℕ) (same : (k : ℕ) → k < offset_of bytes want i → get_or prices' k None ≡ get_or prices k None) (same' : (k : ℕ) → k < offset_of bytes want i → get_or steps' k 0 ≡ get_or steps k 0) where
    -- later rows stay as they are
    row_same : (k : ℕ) → i < k → k < length want → row_of bytes want prices k ≡ row_of bytes want prices' k
    row_same k l n = value_same bytes (get_or want k 0) (offset_of bytes want k) prices prices' (λ j z. sym (same j (omega (arith, offset_before i k l n))))

    pub right_kept : (ask : Question) (c : ℤ) (k : ℕ) → i < k → k < length want → RowRight m meaning ask c bytes tracks want prices steps k → RowRight m meaning ask c bytes tracks want prices' steps' k
    right_kept ask c k l n r =
        record {
          least = subst (λ z. LeastRow m meaning ask bytes tracks c (suc k) (get_or want k 0) z 0) (row_same k l n) r.least;
          leading =
              λ more q a z e.
              let s : get_or steps (offset_of bytes want k + later bytes q) 0 ≡ get_or steps' (offset_of bytes want k + later bytes q) 0 = sym (same' (offset_of bytes want k + later bytes q) (omega (arith, offset_before i k l n, rank_below bytes (get_or want k 0) q z e))) in
              subst (λ i. i) (λ j. Leads m meaning ask bytes tracks (row_same (k + 1) (omega arith) more j) q (row_same k l n j q) (s j)) (r.leading more q a z e);
        }

    -- one row more
    pub rows_more : i + 1 < length want → RowsRight m meaning bytes tracks limit want prices steps (i + 1) → ((ask : Question) (c : ℤ) (n : ℕ) → NextNotes ask c n (get_or want i 0) (get_or want (i + 1) 0) bytes tracks limit → LeastRow m meaning ask bytes tracks c (suc n) (get_or want (i + 1) 0) (row_of bytes want prices (i + 1)) 0 → LeastRow m meaning ask bytes tracks c n (get_or want i 0) (row_of bytes want prices' i) 0 × LeadingRow m meaning ask bytes tracks (get_or want i 0) (row_of bytes want prices' i) (row_of bytes want prices (i + 1)) (step_at bytes (offset_of bytes want i) steps') 0) → RowsRight m meaning bytes tracks limit want prices' steps' i
    rows_more more old new ask c posed limit_is wanted k l n =
        elim (cases_eq k i) [
          | inl e ↦ subst (RowRight m meaning ask c bytes tracks want prices' steps') (sym e) here
          | inr ne ↦ right_kept ask c k (beyond ne) n (old ask c posed limit_is wanted k (above ne) n)
        ]
      where
        above : (k ≡ i → ⊥) → i + 1 ≤ k
        above ne = omega arith

        beyond : (k ≡ i → ⊥) → i < k
        beyond ne = omega arith

        suc_is : suc (i + 1) ≡ suc (suc i)
        suc_is = omega arith

        after : LeastRow m meaning ask bytes tracks c (suc (suc i)) (get_or want (i + 1) 0) (row_of bytes want prices (i + 1)) 0
        after = subst (λ z. LeastRow m meaning ask bytes tracks c z (get_or want (i + 1) 0) (row_of bytes want prices (i + 1)) 0) suc_is (old ask c posed limit_is wanted (i + 1) (omega arith) more).least

        both : LeastRow m meaning ask bytes tracks c (suc i) (get_or want i 0) (row_of bytes want prices' i) 0 × LeadingRow m meaning ask bytes tracks (get_or want i 0) (row_of bytes want prices' i) (row_of bytes want prices (i + 1)) (step_at bytes (offset_of bytes want i) steps') 0
        both =
            new ask c (suc i)
            (record { posed = posed; limit_is = limit_is; wants = wanted.each i (omega arith); wants_next = subst (λ z. Wants ask c z (get_or want (i + 1) 0)) suc_is (wanted.each (i + 1) more); more = omega (arith, wanted.as_long) })
            after

        here : RowRight m meaning ask c bytes tracks want prices' steps' i
        here =
            record {
              least = both.0;
              leading = λ _. subst (λ z. LeadingRow m meaning ask bytes tracks (get_or want i 0) (row_of bytes want prices' i) z (step_at bytes (offset_of bytes want i) steps') 0) (row_same (i + 1) (omega arith) more) both.1;
            }

  -- the last row
  pub rows_last : {P : Type 0} (m : Pricing) (meaning : P → m.Meaning) (tracks limit k : ℕ) (prices : List (Option P)) (steps : List ℕ) → k + 1 ≡ length want → ((ask : Question) (c : ℤ) → Posed ask bytes tracks → Wants ask c (length ask.query) (get_or want k 0) → LeastRow m meaning ask bytes tracks c (length ask.query) (get_or want k 0) (row_of bytes want prices k) 0) → RowsRight m meaning bytes tracks limit want prices steps k
  rows_last m meaning tracks limit k prices steps end new ask c posed limit_is wanted j l n =
      let is : j ≡ k = omega arith in
      let long : length ask.query ≡ suc k = omega (arith, wanted.as_long) in
      subst (RowRight m meaning ask c bytes tracks want prices steps) (sym is)
      (record {
        least = subst (λ z. LeastRow m meaning ask bytes tracks c z (get_or want k 0) (row_of bytes want prices k) 0) long (new ask c posed (subst (λ z. Wants ask c z (get_or want k 0)) (sym long) (wanted.each k (omega arith))));
        leading = λ more. absurd (omega arith);
      })

-- the row of a note, counted from 0
abbrev pub standing : List ℕ → List ℕ → ℕ → Row
standing bytes want k = record { byte = get_or want k 0; offset = offset_of bytes want k }

-- what filling a row from the next one asks
abbrev pub Asks : List ℕ → ℕ → Row → Row → Type 0
Asks bytes need r n = (n.offset + count_by (eqb n.byte) bytes ≤ r.offset) × (r.offset + count_by (eqb r.byte) bytes ≤ need)

pub asked : (bytes want : List ℕ) (k : ℕ) → k + 1 < length want → Asks bytes (sum_by (λ b. count_by (eqb b) bytes) want) (standing bytes want k) (standing bytes want (k + 1))
asked bytes want k l = (omega (arith, offset_next bytes want k l), offset_all bytes want k (omega arith))

-- and what it gives
abbrev pub Gives : {P : Type 0} (m : Pricing) → (P → m.Meaning) → List ℕ → ℕ → ℕ → List (Option P) → List (Option P) → List ℕ → List ℕ → Row → Row → Type 0
Gives m meaning bytes tracks limit prices prices' steps steps' r n =
    ((k : ℕ) → k < r.offset → get_or prices' k None ≡ get_or prices k None)
    × ((k : ℕ) → k < r.offset → get_or steps' k 0 ≡ get_or steps k 0)
    × ((ask : Question) (c : ℤ) (i : ℕ) → NextNotes ask c i r.byte n.byte bytes tracks limit → LeastRow m meaning ask bytes tracks c (suc i) n.byte (value bytes n.byte n.offset prices) 0 → LeastRow m meaning ask bytes tracks c i r.byte (value bytes r.byte r.offset prices') 0 × LeadingRow m meaning ask bytes tracks r.byte (value bytes r.byte r.offset prices') (value bytes n.byte n.offset prices) (step_at bytes r.offset steps') 0)

-- the row of a note from that of the next
pub standing_before : (bytes want : List ℕ) (k : ℕ) → k + 1 < length want → (next row : Row) → next ≡ standing bytes want (k + 1) → row ≡ record { byte = get_or want k 0; offset = next.offset + count_by (eqb next.byte) bytes } → row ≡ standing bytes want k
standing_before bytes want k l next row is made =
    let e : next.offset + count_by (eqb next.byte) bytes ≡ offset_of bytes want k = (λ j. (is j).offset + count_by (eqb (is j).byte) bytes) ∙ (omega (arith, offset_next bytes want k l)) in
    made ∙ (λ j. record { byte = get_or want k 0; offset = e j })
