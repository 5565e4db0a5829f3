-- Writing the transposed notes one after another.
use Rattle.std.proofs.Common.{◌≡◌, ℕ, zero, suc, ◌+◌, ◌<◌, ◌≤◌, List, map, length, get_or, take, drop, set, ℤ, Some, sym, ap, ◌∙◌, subst, inl, inr, arith}
use Rattle.std.proofs.lemmas.List.{length-map, length-take-le, get_or-set_same, get_or-set_other, get_or-take, take-map, map-set, drop-set-lt}
use Rattle.std.proofs.lemmas.Bool.{cases_eq}
use Rattle.notation.specs.Kind.{Kind, rest}
use Rattle.splitting.specs.Score.{note, Transposed}
use Rattle.search.proofs.Refusing.{byte_at}

module _ {S : Type 0} (byte : S → ℕ) (k : Kind) (by : ℤ) (query : List S) where
  -- the first i notes are moved, and what lies behind the query is as it was
  pub record Moved (before out : List S) (i : ℕ) : Type 0 where
    pub each : (n : ℕ) → n < i → k.interval (get_or (map byte query) n rest) (get_or (map byte out) n rest) ≡ Some by
    pub behind : drop (length query) out ≡ drop (length query) before

  module _ (before out : List S) (i : ℕ) (x y : S) (within : i < length query) (room : length query ≤ length out) (is : x ≡ get_or query i x) (at : k.interval (byte x) (byte y) ≡ Some by) (old : Moved before out i) where
    pub moved_more : Moved before (set out i y) (i + 1)
    moved_more =
        let e = map-set byte out i y in
        let n = length-map out byte in
        record {
          each =
              λ m l.
              elim (cases_eq m i) [
                | inl q ↦
                    subst (λ z. k.interval (get_or (map byte query) z rest) (get_or (map byte (set out i y)) z rest) ≡ Some by) (sym q)
                    (subst (λ z. k.interval (get_or (map byte query) i rest) z ≡ Some by) (sym (ap (λ z. get_or z i rest) e ∙ get_or-set_same (map byte out) i (byte y) rest (omega arith)))
                    (subst (λ z. k.interval z (byte y) ≡ Some by) (sym (byte_at byte query i x rest within is)) at))
                | inr q ↦
                    subst (λ z. k.interval (get_or (map byte query) m rest) z ≡ Some by) (sym (ap (λ z. get_or z m rest) e ∙ get_or-set_other (map byte out) i m (byte y) rest q))
                    (old.each m (omega arith))
              ];
          behind = drop-set-lt (length query) out i y within ∙ old.behind;
        }

  pub moved_all : (before out : List S) → length query ≤ length out → Moved before out (length query) → Transposed k by (map byte query) (map byte (take (length query) out))
  moved_all before out room h =
      let n = length-map query byte in
      record {
        as_long = length-map (take (length query) out) byte ∙ length-take-le (length query) out room ∙ sym n;
        each = λ i l m. each i l m;
      }
    where
      each : (i : ℕ) → 0 < i → i ≤ length (map byte query) → k.interval (note (map byte query) i) (note (map byte (take (length query) out)) i) ≡ Some by
      each zero l m = absurd (omega arith)
      each (suc i) l m =
          let n = length-map query byte in
          subst (λ z. k.interval (get_or (map byte query) i rest) z ≡ Some by)
          (sym (ap (λ z. get_or z i rest) (sym (take-map byte (length query) out)) ∙ get_or-take (length query) (map byte out) i rest (omega arith)))
          (h.each i (omega arith))
