-- The span in use as a window is made, as an entry is put in, and as the window moves.
use Rattle.std.proofs.Common.{◌≡◌, ℕ, ◌<◌, ◌≤◌, List, length, ◌∙◌, subst, inl, inr, arith}
use Rattle.std.proofs.lemmas.Bool.{cases_lt}
use Rattle.price.specs.Pricing.{Pricing}
use Rattle.price.specs.History.{History, fresh, moved, put_in, Accepts}
use Rattle.price.specs.Keeping.{Kept}
use Rattle.price.specs.Spanning.{Starts, Takes, Spans}
use Rattle.price.specs.declared.entry.Entry.{Entry}
use Rattle.price.specs.declared.span.Span.{Span}
use Rattle.price.proofs.Spots.{nowhere, pushed_cases, pushed_last}
use Rattle.price.proofs.Keeps.{kept_none}

module _ {P : Type 0} (p : Pricing) (meaning : P → p.Meaning) (xs : List (Entry P)) where
  pub spans_none : (s : Span) (memory limit : ℕ) → Starts s limit → Spans p meaning xs s (fresh memory limit)
  spans_none s memory limit start =
      record {
        limit = start.limit;
        position = start.position;
        lowest = λ i d e. absurd (nowhere d e);
        reached = inl start.last;
        kept = rw (start.front, start.back) (kept_none p meaning xs memory limit);
      }

  module _ (s : Span) (h : History P) (old : Spans p meaning xs s h) (from : ℕ) where
    pub accepted : (e : Entry P) (memory : ℕ) → Takes s from e.position memory → Accepts h from e
    accepted e memory t =
        record {
          onward = omega (arith, old.position, t.onward);
          ahead = t.ahead;
          nearest = λ i d n. omega (arith, old.lowest i d n, t.nearest);
        }

    pub onward : (s.position < from → ⊥) → from ≤ h.position
    onward not = elim (cases_lt h.position from) [ inl later ↦ absurd (not (omega (arith, old.position))) | inr l ↦ l ]

    -- what the span does not take may not be put in, or finds the memory full
    pub refused : (e : Entry P) → e.position ≤ 4294967295 → length xs ≡ h.memory → (Takes s from e.position (length xs) → ⊥) → Accepts h from e → (length xs ≤ s.back) × (h.memory ≤ length h.puts)
    refused e fits memory not a =
        elim (cases_lt s.back (length xs)) [
          | inl room ↦
              absurd
              (not
              record {
                onward = omega (arith, old.position, a.onward);
                ahead = a.ahead;
                nearest = elim old.reached [ inl top ↦ omega arith | inr at ↦ let n = a.nearest at.0 at.1 at.2 in omega (arith, at.3) ];
                room = room;
              })
          | inr full ↦ (full, omega (arith, old.kept.few))
        ]

    pub spans_put : (e : Entry P) → Accepts h from e → (ys : List (Entry P)) (s' : Span) → s'.limit ≡ s.limit → s'.position ≡ from → s'.last ≡ e.position → Kept p meaning ys s'.front s'.back (put_in h from e) → Spans p meaning ys s' (put_in h from e)
    spans_put e a ys s' limit position last k =
        record {
          limit = limit ∙ old.limit;
          position = position;
          lowest = λ i d n. elim (pushed_cases h.puts e i d n) [ inl m ↦ (let l = a.nearest i d m in omega arith) | inr m ↦ subst (λ x. s'.last ≤ x.position) m.1 (omega arith) ];
          reached = inr (length h.puts, e, pushed_last h.puts e, last);
          kept = k;
        }

    pub spans_moved : (s' : Span) → s'.limit ≡ s.limit → s'.position ≡ from → s'.last ≡ s.last → Kept p meaning xs s'.front s'.back (moved h from) → Spans p meaning xs s' (moved h from)
    spans_moved s' limit position last k =
        record {
          limit = limit ∙ old.limit;
          position = position;
          lowest = λ i d e. let l = old.lowest i d e in omega arith;
          reached = elim old.reached [ inl top ↦ inl (last ∙ top) | inr at ↦ inr (at.0, at.1, at.2, last ∙ at.3) ];
          kept = k;
        }
