-- Taking the places of a row into the window, from the last one down.
use Rattle.std.proofs.Common.{◌≡◌, ℕ, ◌+◌, ◌/◌, ◌<◌, ◌≤◌, List, length, get_or, Some, None, Ok, Err, Option, Result, sym, refl, ◌∙◌, subst, inl, inr, div-mul-le_self, arith, MatchResult}
use Rattle.std.proofs.lemmas.List.{length_push}
use Rattle.std.proofs.lemmas.Nat.{le-div}
use Rattle.std.proofs.lemmas.Bool.{cases_lt, cases_eq}
use Rattle.notation.specs.Kind.{rest}
use Rattle.price.specs.Pricing.{Pricing}
use Rattle.price.specs.History.{History, put_in, Accepts}
use Rattle.price.specs.Answers.{Taken, Returned}
use Rattle.price.specs.declared.entry.Entry.{Entry}
use Rattle.price.specs.declared.window.Window.{Window}
use Rattle.price.proofs.Spots.{pushed_before, pushed_last, pushed_cases}
use Rattle.search.specs.Rows.{column_of, entry_at, Fed}
use Rattle.search.proofs.Linking.{count_yes}
use Rattle.search.proofs.Valuing.{count_lower}

-- an earlier place is in no later column
pub div_mono : (t p q : ℕ) → 1 ≤ t → p ≤ q → p / t ≤ q / t
div_mono t p q l m = le-div (p / t) q t l (omega (arith, div-mul-le_self p t))

module _ {P : Type 0} (p : Pricing) (meaning : P → p.Meaning) (bytes : List ℕ) (tracks b : ℕ) (row : ℕ → Option P) (one : 1 ≤ tracks) (matched : (q : ℕ) (a : P) → row q ≡ Some a → get_or bytes q rest ≡ b) where
  abbrev pub FedBy : Window P → ℕ → History P → Type 0
  FedBy = Fed p meaning bytes tracks b row

  -- the places from a mark on, where they were those from a later place on
  module _ (u w : ℕ) (low : w ≤ u) (none : (q : ℕ) → w ≤ q → q < u → get_or bytes q rest ≡ b → ⊥) where
    pub fed_lower : (x : Window P) (h : History P) → FedBy x u h → FedBy x w h
    fed_lower x h f =
        record {
          holds = f.holds;
          sound = λ k e n. let s = f.sound k e n in (omega arith, s.1, s.2, s.3);
          complete =
              λ q a l m e.
              elim (cases_lt q u) [
                | inl n ↦ absurd (none q l n (matched q a e))
                | inr n ↦ f.complete q a n m e
              ];
          few = let s = f.few in omega (arith, count_lower bytes b u w low);
          room = f.room;
        }

  -- one place further, which is put in
  module _ (x y : Window P) (q : ℕ) (a : P) (l : q < length bytes) (is : row q ≡ Some a) (from : ℕ) (ahead : from < column_of tracks q) (h : History P) (onward : from ≤ h.position) (f : FedBy x (q + 1) h) where
    accepts : Accepts h from (entry_at tracks q a)
    accepts =
        record {
          onward = onward;
          ahead = ahead;
          nearest = λ i d n. let s = f.sound i d n in omega (arith, s.2, div_mono tracks q d.place one (omega arith));
        }

    pub fed_put : Taken p meaning x y from (entry_at tracks q a) → FedBy y q (put_in h from (entry_at tracks q a))
    fed_put t =
        record {
          holds = t.holds h f.holds;
          sound =
              λ k e n.
              elim (pushed_cases h.puts (entry_at tracks q a) k e n) [
                | inl o ↦ let s = f.sound k e o in (omega arith, s.1, s.2, s.3)
                | inr o ↦ subst (λ (z : Entry P). (q ≤ z.place) × (z.place < length bytes) × (z.position ≡ column_of tracks z.place) × (row z.place ≡ Some z.price)) o.1 (omega arith, l, refl, is)
              ];
          complete =
              λ r c m n e.
              elim (cases_eq r q) [
                | inl o ↦
                    (length h.puts, pushed_last h.puts (entry_at tracks q a) ∙ (λ i. Some (entry_at tracks (sym o i) (same r c o e i))))
                | inr o ↦ let s = f.complete r c (above r m o) n e in (s.0, pushed_before h.puts (entry_at tracks q a) s.0 (entry_at tracks r c) s.1)
              ];
          few =
              let s = f.few in
              let e = length_push h.puts (entry_at tracks q a) in
              omega (arith, count_yes bytes b q l (matched q a is));
          room = f.room;
        }
      where
        same : (r : ℕ) (c : P) → r ≡ q → row r ≡ Some c → a ≡ c
        same r c o e = let d : row q ≡ Some c = subst (λ z. row z ≡ Some c) o e in cc

        above : (r : ℕ) → q ≤ r → (r ≡ q → ⊥) → q + 1 ≤ r
        above r m o = omega arith

    -- the memory has room for every place
    pub fed_room : (back : Entry P) → Returned p meaning x y from (entry_at tracks q a) back → ⊥
    fed_room back t =
        let s = (t.full h f.holds accepts).1 in
        let few = f.few in
        let room = f.room in
        let low = count_lower bytes b q 0 (omega arith) in
        let here = count_yes bytes b q l (matched q a is) in
        omega arith

    pub fed_by : (r : Result (Unit {0}) (Entry P)) → MatchResult r (λ _. Taken p meaning x y from (entry_at tracks q a)) (λ back. Returned p meaning x y from (entry_at tracks q a) back) → FedBy y q (put_in h from (entry_at tracks q a))
    fed_by (Ok _) t = fed_put t
    fed_by (Err back) t = absurd (fed_room back t)

  -- one place further, which has no price
  pub fed_skip : (x : Window P) (q : ℕ) → row q ≡ None → (h : History P) → FedBy x (q + 1) h → FedBy x q h
  fed_skip x q is h f =
      record {
        holds = f.holds;
        sound = λ k e n. let s = f.sound k e n in (omega arith, s.1, s.2, s.3);
        complete =
            λ r c m n e.
            elim (cases_eq r q) [
              | inl o ↦ absurd (never r c o e)
              | inr o ↦ f.complete r c (above r m o) n e
            ];
        few = let s = f.few in omega (arith, count_lower bytes b (q + 1) q (omega arith));
        room = f.room;
      }
    where
      never : (r : ℕ) (c : P) → r ≡ q → row r ≡ Some c → ⊥
      never r c o e = let d : row q ≡ Some c = subst (λ z. row z ≡ Some c) o e in let z : ◌≡◌ {A = ℕ} 0 1 = cc in omega arith

      above : (r : ℕ) → q ≤ r → (r ≡ q → ⊥) → q + 1 ≤ r
      above r m o = omega arith
