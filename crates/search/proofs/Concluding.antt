-- The best rest under one transposition, from the row of the first note.
use Rattle.std.proofs.Common.{◌≡◌, ℕ, ◌*◌, ◌/◌, ◌≤◌, T, ◌⊎◌, List, length, get_or, ℤ, Some, None, Option, sym, refl, ap, subst, inl, inr, arith}
use Rattle.std.specs.Option.{option_map}
use Rattle.std.proofs.lemmas.Nat.{div-add-mod'}
use Rattle.std.proofs.lemmas.Bool.{cases_lt}
use Rattle.notation.specs.Kind.{rest}
use Rattle.price.specs.Pricing.{Pricing, Lawful as PriceLaws}
use Rattle.splitting.specs.Score.{Question}
use Rattle.splitting.specs.Rest.{Rest, Least}
use Rattle.splitting.specs.Answer.{NotAfter}
use Rattle.splitting.proofs.Depths.{depth_63}
use Rattle.search.specs.Rows.{column_of, track_of, value}
use Rattle.search.specs.Resting.{Posed, Wants, LeastRow}
use Rattle.search.specs.Topmost.{Shallow, Topmost, place_at, BestUnder}
use Rattle.search.specs.declared.topping.Best.{Best}
use Rattle.search.proofs.Feeding.{div_mono}
use Rattle.search.proofs.Spotting.{entry, entry_some, known}
use Rattle.search.proofs.Stepping.{some_of}
use Rattle.search.proofs.Valuing.{value_some, value_past, value_other}

-- an earlier place is not after a later one
pub not_after : (tracks p q : ℕ) → 1 ≤ tracks → p ≤ q → NotAfter (place_at tracks p) (place_at tracks q)
not_after tracks p q one l =
    elim (cases_lt (p / tracks) (q / tracks)) [
      | inl k ↦ inl (omega arith)
      | inr k ↦
          let d = div_mono tracks p q one l in
          let same : p / tracks ≡ q / tracks = omega arith in
          let e = ap (λ z. z * tracks) same in
          inr (omega arith, omega (arith, div-add-mod' p tracks, div-add-mod' q tracks))
    ]

module _ (ask : Question) (bytes : List ℕ) (tracks : ℕ) (one : 1 ≤ tracks) (posed : Posed ask bytes tracks) {P : Type 0} (m : Pricing) (prices : PriceLaws m) (meaning : P → m.Meaning) (c : ℤ) (b offset : ℕ) (sheet : List (Option P)) (wants : Wants ask c 1 b) (right : LeastRow m meaning ask bytes tracks c 1 b (value bytes b offset sheet) 0) where
  row_rest : (q : ℕ) (a : P) → value bytes b offset sheet q ≡ Some a → Rest m ask c 1 (column_of tracks q) (track_of tracks q) (meaning a)
  row_rest q a e = let s = value_some bytes b offset sheet q a e in (subst (λ x. Least m (Rest m ask c 1 (column_of tracks q) (track_of tracks q)) (option_map meaning x)) e (right q (omega arith) s.0 s.1)).0

  pub row_shallow : Shallow m meaning (value bytes b offset sheet)
  row_shallow q a e = depth_63 m prices ask posed.covered c (row_rest q a e)

  outside : (q : ℕ) → (length bytes ≤ q) ⊎ (get_or bytes q rest ≡ b → ⊥) → value bytes b offset sheet q ≡ None
  outside q (inl l) = value_past bytes b offset sheet q l
  outside q (inr ne) = value_other bytes b offset sheet q ne

  pub known_at : (j t : ℕ) → Least m (Rest m ask c 1 j t) (entry ask bytes tracks one posed m meaning (value bytes b offset sheet) j t)
  known_at = known ask bytes tracks one posed m meaning (value bytes b offset sheet) c 1 b wants outside right

  -- each rest costs no less than the price in the row at the place where it begins
  found : (j t : ℕ) (x : m.Meaning) → Rest m ask c 1 j t x → (q : ℕ) × (a : P) × (value bytes b offset sheet q ≡ Some a) × (j ≡ column_of tracks q) × (t ≡ track_of tracks q) × T (m.not_above (meaning a) x)
  found j t x r = go (entry ask bytes tracks one posed m meaning (value bytes b offset sheet) j t) refl (known_at j t)
    where
      go : (o : Option m.Meaning) → entry ask bytes tracks one posed m meaning (value bytes b offset sheet) j t ≡ o → Least m (Rest m ask c 1 j t) o → (q : ℕ) × (a : P) × (value bytes b offset sheet q ≡ Some a) × (j ≡ column_of tracks q) × (t ≡ track_of tracks q) × T (m.not_above (meaning a) x)
      go None e h = absurd (h x r)
      go (Some y) e h =
          let s = entry_some ask bytes tracks one posed m meaning (value bytes b offset sheet) j t y e in
          let v = some_of meaning (value bytes b offset sheet s.0) y s.3 in
          (s.0, v.0, v.1, s.1, s.2, subst (λ z. T (m.not_above z x)) (sym v.2) (h.1 x r))

  pub best_under : (o : Option (Best P)) → Topmost m meaning (value bytes b offset sheet) o 0 → BestUnder m meaning ask c tracks o
  best_under None h = λ x a r. let f = found x.column x.track a r in h f.0 f.1 (omega arith) f.2
  best_under (Some o) h =
      record {
        rest_is = row_rest o.place o.price h.stands;
        least =
            λ x a r.
            let f = found x.column x.track a r in
            prices.trans (meaning o.price) (meaning f.1) a (row_shallow o.place o.price h.stands) (row_shallow f.0 f.1 f.2) (depth_63 m prices ask posed.covered c r) (h.cheapest f.0 f.1 (omega arith) f.2) f.5;
        earliest =
            λ x a r less.
            let f = found x.column x.track a r in
            let lower = prices.trans (meaning f.1) a (meaning o.price) (row_shallow f.0 f.1 f.2) (depth_63 m prices ask posed.covered c r) (row_shallow o.place o.price h.stands) f.5 less in
            let at : place_at tracks f.0 ≡ x = λ i. record { column = sym f.3 i; track = sym f.4 i } in
            subst (NotAfter (place_at tracks o.place)) at (not_after tracks o.place f.0 one (h.earliest f.0 f.1 (omega arith) f.2 lower));
      }
