-- The best of a row, one place further.
use Rattle.std.proofs.Common.{◌≡◌, ℕ, ◌≤◌, List, Some, None, Option, inl, inr}
use Rattle.std.proofs.lemmas.Bool.{cases_lt}
use Rattle.price.specs.Pricing.{Pricing}
use Rattle.search.specs.Topmost.{Topmost}
use Rattle.search.specs.Tables.{Mark}
use Rattle.search.specs.Rows.{value}
use Rattle.search.specs.declared.topping.Best.{Best}
use Rattle.search.proofs.Valuing.{value_byte}

-- the places between a mark and the next hold nothing
pub top_lower : {P : Type 0} (m : Pricing) (meaning : P → m.Meaning) (bytes : List ℕ) (b offset : ℕ) (prices : List (Option P)) (u w : ℕ) → Mark bytes b u w → (best : Option (Best P)) → Topmost m meaning (value bytes b offset prices) best u → Topmost m meaning (value bytes b offset prices) best w
top_lower {P} m meaning bytes b offset prices u w mark best h = go best h
  where
    above : (q : ℕ) (a : P) → w ≤ q → value bytes b offset prices q ≡ Some a → u ≤ q
    above q a l e = elim (cases_lt q u) [ inl k ↦ absurd (mark.none q l k (value_byte bytes b offset prices q a e)) | inr k ↦ k ]

    go : (x : Option (Best P)) → Topmost m meaning (value bytes b offset prices) x u → Topmost m meaning (value bytes b offset prices) x w
    go None h = λ q a l e. h q a (above q a l e) e
    go (Some x) h = record { stands = h.stands; cheapest = λ q a l e. h.cheapest q a (above q a l e) e; earliest = λ q a l e. h.earliest q a (above q a l e) e }
