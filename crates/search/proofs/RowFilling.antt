-- Filling a row, place by place from the last one down.
use Rattle.std.proofs.Common.{◌≡◌, ℕ, suc, ◌+◌, ◌-◌, ◌/◌, ◌<◌, ◌≤◌, eqb, List, length, get_or, set, ℤ, Some, None, count_by, Option, sym, refl, ap, ◌∙◌, subst, inl, inr, div-le_self, arith}
use Rattle.std.specs.Option.{option_map}
use Rattle.std.proofs.lemmas.List.{get_or-set_same, get_or-set_other}
use Rattle.std.proofs.lemmas.Bool.{cases_lt, cases_eq}
use Rattle.notation.specs.Kind.{rest}
use Rattle.price.specs.Pricing.{Pricing, Lawful as PriceLaws}
use Rattle.price.specs.History.{History, Bounded, fresh, moved}
use Rattle.price.specs.Answers.{Holds}
use Rattle.price.specs.declared.window.Window.{Window}
use Rattle.price.proofs.Spots.{nowhere as no-entry}
use Rattle.splitting.specs.Score.{Question}
use Rattle.splitting.specs.Rest.{Rest, Least}
use Rattle.search.specs.Tables.{later, Mark}
use Rattle.search.specs.Rows.{column_of, track_of, value, Fed, Hands, Chosen}
use Rattle.splitting.proofs.Least.{least_last}
use Rattle.search.specs.Resting.{Posed, Wants, NextNotes, LeastRow, Leads, LeadingRow, step_at}
use Rattle.search.specs.declared.choosing.Over.{Over}
use Rattle.search.proofs.Feeding.{div_mono}
use Rattle.search.proofs.Spotting.{matches_place}
use Rattle.search.proofs.Stepping.{placed, bounded}
use Rattle.search.proofs.Valuing.{rank_below, rank_other, value_there, value_some, value_past, value_other}

-- a row is as it was where its part of the sheet is
pub value_kept : {P : Type 0} (bytes : List ℕ) (b offset : ℕ) (prices prices' : List (Option P)) → ((k : ℕ) → k < offset + count_by (eqb b) bytes → get_or prices k None ≡ get_or prices' k None) → (q : ℕ) → value bytes b offset prices q ≡ value bytes b offset prices' q
value_kept bytes b offset prices prices' same q =
    elim (cases_lt q (length bytes)) [
      | inl l ↦
          elim (cases_eq (get_or bytes q rest) b) [
            | inl e ↦ value_there bytes b offset prices q l e ∙ same (offset + later bytes q) (omega (arith, rank_below bytes b q l e)) ∙ sym (value_there bytes b offset prices' q l e)
            | inr ne ↦ value_other bytes b offset prices q ne ∙ sym (value_other bytes b offset prices' q ne)
          ]
      | inr l ↦ value_past bytes b offset prices q l ∙ sym (value_past bytes b offset prices' q l)
    ]

pub value_same : {P : Type 0} (bytes : List ℕ) (b offset : ℕ) (prices prices' : List (Option P)) → ((k : ℕ) → k < offset + count_by (eqb b) bytes → get_or prices k None ≡ get_or prices' k None) → value bytes b offset prices ≡ value bytes b offset prices'
value_same bytes b offset prices prices' same = λ i q. value_kept bytes b offset prices prices' same q i

-- a price written at a place
module _ {P : Type 0} (bytes : List ℕ) (b offset : ℕ) (prices : List (Option P)) (q : ℕ) (l : q < length bytes) (is : get_or bytes q rest ≡ b) where
  pub written_in : offset + later bytes q < offset + count_by (eqb b) bytes
  written_in = omega (arith, rank_below bytes b q l is)

  pub written_apart : (r : ℕ) → (r ≡ q → ⊥) → r < length bytes → get_or bytes r rest ≡ b → offset + later bytes r ≡ offset + later bytes q → ⊥
  written_apart r ne n e f = rank_other bytes r q ne n l (e ∙ sym is) (omega arith)

  module _ (room : offset + count_by (eqb b) bytes ≤ length prices) (x : Option P) where
    pub written_here : value bytes b offset (set prices (offset + later bytes q) x) q ≡ x
    written_here = value_there bytes b offset (set prices (offset + later bytes q) x) q l is ∙ get_or-set_same prices (offset + later bytes q) x None (omega (arith, written_in))

    pub written_other : (r : ℕ) → (r ≡ q → ⊥) → r < length bytes → get_or bytes r rest ≡ b → value bytes b offset (set prices (offset + later bytes q) x) r ≡ value bytes b offset prices r
    written_other r ne n e =
        value_there bytes b offset (set prices (offset + later bytes q) x) r n e
        ∙ get_or-set_other prices (offset + later bytes q) (offset + later bytes r) x None (written_apart r ne n e)
        ∙ sym (value_there bytes b offset prices r n e)

-- the last note has nothing to pay wherever it matches
module _ {P : Type 0} (m : Pricing) (meaning : P → m.Meaning) (bytes : List ℕ) (b offset : ℕ) where
  abbrev pub Emptied : List (Option P) → ℕ → Type 0
  Emptied prices u = (q : ℕ) → u ≤ q → q < length bytes → get_or bytes q rest ≡ b → (a : P) × (value bytes b offset prices q ≡ Some a) × (meaning a ≡ m.nothing)

  pub emptied_more : (prices : List (Option P)) (q w : ℕ) → q < length bytes → get_or bytes q rest ≡ b → offset + count_by (eqb b) bytes ≤ length prices → (a : P) → meaning a ≡ m.nothing → Mark bytes b q w → Emptied prices (q + 1) → Emptied (set prices (offset + later bytes q) (Some a)) w
  emptied_more prices q w l is room a free mark old r z n e =
      elim (cases_eq r q) [
        | inl f ↦ (a, ap (value bytes b offset (set prices (offset + later bytes q) (Some a))) f ∙ written_here bytes b offset prices q l is room (Some a), free)
        | inr ne ↦ let o = old r (above ne) n e in (o.0, written_other bytes b offset prices q l is room (Some a) r ne n e ∙ o.1, o.2)
      ]
    where
      above : (r ≡ q → ⊥) → q + 1 ≤ r
      above ne = elim (cases_lt r q) [ inl k ↦ absurd (mark.none r z k e) | inr k ↦ omega arith ]

  pub emptied_least : (tracks : ℕ) → 1 ≤ tracks → PriceLaws m → (prices : List (Option P)) → Emptied prices 0 → (ask : Question) (c : ℤ) → Posed ask bytes tracks → Wants ask c (length ask.query) b → LeastRow m meaning ask bytes tracks c (length ask.query) b (value bytes b offset prices) 0
  emptied_least tracks one laws prices all ask c posed wants q l n e =
      let s = all q l n e in
      subst (λ x. Least m (Rest m ask c (length ask.query) (column_of tracks q) (track_of tracks q)) x) (sym (ap (option_map meaning) s.1 ∙ ap Some s.2))
      (least_last m laws ask posed.covered c (length ask.query) (column_of tracks q) (track_of tracks q) refl (matches_place ask bytes tracks one posed c (length ask.query) b wants q n e))

module _ {P : Type 0} (m : Pricing) (meaning : P → m.Meaning) (bytes : List ℕ) (tracks b offset b' offset' limit : ℕ) (prices₀ : List (Option P)) (steps₀ : List ℕ) where
  -- what a row is to be from u on
  pub record Filled (prices : List (Option P)) (steps : List ℕ) (u : ℕ) : Type 0 where
    pub right : (ask : Question) (c : ℤ) (i : ℕ) → NextNotes ask c i b b' bytes tracks limit → LeastRow m meaning ask bytes tracks c (suc i) b' (value bytes b' offset' prices₀) 0 → LeastRow m meaning ask bytes tracks c i b (value bytes b offset prices) u × LeadingRow m meaning ask bytes tracks b (value bytes b offset prices) (value bytes b' offset' prices₀) (step_at bytes offset steps) u

  -- the row is filled from the mark on, and the window fed with the next row from `ahead` on
  pub record Filling (prices : List (Option P)) (steps : List ℕ) (window : Window P) (mark ahead : ℕ) : Type 0 where
    pub mark_low : mark ≤ length bytes
    pub mark_byte : 0 < mark → get_or bytes (mark - 1) rest ≡ b
    pub ahead_low : ahead ≤ length bytes
    pub ahead_byte : 0 < ahead → get_or bytes (ahead - 1) rest ≡ b'
    pub same_prices : (k : ℕ) → k < offset → get_or prices k None ≡ get_or prices₀ k None
    pub same_steps : (k : ℕ) → k < offset → get_or steps k 0 ≡ get_or steps₀ k 0
    pub history : History P
    pub fed : Fed m meaning bytes tracks b' (value bytes b' offset' prices₀) window ahead history
    pub position : 0 < mark → (mark - 1) / tracks + 1 ≤ history.position
    pub limit_is : history.limit ≡ limit
    pub filled : Filled prices steps mark

module _ {P : Type 0} (m : Pricing) (laws : PriceLaws m) (meaning : P → m.Meaning) (bytes : List ℕ) (tracks : ℕ) (one : 1 ≤ tracks) (b offset b' offset' limit : ℕ) (apart : offset' + count_by (eqb b') bytes ≤ offset) (prices₀ : List (Option P)) (steps₀ : List ℕ) where
  abbrev FilledTo : List (Option P) → List ℕ → ℕ → Type 0
  FilledTo = Filled m meaning bytes tracks b offset b' offset' limit prices₀ steps₀

  abbrev FillingTo : List (Option P) → List ℕ → Window P → ℕ → ℕ → Type 0
  FillingTo = Filling m meaning bytes tracks b offset b' offset' limit prices₀ steps₀

  pub next_same : (prices : List (Option P)) → ((k : ℕ) → k < offset → get_or prices k None ≡ get_or prices₀ k None) → value bytes b' offset' prices ≡ value bytes b' offset' prices₀
  next_same prices same = value_same bytes b' offset' prices prices₀ (λ k l. same k (omega arith))

  pub filling_none : (window : Window P) (mark ahead memory : ℕ) → length bytes ≤ 65536 → Mark bytes b (length bytes) mark → Mark bytes b' (length bytes) ahead → count_by (eqb b') bytes ≤ memory → Holds m meaning window (fresh memory limit) → FillingTo prices₀ steps₀ window mark ahead
  filling_none window mark ahead memory few here there room holds =
      record {
        mark_low = here.low;
        mark_byte = here.holds;
        ahead_low = there.low;
        ahead_byte = there.holds;
        same_prices = λ k l. refl;
        same_steps = λ k l. refl;
        history = fresh memory limit;
        fed =
            record {
              holds = holds;
              sound = λ k e n. absurd (no-entry e n);
              complete = λ q a l n e. absurd (there.none q l n (value_some bytes b' offset' prices₀ q a e).1);
              few = omega arith;
              room = room;
            };
        position = λ l. let h = here.low in omega (arith, div-le_self (mark - 1) tracks);
        limit_is = refl;
        filled = record { right = λ ask c i notes known. ((λ q l n e. absurd (here.none q l n e)), λ q l n e. absurd (here.none q l n e)) };
      }

  -- one place further
  module _ (prices : List (Option P)) (steps : List ℕ) (q : ℕ) (l : q < length bytes) (is : get_or bytes q rest ≡ b) (room : offset + count_by (eqb b) bytes ≤ length prices) (room_steps : offset + count_by (eqb b) bytes ≤ length steps) (x : Option P) (s : ℕ) where
    spot_in : offset + later bytes q < offset + count_by (eqb b) bytes
    spot_in = written_in bytes b offset prices q l is

    here_price : value bytes b offset (set prices (offset + later bytes q) x) q ≡ x
    here_price = written_here bytes b offset prices q l is room x

    other_rank : (r : ℕ) → (r ≡ q → ⊥) → r < length bytes → get_or bytes r rest ≡ b → offset + later bytes r ≡ offset + later bytes q → ⊥
    other_rank = written_apart bytes b offset prices q l is

    other_price : (r : ℕ) → (r ≡ q → ⊥) → r < length bytes → get_or bytes r rest ≡ b → value bytes b offset (set prices (offset + later bytes q) x) r ≡ value bytes b offset prices r
    other_price = written_other bytes b offset prices q l is room x

    pub filled_more : (w : ℕ) → Mark bytes b q w → FilledTo prices steps (q + 1) → ((ask : Question) (c : ℤ) (i : ℕ) → NextNotes ask c i b b' bytes tracks limit → LeastRow m meaning ask bytes tracks c (suc i) b' (value bytes b' offset' prices₀) 0 → Least m (Rest m ask c i (column_of tracks q) (track_of tracks q)) (option_map meaning x) × Leads m meaning ask bytes tracks (value bytes b' offset' prices₀) q x s) → FilledTo (set prices (offset + later bytes q) x) (set steps (offset + later bytes q) s) w
    filled_more w mark old new =
        record {
          right =
              λ ask c i notes known.
              let o = old.right ask c i notes known in
              let n = new ask c i notes known in (
                (λ r a z e.
                    elim (cases_eq r q) [
                      | inl f ↦
                          subst (λ r. Least m (Rest m ask c i (column_of tracks r) (track_of tracks r)) (option_map meaning (value bytes b offset (set prices (offset + later bytes q) x) r))) (sym f)
                          (subst (λ y. Least m (Rest m ask c i (column_of tracks q) (track_of tracks q)) (option_map meaning y)) (sym here_price) n.0)
                      | inr ne ↦ subst (λ y. Least m (Rest m ask c i (column_of tracks r) (track_of tracks r)) (option_map meaning y)) (sym (other_price r ne z e)) (o.0 r (above r a ne e) z e)
                    ]),
                (λ r a z e.
                    elim (cases_eq r q) [
                      | inl f ↦
                          subst (λ r. Leads m meaning ask bytes tracks (value bytes b' offset' prices₀) r (value bytes b offset (set prices (offset + later bytes q) x) r) (step_at bytes offset (set steps (offset + later bytes q) s) r)) (sym f)
                          (subst (λ i. i) (λ j. Leads m meaning ask bytes tracks (value bytes b' offset' prices₀) q (sym here_price j) (sym (get_or-set_same steps (offset + later bytes q) s 0 (omega (arith, spot_in))) j)) n.1)
                      | inr ne ↦
                          subst (λ i. i) (λ j. Leads m meaning ask bytes tracks (value bytes b' offset' prices₀) r (sym (other_price r ne z e) j) (sym (get_or-set_other steps (offset + later bytes q) (offset + later bytes r) s 0 (other_rank r ne z e)) j)) (o.1 r (above r a ne e) z e)
                    ]),
              );
        }
      where
        above : (r : ℕ) → w ≤ r → (r ≡ q → ⊥) → get_or bytes r rest ≡ b → q + 1 ≤ r
        above r a ne e = elim (cases_lt r q) [ inl k ↦ absurd (mark.none r a k e) | inr k ↦ omega arith ]

    -- from what the window tells
    module _ (window window' : Window P) (ahead : ℕ) (reach : 0 < ahead → (ahead - 1) / tracks < q / tracks + 1) (h : History P) (fed : Fed m meaning bytes tracks b' (value bytes b' offset' prices₀) window ahead h) (limit_is : h.limit ≡ limit) where
      reached : (r : ℕ) → q / tracks < r / tracks → ahead ≤ r
      reached r k =
          elim (cases_lt r ahead) [
            | inl n ↦ let d = div_mono tracks r (ahead - 1) one (omega arith) in let z = reach (omega arith) in absurd (omega arith)
            | inr n ↦ n
          ]

      module _ (ask : Question) (c : ℤ) (i : ℕ) (notes : NextNotes ask c i b b' bytes tracks limit) (known : LeastRow m meaning ask bytes tracks c (suc i) b' (value bytes b' offset' prices₀) 0) where
        pub bounded_here : Bounded m meaning (moved h (column_of tracks q))
        bounded_here =
            bounded ask bytes tracks one notes.posed m laws meaning c i b' notes.wants_next (value bytes b' offset' prices₀) (λ r a e. let v = value_some bytes b' offset' prices₀ r a e in (v.0, v.1)) known q l (matches_place ask bytes tracks one notes.posed c i b notes.wants q l is) notes.more
            (moved h (column_of tracks q)) ahead refl (limit_is ∙ sym notes.limit_is) reached fed.sound fed.complete

        pub placed_here : (o : Option (Over P)) → Hands m meaning (moved h (column_of tracks q)) o → Chosen m meaning (value bytes b' offset' prices₀ (q + tracks)) o x s → Least m (Rest m ask c i (column_of tracks q) (track_of tracks q)) (option_map meaning x) × Leads m meaning ask bytes tracks (value bytes b' offset' prices₀) q x s
        placed_here o t ch =
            placed ask bytes tracks one notes.posed m laws meaning c i b' notes.wants_next (value bytes b' offset' prices₀) (λ r a e. let v = value_some bytes b' offset' prices₀ r a e in (v.0, v.1)) known q l (matches_place ask bytes tracks one notes.posed c i b notes.wants q l is) notes.more
            (moved h (column_of tracks q)) ahead refl (limit_is ∙ sym notes.limit_is) reached fed.sound fed.complete o x s t ch

      -- the whole state, one place further
      pub filling_more : (w : ℕ) → Mark bytes b q w → (o : Option (Over P)) → Holds m meaning window' (moved h (column_of tracks q)) → (Bounded m meaning (moved h (column_of tracks q)) → Hands m meaning (moved h (column_of tracks q)) o) → Chosen m meaning (value bytes b' offset' prices₀ (q + tracks)) o x s → ahead ≤ length bytes → (0 < ahead → get_or bytes (ahead - 1) rest ≡ b') → ((k : ℕ) → k < offset → get_or prices k None ≡ get_or prices₀ k None) → ((k : ℕ) → k < offset → get_or steps k 0 ≡ get_or steps₀ k 0) → FilledTo prices steps (q + 1) → FillingTo (set prices (offset + later bytes q) x) (set steps (offset + later bytes q) s) window' w ahead
      filling_more w mark o holds tells ch low byte same same' old =
          record {
            mark_low = let z = mark.low in omega arith;
            mark_byte = mark.holds;
            ahead_low = low;
            ahead_byte = byte;
            same_prices = λ k z. get_or-set_other prices (offset + later bytes q) k x None (λ e. omega arith) ∙ same k z;
            same_steps = λ k z. get_or-set_other steps (offset + later bytes q) k s 0 (λ e. omega arith) ∙ same' k z;
            history = moved h (column_of tracks q);
            fed = record { holds = holds; sound = fed.sound; complete = fed.complete; few = fed.few; room = fed.room };
            position = λ z. let y = mark.low in omega (arith, div_mono tracks (w - 1) q one (omega arith));
            limit_is = limit_is;
            filled = filled_more w mark old (λ ask c i notes known. placed_here ask c i notes known o (tells (bounded_here ask c i notes known)) ch);
          }
