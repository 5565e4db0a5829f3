-- The least rest from a place: from the next row and from what the window tells.
use Rattle.std.proofs.Common.{◌≡◌, ℕ, suc, ◌+◌, ◌-◌, ◌*◌, ◌/◌, ◌%◌, ◌<◌, ◌≤◌, T, ltb, ◌⊎◌, List, length, get_or, ℤ, Some, None, Option, sym, refl, ap, ◌∙◌, subst, inl, inr, add-mul, arith}
use Rattle.std.specs.List.{slice_get}
use Rattle.std.specs.Option.{option_map}
use Rattle.std.proofs.lemmas.Nat.{div_below, mod_below, div-add-mod'}
use Rattle.std.proofs.lemmas.Bool.{lt-ltb, cond-true, cond-false}
use Rattle.notation.specs.Kind.{rest}
use Rattle.price.specs.Pricing.{Pricing, Lawful as PriceLaws}
use Rattle.price.specs.History.{History, Within, Bounded, cost}
use Rattle.price.specs.declared.entry.Entry.{Entry}
use Rattle.splitting.specs.Score.{Score, Question, Matches}
use Rattle.splitting.specs.Splitting.{gap}
use Rattle.splitting.specs.Rest.{Rest, Least, lesser, Open, opened}
use Rattle.splitting.proofs.Places.{match_note}
use Rattle.splitting.proofs.Depths.{depth_small}
use Rattle.splitting.proofs.Least.{least_step}
use Rattle.search.specs.Rows.{column_of, track_of, entry_at, HandedTo, Hands, Chosen, neither, only_on, only_over, on, over}
use Rattle.search.specs.Resting.{Posed, Wants, LeastRow, Leads, nowhere, on as leads-on, over as leads-over}
use Rattle.search.specs.declared.choosing.Over.{Over}
use Rattle.search.proofs.Columns.{length_columns}
use Rattle.search.proofs.Spotting.{entry, entry_place, entry_some, known}

-- the columns strictly between
pub gap_is : (score : Score) (a b : ℕ) → gap score a b ≡ b - a - 1
unfolding gap
gap_is score a b = omega arith

pub some_of : {P M : Type 0} (f : P → M) (x : Option P) (a : M) → option_map f x ≡ Some a → (y : P) × (x ≡ Some y) × (f y ≡ a)
some_of f None a e = let z : ◌≡◌ {A = ℕ} 0 1 = cc in absurd (omega arith)
some_of f (Some y) a e = (y, refl, let g : f y ≡ a = cc in g)

module _ (ask : Question) (bytes : List ℕ) (tracks : ℕ) (one : 1 ≤ tracks) (posed : Posed ask bytes tracks) {P : Type 0} (m : Pricing) (prices : PriceLaws m) (meaning : P → m.Meaning) (c : ℤ) (i b : ℕ) (wants : Wants ask c (suc i) b) (row : ℕ → Option P) (inside : (q : ℕ) (a : P) → row q ≡ Some a → (q < length bytes) × (get_or bytes q rest ≡ b)) (right : LeastRow m meaning ask bytes tracks c (suc i) b row 0) where
  matched : (q : ℕ) → (length bytes ≤ q) ⊎ (get_or bytes q rest ≡ b → ⊥) → row q ≡ None
  matched q out = go (row q) refl
    where
      go : (x : Option P) → row q ≡ x → x ≡ None
      go None e = refl
      go (Some a) e = let s = inside q a e in absurd (elim out [ inl l ↦ omega arith | inr ne ↦ ne s.1 ])

  at : ℕ → ℕ → Option m.Meaning
  at = entry ask bytes tracks one posed m meaning row

  known_at : (j t : ℕ) → Least m (Rest m ask c (suc i) j t) (entry ask bytes tracks one posed m meaning row j t)
  known_at = known ask bytes tracks one posed m meaning row c (suc i) b wants matched right

  rest_at : (r : ℕ) (a : P) → row r ≡ Some a → Rest m ask c (suc i) (column_of tracks r) (track_of tracks r) (meaning a)
  rest_at r a e = let s = inside r a e in (subst (λ x. Least m (Rest m ask c (suc i) (column_of tracks r) (track_of tracks r)) (option_map meaning x)) e (right r (omega arith) s.0 s.1)).0

  module _ (q : ℕ) (l : q < length bytes) (match : Matches ask c i (column_of tracks q) (track_of tracks q)) (more : i < length ask.query) where
    deep : (r : ℕ) (a : P) → row r ≡ Some a → m.depth (meaning a) ≤ 62
    deep r a e =
        let s = depth_small m prices ask posed.covered c (rest_at r a e) in
        let n = match_note ask posed.covered.kind_laws c i (column_of tracks q) (track_of tracks q) match in
        let short = posed.covered.short in
        omega arith

    column_few : (r : ℕ) → r < length bytes → column_of tracks r ≤ 4096
    column_few r k =
        let few = posed.covered.few in
        omega (arith, ap length posed.score_is, length_columns tracks posed.columns bytes, div_below r tracks posed.columns one (omega (arith, posed.size_is)))

    -- going on leads to the same track of the next column
    next_entry : entry ask bytes tracks one posed m meaning row (suc (column_of tracks q)) (track_of tracks q) ≡ option_map meaning (row (q + tracks))
    next_entry =
        let et : q % tracks + 1 ≡ suc (q % tracks) = omega arith in
        let eq : (q / tracks + 1) * tracks + q % tracks ≡ q + tracks = omega (arith, add-mul (q / tracks) 1 tracks, div-add-mod' q tracks) in
        (λ z. entry ask bytes tracks one posed m meaning row (suc (q / tracks + 1)) (et z))
        ∙ cond-true (ltb (q % tracks) tracks) _ None (lt-ltb (q % tracks) tracks (mod_below q tracks one))
        ∙ ap (λ z. option_map meaning (row z)) eq

    module _ (h : History P) (u : ℕ) (position-is : h.position ≡ column_of tracks q) (limit_is : h.limit ≡ ask.limit) (reach : (r : ℕ) → q / tracks < r / tracks → u ≤ r) (sound : (k : ℕ) (e : Entry P) → slice_get h.puts k ≡ Some e → (u ≤ e.place) × (e.place < length bytes) × (e.position ≡ column_of tracks e.place) × (row e.place ≡ Some e.price)) (complete : (r : ℕ) (a : P) → u ≤ r → r < length bytes → row r ≡ Some a → (k : ℕ) × (slice_get h.puts k ≡ Some (entry_at tracks r a))) where
      pub bounded : Bounded m meaning h
      bounded =
          record {
            shallow = λ k e n. deep e.place e.price (sound k e n).3;
            near = λ k e n w. let s = sound k e n in omega (arith, s.2, column_few e.place s.1, position-is);
          }

      -- an entry open from here was put in
      put : (r : ℕ) (a : P) → row r ≡ Some a → column_of tracks q < column_of tracks r → gap ask.score (column_of tracks q) (column_of tracks r) ≤ ask.limit → (k : ℕ) × (slice_get h.puts k ≡ Some (entry_at tracks r a)) × Within h (entry_at tracks r a)
      put r a e later near =
          let s = complete r a (reach r (omega arith)) (inside r a e).0 e in
          (s.0, s.1, (omega (arith, position-is), omega (arith, position-is, limit_is, gap_is ask.score (column_of tracks q) (column_of tracks r))))

      charged_at : (a a' : m.Meaning) (g g' : ℕ) → a ≡ a' → g ≡ g' → m.charged a g ≡ m.charged a' g'
      charged_at a a' g g' e f = λ z. m.charged (e z) (f z)

      -- every entry open is one that was put in
      opened_is : (x : m.Meaning) → Open m ask (entry ask bytes tracks one posed m meaning row) (column_of tracks q) x → (k : ℕ) × (d : Entry P) × (slice_get h.puts k ≡ Some d) × Within h d × (cost m meaning h.position d ≡ x)
      opened_is x (opened {a = a} j' t' later near e) =
          let s = entry_some ask bytes tracks one posed m meaning row j' t' a e in
          let y = some_of meaning (row s.0) a s.3 in
          let r = s.0 in
          let col : j' ≡ column_of tracks r = s.1 in
          let p = put r y.0 y.1 (omega arith) (subst (λ z. gap ask.score (column_of tracks q) z ≤ ask.limit) col near) in
          (p.0, entry_at tracks r y.0, p.1, p.2, charged_at (meaning y.0) a (column_of tracks r - h.position - 1) (gap ask.score (column_of tracks q) j') y.2 (omega (arith, position-is, gap_is ask.score (column_of tracks q) j')))

      -- and what is told is the least of them
      module _ (o : Over P) (t : HandedTo m meaning h o) where
        place : ℕ
        place = t.entry.place

        stands : (u ≤ t.entry.place) × (t.entry.place < length bytes) × (t.entry.position ≡ column_of tracks t.entry.place) × (row t.entry.place ≡ Some t.entry.price)
        stands = sound t.least.index t.entry t.least.stands

        to_column : column_of tracks q < column_of tracks t.entry.place
        to_column = omega (arith, stands.2, t.least.within.0, position-is)

        to_near : gap ask.score (column_of tracks q) (column_of tracks t.entry.place) ≤ ask.limit
        to_near = omega (arith, stands.2, t.least.within.1, position-is, limit_is, gap_is ask.score (column_of tracks q) (column_of tracks t.entry.place))

        to_price : meaning o.price ≡ m.charged (meaning t.entry.price) (gap ask.score (column_of tracks q) (column_of tracks t.entry.place))
        to_price = t.price_is ∙ charged_at (meaning t.entry.price) (meaning t.entry.price) (t.entry.position - h.position - 1) _ refl (omega (arith, stands.2, position-is, gap_is ask.score (column_of tracks q) (column_of tracks t.entry.place)))

        to_deep : m.depth (meaning o.price) ≤ 63
        to_deep =
            let g = gap ask.score (column_of tracks q) (column_of tracks t.entry.place) in
            let d = deep t.entry.place t.entry.price stands.3 in
            let n = column_few t.entry.place stands.1 in
            let r = prices.rises (meaning t.entry.price) g d (omega (arith, gap_is ask.score (column_of tracks q) (column_of tracks t.entry.place))) in
            omega (arith, ap m.depth to_price)

        open_here : Open m ask (entry ask bytes tracks one posed m meaning row) (column_of tracks q) (meaning o.price)
        open_here =
            subst (Open m ask (entry ask bytes tracks one posed m meaning row) (column_of tracks q)) (sym to_price)
            (opened (column_of tracks t.entry.place) (track_of tracks t.entry.place) to_column to_near (entry_place ask bytes tracks one posed m meaning row t.entry.place ∙ ap (option_map meaning) stands.3))

        open_below : (x : m.Meaning) → Open m ask (entry ask bytes tracks one posed m meaning row) (column_of tracks q) x → T (m.not_above (meaning o.price) x)
        open_below x w =
            let s = opened_is x w in
            subst (λ i. i) (λ z. T (m.not_above (sym t.price_is z) (s.4 z))) (t.least.least bounded s.0 s.1 s.2 s.3)

      open_least : (o : Option (Over P)) → Hands m meaning h o → Least m (Open m ask (entry ask bytes tracks one posed m meaning row) (column_of tracks q)) (option_map (λ z. meaning z.price) o)
      open_least None t = λ x w. let s = opened_is x w in t s.0 s.1 s.2 s.3
      open_least (Some o) t = (open_here o t, open_below o t)

      abbrev lower : Option P → Option (Over P) → Option m.Meaning
      lower x o = lesser m (option_map meaning x) (option_map (λ z. meaning z.price) o)

      -- the choice tells the lesser one, and the step leads to it
      chosen_least : (x : Option P) (o : Option (Over P)) (r : Option P) (s : ℕ) → row (q + tracks) ≡ x → Hands m meaning h o → Chosen m meaning x o r s → (lower x o ≡ option_map meaning r) × Leads m meaning ask bytes tracks row q r s
      chosen_least x o r s is t neither = (refl, nowhere)
      chosen_least x o r s is t (only_on {a}) = (refl, leads-on is)
      chosen_least x o r s is t (only_over {o = v}) = (refl, subst (Leads m meaning ask bytes tracks row q (Some v.price)) (sym t.place_is) (leads-over (stands v t).3 (omega (arith, to_column v t)) (to_near v t) (to_price v t)))
      chosen_least x o r s is t (on {a} {o = v} f) = (cond-true (m.not_above (meaning a) (meaning v.price)) _ _ (f (omega (arith, deep (q + tracks) a is)) (to_deep v t)), leads-on is)
      chosen_least x o r s is t (over {a} {o = v} f) = (
        cond-false (m.not_above (meaning a) (meaning v.price)) _ _ (f (omega (arith, deep (q + tracks) a is)) (to_deep v t)),
        subst (Leads m meaning ask bytes tracks row q (Some v.price)) (sym t.place_is) (leads-over (stands v t).3 (omega (arith, to_column v t)) (to_near v t) (to_price v t)),
      )

      pub placed : (o : Option (Over P)) (r : Option P) (s : ℕ) → Hands m meaning h o → Chosen m meaning (row (q + tracks)) o r s → Least m (Rest m ask c i (column_of tracks q) (track_of tracks q)) (option_map meaning r) × Leads m meaning ask bytes tracks row q r s
      placed o r s t ch =
          let y = chosen_least (row (q + tracks)) o r s refl t ch in
          let step = least_step m prices ask posed.covered c i (column_of tracks q) (track_of tracks q) match more (entry ask bytes tracks one posed m meaning row) known_at (option_map (λ z. meaning z.price) o) (open_least o t) in
          (subst (Least m (Rest m ask c i (column_of tracks q) (track_of tracks q))) (ap (λ z. lesser m z (option_map (λ z. meaning z.price) o)) next_entry ∙ y.0) step, y.1)
