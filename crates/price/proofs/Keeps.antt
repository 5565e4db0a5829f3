-- What a window keeps as it moves, as entries leave at its front, and as one is put in.
use Rattle.std.proofs.Common.{◌≡◌, ℕ, ◌+◌, ◌-◌, ◌<◌, ◌≤◌, true, false, if◌then◌else◌, nat_lt, T, ◌⊎◌, List, [], ◌∷◌, ◌++◌, length, set, Some, None, Option, refl, zero, suc, sym, ◌∙◌, subst, inl, inr, arith}
use Rattle.std.specs.List.{slice_get}
use Rattle.std.proofs.lemmas.Bool.{cases_lt}
use Rattle.std.proofs.lemmas.Bool.Decides.{nat_tests}
use Rattle.std.proofs.lemmas.Option.{slice_get_within}
use Rattle.std.proofs.lemmas.List.{length-set, length_push}
use Rattle.price.specs.Pricing.{Pricing, Lawful}
use Rattle.price.specs.History.{History, fresh, moved, put_in, Accepts, gap, Within, NoDearer, Shallow, Bounded, Least, Told}
use Rattle.price.specs.Keeping.{Gone, StaysNoDearer, Covered, Kept, Judged}
use Rattle.price.specs.declared.entry.Entry.{Entry}
use Rattle.price.proofs.Spots.{nowhere, found, pushed_before, pushed_last, pushed_cases, written_here, written_elsewhere}
use Rattle.price.proofs.Comparing.{no_dearer_self, no_dearer_trans, no_dearer_total, stays}

module _ {P : Type 0} (p : Pricing) (meaning : P → p.Meaning) where
  pub kept_none : (xs : List (Entry P)) (memory limit : ℕ) → Kept p meaning xs 0 0 (fresh memory limit)
  kept_none xs memory limit =
      record {
        ordered = omega arith;
        inside = omega arith;
        few = omega arith;
        ahead = λ i d e. absurd (nowhere d e);
        nearing = λ i j d e l n m. absurd (nowhere d n);
        index = λ a. a;
        rising = λ a b l m n. m;
        stands = λ a e l m n. absurd (omega arith);
        covered = λ i d e. absurd (nowhere d e);
        sorted = λ s a b d e l m n. absurd (omega arith);
      }

  pub kept_moved : (xs : List (Entry P)) (front back from : ℕ) (h : History P) → from ≤ h.position → Kept p meaning xs front back h → Kept p meaning xs front back (moved h from)
  kept_moved xs front back from h l k =
      record {
        ordered = k.ordered;
        inside = k.inside;
        few = k.few;
        ahead = λ i d e. let a = k.ahead i d e in omega arith;
        nearing = k.nearing;
        index = k.index;
        rising = k.rising;
        stands = k.stands;
        covered =
            λ i d e.
            elim (k.covered i d e) [
              | inl g ↦ inl (omega arith)
              | inr c ↦
                  inr
                  record {
                    spot = c.spot;
                    cover = c.cover;
                    from_front = c.from_front;
                    to_back = c.to_back;
                    stands = c.stands;
                    later = c.later;
                    cheap = λ s f m. c.cheap s f (omega arith);
                  }
            ];
        sorted = λ s a b d e l₁ l₂ l₃ n₁ n₂ f m. k.sorted s a b d e l₁ l₂ l₃ n₁ n₂ f (omega arith);
      }

  -- the entry at the front leaves: whatever it covered is past the limit, or covered by another
  module _ (xs : List (Entry P)) (front back : ℕ) (h : History P) (k : Kept p meaning xs front back h) (l : front < back) (f : Entry P) (n : slice_get xs front ≡ Some f) where
    front_left :
        ((i : ℕ) (d : Entry P) → slice_get h.puts i ≡ Some d → i ≤ k.index front → (Shallow p meaning h → StaysNoDearer p meaning h.position f d) → Gone h d ⊎ Covered p meaning xs (front + 1) back k.index h i d) →
        Kept p meaning xs (front + 1) back h
    front_left re =
        record {
          ordered = omega arith;
          inside = k.inside;
          few = k.few;
          ahead = k.ahead;
          nearing = k.nearing;
          index = k.index;
          rising = λ a b l₁. k.rising a b (omega arith);
          stands = λ a e l₁. k.stands a e (omega arith);
          covered =
              λ i d e.
              elim (k.covered i d e) [
                | inl g ↦ inl g
                | inr c ↦
                    elim (cases_lt front c.spot) [
                      | inl m ↦
                          inr
                          record {
                            spot = c.spot;
                            cover = c.cover;
                            from_front = omega arith;
                            to_back = c.to_back;
                            stands = c.stands;
                            later = c.later;
                            cheap = c.cheap;
                          }
                      | inr m ↦
                          let same : c.spot ≡ front = omega (arith, c.from_front) in
                          let is : c.cover ≡ f = cc in
                          re i d e (subst (λ a. i ≤ k.index a) same c.later) (λ s. subst (λ x. StaysNoDearer p meaning h.position x d) is (c.cheap s))
                    ]
              ];
          sorted = λ s a b d e l₁. k.sorted s a b d e (omega arith);
        }

    -- since it is past the limit
    pub kept_gone : (gap h.position f ≤ h.limit → ⊥) → Kept p meaning xs (front + 1) back h
    kept_gone far =
        let gone : Gone h f = elim (cases_lt (h.position + h.limit + 1) f.position) [ inl g ↦ g | inr near ↦ absurd (far (omega arith)) ] in
        front_left (λ i d e m _. let near = k.nearing i (k.index front) d f m e (k.stands front f (omega arith) l n) in inl (omega arith))

    -- since the next is no dearer
    pub kept_tied : Lawful p → (e : Entry P) → front + 1 < back → slice_get xs (front + 1) ≡ Some e → Judged p meaning h.position e f true → Kept p meaning xs (front + 1) back h
    kept_tied laws e l₁ m judged =
        let at_f = k.stands front f (omega arith) l n in
        let at-e = k.stands (front + 1) e (omega arith) l₁ m in
        front_left
        (λ i d at-d before cheap.
        inr
        record {
          spot = front + 1;
          cover = e;
          from_front = omega arith;
          to_back = l₁;
          stands = m;
          later = let r = k.rising front (front + 1) (omega arith) (omega arith) l₁ in omega arith;
          cheap =
              λ s from le ge gd.
              let near = k.nearing i (k.index front) d f before at-d at_f in
              no_dearer_trans p meaning laws from e f d (s (k.index (front + 1)) e at-e) (s (k.index front) f at_f) (s i d at-d) ge (omega arith) gd
              (stays p meaning laws h.position e f (s (k.index (front + 1)) e at-e) (s (k.index front) f at_f) (k.ahead (k.index (front + 1)) e at-e) (k.ahead (k.index front) f at_f)
              (λ ge' gf'. subst T (judged (s (k.index (front + 1)) e at-e) (s (k.index front) f at_f) ge' gf') tt)
              from le ge (omega arith))
              (cheap s from le (omega arith) gd);
        })

  -- and so do those that stand before a place, one after the other
  pub kept_passed :
      (laws : Lawful p) (xs : List (Entry P)) (front back : ℕ) (h : History P) → Kept p meaning xs front back h → (n : ℕ) → front + n ≤ back →
      ((a : ℕ) (f : Entry P) → a < n → slice_get xs (front + a) ≡ Some f → (h.limit < gap h.position f) ⊎ ((e : Entry P) × (front + a + 1 < back) × (slice_get xs (front + a + 1) ≡ Some e) × Judged p meaning h.position e f true)) →
      Kept p meaning xs (front + n) back h
  kept_passed laws xs front back h k zero l over = subst (λ a. Kept p meaning xs a back h) (omega arith) k
  kept_passed laws xs front back h k (suc n) l over =
      let before = kept_passed laws xs front back h k n (omega arith) (λ a f m. over a f (omega arith)) in
      let here = found xs (front + n) (let i = k.inside in omega arith) in
      subst (λ a. Kept p meaning xs a back h) (omega arith)
      (elim (over n here.0 (omega arith) here.1) [
        | inl far ↦ kept_gone xs (front + n) back h before (omega arith) here.0 here.1 (λ near. omega arith)
        | inr e ↦ kept_tied xs (front + n) back h before (omega arith) here.0 here.1 laws e.0 e.1 e.2 e.3
      ])

  shallow_before : (h : History P) (from : ℕ) (e : Entry P) → Shallow p meaning (put_in h from e) → Shallow p meaning h
  shallow_before h from e s i d n = s i d (pushed_before h.puts e i d n)

  -- an entry is put in, and those leave at the back that are no cheaper than it
  module _ (laws : Lawful p) (xs : List (Entry P)) (front back place : ℕ) (h : History P) (from : ℕ) (e : Entry P) (k : Kept p meaning xs front back (moved h from)) (fits : Accepts h from e) (low : front ≤ place) (high : place ≤ back) (room : place < length xs) (dropped : (a : ℕ) (d : Entry P) → place ≤ a → a < back → slice_get xs a ≡ Some d → Judged p meaning from e d true) (stopped : (d : Entry P) → front < place → slice_get xs (place - 1) ≡ Some d → Judged p meaning from e d false) where
    abbrev puts' : List (Entry P)
    puts' = h.puts ++ e ∷ []

    abbrev xs' : List (Entry P)
    xs' = set xs place e

    abbrev index' : ℕ → ℕ
    index' a = if nat_lt a place then k.index a else length h.puts

    index_before : (a : ℕ) → a < place → index' a ≡ k.index a
    index_before a l = grind (arith, nat_tests)

    index_here : index' place ≡ length h.puts
    index_here = grind (arith, nat_tests)

    spot_before : (a : ℕ) (d : Entry P) → a < place → slice_get xs' a ≡ Some d → slice_get xs a ≡ Some d
    spot_before a d l n = sym (written_elsewhere xs place a e (λ q. absurd (omega arith))) ∙ n

    spot_kept : (a : ℕ) (d : Entry P) → a < place → slice_get xs a ≡ Some d → slice_get xs' a ≡ Some d
    spot_kept a d l n = written_elsewhere xs place a e (λ q. absurd (omega arith)) ∙ n

    spot_here : (d : Entry P) → slice_get xs' place ≡ Some d → e ≡ d
    spot_here d n = let w = written_here xs place e room in cc

    light_new : Shallow p meaning (put_in h from e) → p.depth (meaning e.price) ≤ 62
    light_new s = s (length h.puts) e (pushed_last h.puts e)

    -- a put entry that lay before stays no dearer than another, or the other way round
    stays_put : Shallow p meaning (put_in h from e) → (i : ℕ) (d : Entry P) → slice_get h.puts i ≡ Some d → (gap from e ≤ 4094 → gap from d ≤ 4094 → NoDearer p meaning from e d) → StaysNoDearer p meaning from e d
    stays_put s i d n = stays p meaning laws from e d (light_new s) (shallow_before h from e s i d n) fits.ahead (k.ahead i d n)

    stays_before : Shallow p meaning (put_in h from e) → (i : ℕ) (d : Entry P) → slice_get h.puts i ≡ Some d → (gap from d ≤ 4094 → gap from e ≤ 4094 → NoDearer p meaning from d e) → StaysNoDearer p meaning from d e
    stays_before s i d n = stays p meaning laws from d e (shallow_before h from e s i d n) (light_new s) (k.ahead i d n) fits.ahead

    covered_again : (i : ℕ) (d : Entry P) → slice_get h.puts i ≡ Some d → Covered p meaning xs front back k.index (moved h from) i d → Covered p meaning xs' front (place + 1) index' (put_in h from e) i d
    covered_again i d n c =
        elim (cases_lt c.spot place) [
          | inl l ↦
              record {
                spot = c.spot;
                cover = c.cover;
                from_front = c.from_front;
                to_back = omega arith;
                stands = spot_kept c.spot c.cover l c.stands;
                later = let x = index_before c.spot l in omega (arith, c.later);
                cheap = λ s. c.cheap (shallow_before h from e s);
              }
          | inr l ↦
              let at_c = k.stands c.spot c.cover c.from_front c.to_back c.stands in
              let near = k.nearing i (k.index c.spot) d c.cover c.later n at_c in
              record {
                spot = place;
                cover = e;
                from_front = low;
                to_back = omega arith;
                stands = written_here xs place e room;
                later = let x = slice_get_within h.puts i d n in omega (arith, index_here);
                cheap =
                    λ s f le ge gd.
                    let light = shallow_before h from e s in
                    let light-c = light (k.index c.spot) c.cover at_c in
                    no_dearer_trans p meaning laws f e c.cover d (light_new s) light-c (light i d n) ge (omega arith) gd
                    (stays_put s (k.index c.spot) c.cover at_c (λ ge' gc'. subst T (dropped c.spot c.cover l c.to_back c.stands (light_new s) light-c ge' gc') tt) f le ge (omega arith))
                    (c.cheap light f le (omega arith) gd);
              }
        ]

    covered_new : Covered p meaning xs' front (place + 1) index' (put_in h from e) (length h.puts) e
    covered_new =
        record {
          spot = place;
          cover = e;
          from_front = low;
          to_back = omega arith;
          stands = written_here xs place e room;
          later = omega (arith, index_here);
          cheap = λ s f le ge gd. no_dearer_self p meaning laws f e (light_new s) gd;
        }

    -- the last one that stays is cheaper than the new one, and so are all before it
    sorted_new : Shallow p meaning (put_in h from e) → (a : ℕ) (d : Entry P) → front ≤ a → a < place → slice_get xs a ≡ Some d → StaysNoDearer p meaning from d e
    sorted_new s a d l m n =
        let top = found xs (place - 1) (omega arith) in
        let x = top.0 in
        let light = shallow_before h from e s in
        let at_x = k.stands (place - 1) x (omega arith) (omega arith) top.1 in
        let at-d = k.stands a d l (omega arith) n in
        let cheaper : StaysNoDearer p meaning from x e =
        stays_before s (k.index (place - 1)) x at_x
        (λ gx ge.
        elim (no_dearer_total p meaning laws from x e (light (k.index (place - 1)) x at_x) (light_new s) gx ge) [
          | inl t ↦ t
          | inr t ↦ absurd (subst T (sym (stopped x (omega arith) top.1 (light_new s) (light (k.index (place - 1)) x at_x) ge gx)) t)
        ]) in
        elim (cases_lt a (place - 1)) [
          | inl b ↦
              (λ f le gd ge.
              let near = k.nearing (k.index a) (k.index (place - 1)) d x (let r = k.rising a (place - 1) l b (omega arith) in omega arith) at-d at_x in
              no_dearer_trans p meaning laws f d x e (light (k.index a) d at-d) (light (k.index (place - 1)) x at_x) (light_new s) gd (omega arith) ge
              (k.sorted light a (place - 1) d x l b (omega arith) n top.1 f le gd (omega arith))
              (cheaper f le (omega arith) ge))
          | inr b ↦ let same : a ≡ place - 1 = omega arith in let at_top = top.1 in let is : x ≡ d = cc in subst (λ y. StaysNoDearer p meaning from y e) is cheaper
        ]

    pub kept_put : Kept p meaning xs' front (place + 1) (put_in h from e)
    kept_put =
        record {
          ordered = omega arith;
          inside = simp length-set (omega arith);
          few = simp length_push (omega (arith, k.few));
          ahead = λ i d n. elim (pushed_cases h.puts e i d n) [ inl m ↦ k.ahead i d m | inr m ↦ subst (λ x. from < x.position) m.1 fits.ahead ];
          nearing =
              λ i j d d' l n n'.
              elim (pushed_cases h.puts e j d' n') [
                | inl m' ↦
                    elim (pushed_cases h.puts e i d n) [
                      | inl m ↦ k.nearing i j d d' l m m'
                      | inr m ↦ let b = slice_get_within h.puts j d' m' in absurd (omega (arith, m.0))
                    ]
                | inr m' ↦
                    elim (pushed_cases h.puts e i d n) [
                      | inl m ↦ subst (λ x. x.position ≤ d.position) m'.1 (fits.nearest i d m)
                      | inr m ↦ let q : d' ≡ d = cc in subst (λ x. x.position ≤ d.position) (sym q) (omega arith)
                    ]
              ];
          index = index';
          rising =
              λ a b l m n.
              elim (cases_lt b place) [
                | inl q ↦ let x = index_before a (omega arith) in let y = index_before b q in let z = k.rising a b l m (omega arith) in omega arith
                | inr q ↦
                    let x = index_before a (omega arith) in
                    let same : b ≡ place = omega arith in
                    let y : index' b ≡ length h.puts = subst (λ v. index' v ≡ length h.puts) (sym same) index_here in
                    let o = found xs a (omega arith) in
                    let z = slice_get_within h.puts (k.index a) o.0 (k.stands a o.0 l (omega arith) o.1) in
                    omega arith
              ];
          stands =
              λ a d l m n.
              elim (cases_lt a place) [
                | inl q ↦ subst (λ v. slice_get puts' v ≡ Some d) (sym (index_before a q)) (pushed_before h.puts e (k.index a) d (k.stands a d l (omega arith) (spot_before a d q n)))
                | inr q ↦
                    let same : a ≡ place = omega arith in
                    let y : index' a ≡ length h.puts = subst (λ v. index' v ≡ length h.puts) (sym same) index_here in
                    let is : e ≡ d = spot_here d (subst (λ v. slice_get xs' v ≡ Some d) same n) in
                    subst (λ v. slice_get puts' v ≡ Some d) (sym y) (subst (λ x. slice_get puts' (length h.puts) ≡ Some x) is (pushed_last h.puts e))
              ];
          covered =
              λ i d n.
              elim (pushed_cases h.puts e i d n) [
                | inl m ↦ elim (k.covered i d m) [ inl g ↦ inl g | inr c ↦ inr (covered_again i d m c) ]
                | inr m ↦ inr (subst (λ v. Covered p meaning xs' front (place + 1) index' (put_in h from e) v d) (sym m.0) (subst (λ x. Covered p meaning xs' front (place + 1) index' (put_in h from e) (length h.puts) x) m.1 covered_new))
              ];
          sorted =
              λ s a b d d' l m n at_a at_b.
              elim (cases_lt b place) [
                | inl q ↦ k.sorted (shallow_before h from e s) a b d d' l m (omega arith) (spot_before a d (omega arith) at_a) (spot_before b d' q at_b)
                | inr q ↦
                    let same : b ≡ place = omega arith in
                    let is : e ≡ d' = spot_here d' (subst (λ v. slice_get xs' v ≡ Some d') same at_b) in
                    subst (λ x. StaysNoDearer p meaning from d x) is (sorted_new s a d l (omega arith) (spot_before a d (omega arith) at_a))
              ];
        }

  -- what stands at the front is to be told, once it is within the limit and the next is dearer
  pub told_none : (xs : List (Entry P)) (front back : ℕ) (h : History P) → Kept p meaning xs front back h → back ≤ front → Told p meaning h None
  told_none xs front back h k l i d n w = elim (k.covered i d n) [ inl g ↦ absurd (omega arith) | inr c ↦ absurd (omega (arith, c.from_front, c.to_back)) ]

  module _ (laws : Lawful p) (xs : List (Entry P)) (front back : ℕ) (h : History P) (k : Kept p meaning xs front back h) (l : front < back) (e : Entry P) (at_front : slice_get xs front ≡ Some e) (seen : gap h.position e ≤ h.limit) (dearer : (d : Entry P) → front + 1 < back → slice_get xs (front + 1) ≡ Some d → Judged p meaning h.position d e false) where
    e_put : slice_get h.puts (k.index front) ≡ Some e
    e_put = k.stands front e (omega arith) l at_front

    e_within : Within h e
    e_within = (k.ahead (k.index front) e e_put, seen)

    -- the front is no dearer than what is kept behind it
    front_first : Bounded p meaning h → (a : ℕ) (x : Entry P) → front < a → a < back → slice_get xs a ≡ Some x → gap h.position x ≤ 4094 → NoDearer p meaning h.position e x
    front_first b a x l₁ l₂ n g = k.sorted b.shallow front a e x (omega arith) l₁ l₂ at_front n h.position (omega arith) (b.near (k.index front) e e_put e_within) g

    -- and all of that is dearer
    behind_dearer : Bounded p meaning h → (a : ℕ) (x : Entry P) → front < a → a < back → slice_get xs a ≡ Some x → gap h.position x ≤ 4094 → NoDearer p meaning h.position x e → ⊥
    behind_dearer b a x l₁ l₂ n g t =
        let next = found xs (front + 1) (let i = k.inside in omega arith) in
        let y = next.0 in
        let at_next = next.1 in
        let y-put = k.stands (front + 1) y (omega arith) (omega arith) at_next in
        let x-put = k.stands a x (omega arith) l₂ n in
        let ge = b.near (k.index front) e e_put e_within in
        let near = k.nearing (k.index front) (k.index (front + 1)) e y (let r = k.rising front (front + 1) (omega arith) (omega arith) (omega arith) in omega arith) e_put y-put in
        let refused = dearer y (omega arith) at_next (b.shallow (k.index (front + 1)) y y-put) (b.shallow (k.index front) e e_put) (omega arith) ge in
        let cheap : NoDearer p meaning h.position y e =
        elim (cases_lt (front + 1) a) [
          | inl m ↦
              no_dearer_trans p meaning laws h.position y x e (b.shallow (k.index (front + 1)) y y-put) (b.shallow (k.index a) x x-put) (b.shallow (k.index front) e e_put) (omega arith) g ge
              (k.sorted b.shallow (front + 1) a y x (omega arith) m l₂ at_next n h.position (omega arith) (omega arith) g)
              t
          | inr m ↦ let same : a ≡ front + 1 = omega arith in let is : x ≡ y = cc in subst (λ z. NoDearer p meaning h.position z e) is t
        ] in
        absurd (subst T (sym refused) cheap)

    module _ (b : Bounded p meaning h) (i : ℕ) (d : Entry P) (n : slice_get h.puts i ≡ Some d) (w : Within h d) (c : Covered p meaning xs front back k.index h i d) where
      c_put : slice_get h.puts (k.index c.spot) ≡ Some c.cover
      c_put = k.stands c.spot c.cover c.from_front c.to_back c.stands

      gap_d : gap h.position d ≤ 4094
      gap_d = b.near i d n w

      gap_c : gap h.position c.cover ≤ 4094
      gap_c = let near = k.nearing i (k.index c.spot) d c.cover c.later n c_put in let g = gap_d in omega arith

      covers : NoDearer p meaning h.position c.cover d
      covers = c.cheap b.shallow h.position (omega arith) gap_c gap_d

      no_cheaper : NoDearer p meaning h.position e d
      no_cheaper =
          elim (cases_lt front c.spot) [
            | inl m ↦
                no_dearer_trans p meaning laws h.position e c.cover d (b.shallow (k.index front) e e_put) (b.shallow (k.index c.spot) c.cover c_put) (b.shallow i d n) (b.near (k.index front) e e_put e_within) gap_c gap_d
                (front_first b c.spot c.cover m c.to_back c.stands gap_c)
                covers
            | inr m ↦ let same : c.spot ≡ front = omega (arith, c.from_front) in let is : c.cover ≡ e = cc in subst (λ z. NoDearer p meaning h.position z d) is covers
          ]

      later_dearer : k.index front < i → NoDearer p meaning h.position d e → ⊥
      later_dearer m t =
          elim (cases_lt front c.spot) [
            | inl q ↦
                behind_dearer b c.spot c.cover q c.to_back c.stands gap_c
                (no_dearer_trans p meaning laws h.position c.cover d e (b.shallow (k.index c.spot) c.cover c_put) (b.shallow i d n) (b.shallow (k.index front) e e_put) gap_c gap_d (b.near (k.index front) e e_put e_within) covers t)
            | inr q ↦ let same : c.spot ≡ front = omega (arith, c.from_front) in let x : i ≤ k.index front = subst (λ a. i ≤ k.index a) same c.later in absurd (omega arith)
          ]

    pub told_front : Least p meaning h e
    told_front =
        record {
          index = k.index front;
          stands = e_put;
          within = e_within;
          least = λ b i d n w. elim (k.covered i d n) [ inl g ↦ absurd (omega arith) | inr c ↦ no_cheaper b i d n w c ];
          latest = λ b i d n w m t. elim (k.covered i d n) [ inl g ↦ absurd (omega arith) | inr c ↦ later_dearer b i d n w c m t ];
        }

  -- the front is told if there is one
  pub told_first :
      (laws : Lawful p) (xs : List (Entry P)) (front back : ℕ) (h : History P) → Kept p meaning xs front back h → (told : Option (Entry P)) →
      (told ≡ None → back ≤ front) →
      ((e : Entry P) → told ≡ Some e → (front < back) × (slice_get xs front ≡ Some e) × (gap h.position e ≤ h.limit)) →
      ((e d : Entry P) → slice_get xs front ≡ Some e → front + 1 < back → slice_get xs (front + 1) ≡ Some d → Judged p meaning h.position d e false) →
      Told p meaning h told
  told_first laws xs front back h k None none some dearer = told_none xs front back h k (none refl)
  told_first laws xs front back h k (Some e) none some dearer = let s = some e refl in told_front laws xs front back h k s.0 e s.1 s.2 (λ d. dearer e d s.1)
