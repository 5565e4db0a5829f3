-- The rests under one candidate, and those under all of them.
use Rattle.std.proofs.Common.{◌≡◌, ℕ, zero, suc, ◌+◌, ◌*◌, ◌<◌, ◌≤◌, true, cond, T, eqb, List, [], ◌∷◌, length, get_or, ℤ, pos, Some, None, sum_by, count_by, Option, sym, refl, ap, ◌∙◌, subst, inl, inr, arith}
use Rattle.std.specs.Option.{option_map}
use Rattle.std.proofs.lemmas.List.Sums.{sum_by-cons, get_or-le-sum_by}
use Rattle.std.proofs.lemmas.Bool.{cases_lt, cases_eq, eq-eqb, cond-true}
use Rattle.notation.specs.Kind.{Kind, rest, Lawful}
use Rattle.notation.specs.declared.mode.Mode.{Mode}
use Rattle.notation.specs.declared.mode.Mode.TheVariants.{Untransposed, AnyTransposition}
use Rattle.price.specs.Pricing.{Pricing, Lawful as PriceLaws}
use Rattle.splitting.specs.Score.{Question, Admits, Matches, symbol, note}
use Rattle.splitting.specs.Rest.{Rest, ends, goes_on, handed_over, Begins, begins, Least}
use Rattle.splitting.specs.Laws.{Covered}
use Rattle.splitting.specs.declared.Place.{Place}
use Rattle.splitting.proofs.Depths.{rest_matches, depth_63}
use Rattle.splitting.proofs.Kept.{one_symbol}
use Rattle.search.specs.Columns.{columns_of}
use Rattle.search.specs.Workspace.{admits, matching, triples, candidate_size, workspace}
use Rattle.search.specs.Resting.{Posed, Wanted, RowsRight, offset_of, row_of}
use Rattle.search.specs.Rows.{column_of, track_of, value}
use Rattle.search.specs.Topmost.{BestRest, BestUnder}
use Rattle.search.specs.Candidates.{Asked, Candidate, CandidateTo, Leads, Stands, BestAmong, Among, BestOfAll, OfAll, Settled}
use Rattle.search.specs.declared.topping.Best.{Best}
use Rattle.search.specs.declared.candidates.Choice.{Choice}
use Rattle.search.proofs.Columns.{symbol_at, symbol_past_columns, symbol_past_tracks}
use Rattle.search.proofs.Concluding.{known_at}
use Rattle.search.proofs.Counts.{matching_byte, counted_le}
use Rattle.search.proofs.Intervals.{decides_interval}
use Rattle.search.proofs.Spotting.{place_size, entry_place}

-- the test on a transposition, and what it says
pub admitted : (mode : Mode) (c : ℤ) → admits mode c ≡ true → Admits mode c
admitted Untransposed c e = (decides_interval c (pos 0)).0 e
admitted AnyTransposition c e = tt

pub tested : (mode : Mode) (c : ℤ) → Admits mode c → admits mode c ≡ true
tested Untransposed c h = (decides_interval c (pos 0)).1 h
tested AnyTransposition c h = refl

-- a rest from note i on gives a match of every later note
pub later_match : {m : Pricing} {ask : Question} {c : ℤ} {i j t : ℕ} {a : m.Meaning} → Rest m ask c i j t a → (k : ℕ) → i ≤ k → k ≤ length ask.query → (j' t' : ℕ) × Matches ask c k j' t'
later_match {m} {ask} {c} (ends {i} {j} {t} e h) k l u = let f : i ≡ k = omega arith in (j, t, subst (λ z. Matches ask c z j t) f h)
later_match {m} {ask} {c} (goes_on {i} {j} {t} {a} h r) k l u =
    elim (cases_eq i k) [
      | inl f ↦ (j, t, subst (λ z. Matches ask c z j t) f h)
      | inr ne ↦ let more : suc i ≤ k = omega arith in later_match r k more u
    ]
later_match {m} {ask} {c} (handed_over {i} {j} {t} {a} j' t' h d g r) k l u =
    elim (cases_eq i k) [
      | inl f ↦ (j, t, subst (λ z. Matches ask c z j t) f h)
      | inr ne ↦ let more : suc i ≤ k = omega arith in later_match r k more u
    ]

-- a byte at a place is counted
counted_at : (bytes : List ℕ) (q b : ℕ) → q < length bytes → get_or bytes q rest ≡ b → 0 < count_by (eqb b) bytes
counted_at bytes q b l e =
    let one : ◌≡◌ {A = ℕ} (cond {A = ℕ} (eqb b (get_or bytes q rest)) 1 0) 1 = cond-true {A = ℕ} (eqb b (get_or bytes q rest)) 1 0 (eq-eqb b (get_or bytes q rest) (sym e)) in
    omega (arith, get_or-le-sum_by (λ x. cond {A = ℕ} (eqb b x) 1 0) bytes q rest l)

-- equal sums over two lists
same_sum : (f g : ℕ → ℕ) (xs ys : List ℕ) → length xs ≡ length ys → ((k : ℕ) → k < length xs → f (get_or xs k 0) ≡ g (get_or ys k rest)) → sum_by f xs ≡ sum_by g ys
same_sum f g [] [] e h = refl
same_sum f g [] (y ∷ ys) e h = absurd (omega arith)
same_sum f g (x ∷ xs) [] e h = absurd (omega arith)
same_sum f g (x ∷ xs) (y ∷ ys) e h =
    let first : f x ≡ g y = h 0 (omega arith) in
    let more = same_sum f g xs ys (omega arith) (λ k l. h (suc k) (omega arith)) in
    omega (arith, sum_by-cons f x xs, sum_by-cons g y ys)

-- what the notes want under a candidate has room in the workspace
module _ (k : Kind) (laws : Lawful k) (mode : Mode) (bytes query want : List ℕ) (b : ℕ) (by : ℤ) (as_long : length want ≡ length query) (candidate : Candidate k mode bytes (note query 1) b by) where
  pub room : ((i : ℕ) → i < length query → k.interval (get_or query i rest) (get_or want i 0) ≡ Some by) → sum_by (λ d. count_by (eqb d) bytes) want ≤ workspace k mode bytes query
  unfolding workspace
  room each =
      let sum = same_sum (λ d. count_by (eqb d) bytes) (matching k by bytes) want query as_long (λ i l. sym (matching_byte k laws by (get_or query i rest) (get_or want i 0) (each i (omega arith)) bytes)) in
      let size : ℕ → ℕ = λ d. candidate_size k mode bytes query (k.interval (note query 1) d) in
      let le = counted_le size b bytes candidate.held in
      let is : size b ≡ triples k by bytes query = ap (candidate_size k mode bytes query) candidate.leads ∙ cond-true (admits mode by) (triples k by bytes query) 0 (tested mode by candidate.admitted) in
      omega arith

module _ (ask : Question) (bytes : List ℕ) (tracks : ℕ) (one : 1 ≤ tracks) (posed : Posed ask bytes tracks) where
  laws : Lawful ask.kind
  laws = posed.covered.kind_laws

  -- a byte of the score that is no rest is counted
  there : (j t b : ℕ) → symbol ask.score j t ≡ b → (b ≡ rest → ⊥) → 0 < count_by (eqb b) bytes
  there zero t b e ne = absurd (ne (sym e))
  there (suc j) zero b e ne = absurd (ne (sym e))
  there (suc j) (suc t) b e ne =
      elim (cases_lt j posed.columns) [
        | inl l ↦
            elim (cases_lt t tracks) [
              | inl k ↦ counted_at bytes (j * tracks + t) b (place_size ask bytes tracks one posed j t l k) (sym (symbol_at tracks posed.columns bytes j t l k) ∙ sym at ∙ e)
              | inr k ↦ absurd (ne (sym e ∙ at ∙ symbol_past_tracks tracks posed.columns bytes j t l k))
            ]
        | inr l ↦ absurd (ne (sym e ∙ at ∙ symbol_past_columns tracks posed.columns bytes j t l))
      ]
    where
      at : symbol ask.score (suc j) (suc t) ≡ symbol (columns_of tracks posed.columns bytes) (suc j) (suc t)
      at = λ z. symbol (posed.score_is z) (suc j) (suc t)

  -- the byte of a sounding symbol
  sounds : (a b : ℕ) (c : ℤ) → ask.kind.interval a b ≡ Some c → b < rest
  sounds a b c e = laws.sounding b (laws.present a b c e).1

  pub held : {m : Pricing} (c : ℤ) (j t : ℕ) (a : m.Meaning) (b : ℕ) → Rest m ask c 1 j t a → ask.kind.interval (note ask.query 1) b ≡ Some c → 0 < count_by (eqb b) bytes
  held {m} c j t a b r e =
      there j t b (one_symbol ask.kind laws (note ask.query 1) (symbol ask.score j t) b c (rest_matches r) e) (λ z. let l = sounds (note ask.query 1) b c e in omega arith)

  -- a rest of the whole query is one under a transposition to some byte
  led : {m : Pricing} (c : ℤ) (j t : ℕ) (a : m.Meaning) → Rest m ask c 1 j t a → Leads ask 0 256 c
  led c j t a r =
      let e = rest_matches r in
      let l = sounds (note ask.query 1) (symbol ask.score j t) c e in
      record { byte = symbol ask.score j t; from = omega arith; below = omega arith; at = e }

  module _ {P : Type 0} (m : Pricing) (meaning : P → m.Meaning) where
    pub of_all : (o : Option (Choice P)) → Among m meaning ask tracks 0 256 o → OfAll m meaning ask tracks o
    of_all None h = λ x a. elim [ begins c admits r ↦ h c x a (led c x.column x.track a r) admits r ]
    of_all (Some o) h =
        record {
          stands = h.stands;
          least = λ x a. elim [ begins c admits r ↦ h.least c x a (led c x.column x.track a r) admits r ];
          earliest = λ x a. elim [ begins c admits r ↦ h.earliest c x a (led c x.column x.track a r) admits r ];
        }

-- what is told of one candidate, the one that leads to the byte b
module _ (bytes query : List ℕ) (kind : Kind) (mode : Mode) (limit tracks b : ℕ) (one : 1 ≤ tracks) {P : Type 0} (m : Pricing) (meaning : P → m.Meaning) (ask : Question) (asked : Asked ask bytes tracks kind mode limit query) where
  intervals : (i x : ℕ) → ask.kind.interval (note ask.query i) x ≡ kind.interval (note query i) x
  intervals i x = λ z. (asked.kind_is z).interval (note (asked.query_is z) i) x

  led_at : (c : ℤ) → Leads ask b (b + 1) c → ask.kind.interval (note ask.query 1) b ≡ Some c
  led_at c l = let e : l.byte ≡ b = omega (arith, l.from, l.below) in subst (λ z. ask.kind.interval (note ask.query 1) z ≡ Some c) e l.at

  pub no_candidate : CandidateTo kind mode bytes (note query 1) b None → Among m meaning ask tracks b (b + 1) None
  no_candidate none =
      λ c x a l admits r.
      none c
      (record {
        leads = sym (intervals 1 b) ∙ led_at c l;
        admitted = subst (λ z. Admits z c) asked.mode_is admits;
        held = held ask bytes tracks one asked.posed c x.column x.track a b r (led_at c l);
      })

  module _ (by : ℤ) (candidate : Candidate kind mode bytes (note query 1) b by) where
    same_shift : (c : ℤ) → Leads ask b (b + 1) c → c ≡ by
    same_shift c l = let e = led_at c l in let f = intervals 1 b ∙ candidate.leads in cc

    -- some note matches nowhere
    pub unmatched : (k : ℕ) → k < length query → ((d : ℕ) → kind.interval (get_or query k rest) d ≡ Some by → ⊥) → Among m meaning ask tracks b (b + 1) None
    unmatched k l never =
        λ c x a led admits r.
        let f = later_match r (suc k) (omega arith) (omega (arith, ap length asked.query_is)) in
        never (symbol ask.score f.0 f.1) (sym (intervals (suc k) (symbol ask.score f.0 f.1)) ∙ f.2 ∙ ap Some (same_shift c led))

    pub wanted : (want : List ℕ) → length want ≡ length query → ((k : ℕ) → k < length query → kind.interval (get_or query k rest) (get_or want k 0) ≡ Some by) → Wanted ask by want
    wanted want e each = record { as_long = e ∙ sym (ap length asked.query_is); each = λ k l. intervals (suc k) (get_or want k 0) ∙ each k (omega arith) }

    -- some note wants a byte that the score does not hold
    pub unheld : (want : List ℕ) → length want ≡ length query → ((k : ℕ) → k < length query → kind.interval (get_or query k rest) (get_or want k 0) ≡ Some by) → (k : ℕ) → k < length want → count_by (eqb (get_or want k 0)) bytes ≡ 0 → Among m meaning ask tracks b (b + 1) None
    unheld want as_long each k l none =
        λ c x a led admits r.
        let f = later_match r (suc k) (omega arith) (omega (arith, ap length asked.query_is)) in
        let d = get_or want k 0 in
        let at : ask.kind.interval (note ask.query (suc k)) d ≡ Some c = intervals (suc k) d ∙ each k (omega arith) ∙ ap Some (sym (same_shift c led)) in
        let is = one_symbol ask.kind asked.posed.covered.kind_laws (note ask.query (suc k)) (symbol ask.score f.0 f.1) d c f.2 at in
        let sound = sounds ask bytes tracks one asked.posed (note ask.query (suc k)) d c at in
        let some = there ask bytes tracks one asked.posed f.0 f.1 d is (λ z. omega arith) in
        omega arith

    pub none_under : BestUnder m meaning ask by tracks None → Among m meaning ask tracks b (b + 1) None
    none_under none = λ c x a led admits r. none x a (subst (λ z. Rest m ask z 1 x.column x.track a) (same_shift c led) r)

    pub some_under : (o : Best P) → BestRest m meaning ask by tracks o → BestAmong m meaning ask tracks b (b + 1) (record { price = o.price; place = o.place; shift = by })
    some_under o h =
        record {
          stands = record { admitted = subst (λ z. Admits z by) (sym asked.mode_is) candidate.admitted; rest_is = h.rest_is };
          least = λ c x a led admits r. h.least x a (subst (λ z. Rest m ask z 1 x.column x.track a) (same_shift c led) r);
          earliest = λ c x a led admits r. h.earliest x a (subst (λ z. Rest m ask z 1 x.column x.track a) (same_shift c led) r);
        }

-- The rows stand for the transposition of a choice, and the price at its place in the first row is that of a rest,
-- which costs no more.
pub record Refilled {P : Type 0} (m : Pricing) (meaning : P → m.Meaning) (ask : Question) (tracks : ℕ) (bytes : List ℕ) (limit : ℕ) (o : Choice P) (want : List ℕ) (prices : List (Option P)) (steps : List ℕ) (told : Option P) : Type 0 where
  pub price : P
  pub told_is : told ≡ Some price
  pub row_is : row_of bytes want prices 0 o.place ≡ Some price
  pub wanted : Wanted ask o.shift want
  pub rows : RowsRight m meaning bytes tracks limit want prices steps 0
  pub rest_is : Rest m ask o.shift 1 (column_of tracks o.place) (track_of tracks o.place) (meaning price)
  pub no_dearer : T (m.not_above (meaning price) (meaning o.price))

-- the rows under the transposition of a choice
module _ (bytes query : List ℕ) (kind : Kind) (mode : Mode) (limit tracks : ℕ) {P : Type 0} (m : Pricing) (laws-of : PriceLaws m) (meaning : P → m.Meaning) (ask : Question) (asked : Asked ask bytes tracks kind mode limit query) (o : Choice P) (stands : Stands m meaning ask tracks o) where
  heard : (i x : ℕ) → ask.kind.interval (note ask.query i) x ≡ kind.interval (note query i) x
  heard i x = λ z. (asked.kind_is z).interval (note (asked.query_is z) i) x

  -- every note has a transposed one
  pub all_matched : (k : ℕ) → k < length query → ((d : ℕ) → kind.interval (get_or query k rest) d ≡ Some o.shift → ⊥) → ⊥
  all_matched k l never =
      let f = later_match stands.rest_is (suc k) (omega arith) (omega (arith, ap length asked.query_is)) in
      never (symbol ask.score f.0 f.1) (sym (heard (suc k) (symbol ask.score f.0 f.1)) ∙ f.2)

  module _ (want : List ℕ) (as_long : length want ≡ length query) (each : (k : ℕ) → k < length query → kind.interval (get_or query k rest) (get_or want k 0) ≡ Some o.shift) where
    all_wanted : Wanted ask o.shift want
    all_wanted = record { as_long = as_long ∙ sym (ap length asked.query_is); each = λ k l. heard (suc k) (get_or want k 0) ∙ each k (omega arith) }

    pub refilled : 1 ≤ tracks → 1 ≤ length want → (prices : List (Option P)) (steps : List ℕ) → RowsRight m meaning bytes tracks limit want prices steps 0 → (told : Option P) → told ≡ row_of bytes want prices 0 o.place → Refilled m meaning ask tracks bytes limit o want prices steps told
    refilled one some prices steps rows told is = go told is (subst (Least m here) (ap (option_map meaning) (sym is)) least)
      where
        here : m.Meaning → Type 0
        here = Rest m ask o.shift 1 (column_of tracks o.place) (track_of tracks o.place)

        least : Least m here (option_map meaning (row_of bytes want prices 0 o.place))
        least =
            subst (Least m here) (entry_place ask bytes tracks one asked.posed m meaning (value bytes (get_or want 0 0) (offset_of bytes want 0) prices) o.place)
            (known_at ask bytes tracks one asked.posed m laws-of meaning o.shift (get_or want 0 0) (offset_of bytes want 0) prices (all_wanted.each 0 some) (rows ask o.shift asked.posed asked.limit_is all_wanted 0 (omega arith) some).least (column_of tracks o.place) (track_of tracks o.place))

        go : (x : Option P) → x ≡ row_of bytes want prices 0 o.place → Least m here (option_map meaning x) → Refilled m meaning ask tracks bytes limit o want prices steps x
        go None e h = absurd (h (meaning o.price) stands.rest_is)
        go (Some a) e h = record { price = a; told_is = refl; row_is = sym e; wanted = all_wanted; rows = rows; rest_is = h.0; no_dearer = h.1 (meaning o.price) stands.rest_is }

-- the best rest at the price that the row has for it
module _ (bytes : List ℕ) (limit tracks : ℕ) {P : Type 0} (m : Pricing) (laws-of : PriceLaws m) (meaning : P → m.Meaning) (ask : Question) (covered : Covered ask) (want : List ℕ) (prices : List (Option P)) (steps : List ℕ) (o : Choice P) (best : BestOfAll m meaning ask tracks o) where
  begun_deep : (x : Place) (a : m.Meaning) → Begins m ask x a → m.depth a ≤ 63
  begun_deep x a (begins c _ r) = depth_63 m laws-of ask covered c r

  pub settled : (told : Option P) (a : P) → told ≡ Some a → Refilled m meaning ask tracks bytes limit o want prices steps told → Settled m meaning ask tracks bytes limit want prices steps (record { price = a; place = o.place; shift = o.shift })
  settled told a e h =
      let same : h.price ≡ a = let f = h.told_is in cc in
      let x = meaning a in
      let y = meaning o.price in
      let r = subst (λ z. Rest m ask o.shift 1 (column_of tracks o.place) (track_of tracks o.place) (meaning z)) same h.rest_is in
      let low = subst (λ z. T (m.not_above (meaning z) y)) same h.no_dearer in
      let d = depth_63 m laws-of ask covered o.shift r in
      let d' = depth_63 m laws-of ask covered o.shift best.stands.rest_is in
      record {
        best =
            record {
              stands = record { admitted = best.stands.admitted; rest_is = r };
              least = λ z u b. laws-of.trans x y u d d' (begun_deep z u b) low (best.least z u b);
              earliest = λ z u b less. best.earliest z u b (laws-of.trans u x y (begun_deep z u b) d d' less low);
            };
        row_is = subst (λ z. row_of bytes want prices 0 o.place ≡ Some z) same h.row_is;
        wanted = h.wanted;
        rows = h.rows;
      }
