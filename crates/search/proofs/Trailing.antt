-- Pieces written by following the steps of the rows.
use Rattle.std.proofs.Common.{◌≡◌, ℕ, suc, ◌+◌, ◌*◌, ◌/◌, ◌%◌, ◌<◌, ◌≤◌, eqb, List, [], ◌∷◌, ◌++◌, length, get_or, drop, set, ℤ, Some, sum_by, count_by, Option, sym, refl, ap, ◌∙◌, subst, add-mul, arith, drop-cons}
use Rattle.std.specs.Option.{option_map}
use Rattle.std.proofs.lemmas.Nat.{div-mul-add, mod-mul-add, mod_below, div-add-mod'}
use Rattle.std.proofs.lemmas.List.{append_assoc, length-append, set_at}
use Rattle.notation.specs.Kind.{rest}
use Rattle.price.specs.Pricing.{Pricing}
use Rattle.splitting.specs.declared.Piece.{Piece}
use Rattle.splitting.specs.Score.{Question, Matches}
use Rattle.splitting.specs.Splitting.{gap, last}
use Rattle.splitting.specs.Rest.{Rest, Least}
use Rattle.splitting.specs.Answer.{beginning}
use Rattle.splitting.proofs.Depths.{rest_matches}
use Rattle.splitting.proofs.Rests.{matches_at}
use Rattle.search.specs.Tables.{Ranked}
use Rattle.search.specs.Rows.{column_of, track_of, going_on}
use Rattle.search.specs.Resting.{Leads, nowhere, on, over, step_at, offset_of, row_of}
use Rattle.search.specs.Topmost.{place_at}
use Rattle.search.specs.Trails.{Trail, Written}
use Rattle.search.proofs.Following.{sized_as, last_price, Begun, Lying, begun_none, lying_one, lying_more, begun_more, begun_ends}
use Rattle.search.proofs.Rowing.{offset_all}
use Rattle.search.proofs.Valuing.{value_some, rank_in}

-- a piece of one note, which lies at a place
abbrev pub lone_at : ℕ → ℕ → ℕ → Piece
lone_at tracks first q = record { first = first; len = 1; track = track_of tracks q; column = column_of tracks q }

-- the next column of the same track
pub next_column : (tracks q : ℕ) → 1 ≤ tracks → column_of tracks (q + tracks) ≡ column_of tracks q + 1
next_column tracks q one =
    let e : (q / tracks + 1) * tracks + q % tracks ≡ q + tracks = omega (arith, add-mul (q / tracks) 1 tracks, div-add-mod' q tracks) in
    omega (arith, ap (λ z. z / tracks) e, div-mul-add (q / tracks + 1) tracks (q % tracks) (mod_below q tracks one))

pub same_track : (tracks q : ℕ) → 1 ≤ tracks → track_of tracks (q + tracks) ≡ track_of tracks q
same_track tracks q one =
    let e : (q / tracks + 1) * tracks + q % tracks ≡ q + tracks = omega (arith, add-mul (q / tracks) 1 tracks, div-add-mod' q tracks) in
    omega (arith, ap (λ z. z % tracks) e, mod-mul-add (q / tracks + 1) tracks (q % tracks) (mod_below q tracks one))

-- where pieces begin does not depend on the last one's size, nor on one written behind them
begins_sized : (written : List Piece) (o : Piece) (n : ℕ) → beginning (written ++ sized_as o n ∷ []) ≡ beginning (written ++ o ∷ [])
begins_sized [] o n = refl
begins_sized (p ∷ ps) o n = refl

begins_more : (written : List Piece) (o q : Piece) → beginning ((written ++ o ∷ []) ++ q ∷ []) ≡ beginning (written ++ o ∷ [])
begins_more [] o q = refl
begins_more (p ∷ ps) o q = refl

-- one piece more in the front of a list
front_more : (written before list : List Piece) (o : Piece) (count : ℕ) → count ≡ length written → count < length before → list ≡ written ++ drop count before → set list count o ≡ (written ++ o ∷ []) ++ drop (count + 1) before
front_more written before list o count n l e =
    let more : drop count before ≡ get_or before count o ∷ drop (suc count) before = drop-cons before count o l in
    let one : suc count ≡ count + 1 = omega arith in
    ap (λ z. set z count o) (e ∙ ap (λ z. written ++ z) more)
    ∙ set_at written (get_or before count o) (drop (suc count) before) o count (sym n)
    ∙ ap (λ z. written ++ o ∷ drop z before) one
    ∙ sym (append_assoc written (o ∷ []) (drop (count + 1) before))

module _ {P : Type 0} (m : Pricing) (meaning : P → m.Meaning) (bytes : List ℕ) (tracks : ℕ) (ask : Question) (next : ℕ → Option P) (q : ℕ) where
  -- a step to the next column
  lead_on : (x : Option P) (s : ℕ) → Leads m meaning ask bytes tracks next q x s → (a : P) → x ≡ Some a → ((r : ℕ) (a' : P) → next r ≡ Some a' → r < going_on) → s ≡ going_on → next (q + tracks) ≡ Some a
  lead_on x s nowhere a e inside f = let z : ◌≡◌ {A = ℕ} 0 1 = cc in absurd (omega arith)
  lead_on x s (on h) a e inside f = h ∙ e
  lead_on x s (over {a' = a'} h l n p) a e inside f = let k = inside s a' h in absurd (omega arith)

  -- a step to a place that is handed over to
  lead_over : (x : Option P) (s : ℕ) → Leads m meaning ask bytes tracks next q x s → (a : P) → x ≡ Some a → (s ≡ going_on → ⊥) → (a' : P) × (next s ≡ Some a') × (q / tracks < s / tracks) × (gap ask.score (column_of tracks q) (column_of tracks s) ≤ ask.limit) × (meaning a ≡ m.charged (meaning a') (gap ask.score (column_of tracks q) (column_of tracks s)))
  lead_over x s nowhere a e ne = let z : ◌≡◌ {A = ℕ} 0 1 = cc in absurd (omega arith)
  lead_over x s (on h) a e ne = absurd (ne refl)
  lead_over x s (over {a = b} {a' = a'} h l n p) a e ne = let f : b ≡ a = cc in (a', h, l, n, sym (ap meaning f) ∙ p)

module _ {P : Type 0} (m : Pricing) (meaning : P → m.Meaning) (bytes : List ℕ) (tracks : ℕ) (want steps : List ℕ) (start : ℕ) (ask : Question) (c : ℤ) (prices : List (Option P)) (whole : P) where
  -- Some pieces are written, and another one is begun, with the note that lies at the place q for its last.
  pub record Following (k q count : ℕ) (o : Piece) (before list : List Piece) : Type 0 where
    pub price : P
    pub stands : row_of bytes want prices k q ≡ Some price
    pub written : List Piece
    pub count_is : count ≡ length written
    pub list_is : list ≡ written ++ drop count before
    pub begins : beginning (written ++ o ∷ []) ≡ place_at tracks start
    pub begun : Begun m ask c (meaning whole) written o (meaning price)
    pub lying : Lying m ask c (meaning whole) o
    pub note_is : o.first + o.len ≡ k + 2
    pub column_is : o.column + o.len ≡ column_of tracks q + 1
    pub track_is : o.track ≡ track_of tracks q

  module _ (one : 1 ≤ tracks) (few : length bytes ≤ 65536) (trail : Trail m meaning bytes tracks want steps start ask c prices whole) where
    -- the place of a price holds the byte wanted
    pub inside : (k q : ℕ) (a : P) → row_of bytes want prices k q ≡ Some a → (q < length bytes) × (get_or bytes q rest ≡ get_or want k 0)
    inside k q a e = let s = value_some bytes (get_or want k 0) (offset_of bytes want k) prices q a e in (s.0, s.1)

    rest_from : (k q : ℕ) (a : P) → k < length want → row_of bytes want prices k q ≡ Some a → Rest m ask c (suc k) (column_of tracks q) (track_of tracks q) (meaning a)
    rest_from k q a l e =
        let s = inside k q a e in
        (subst (λ x. Least m (Rest m ask c (suc k) (column_of tracks q) (track_of tracks q)) (option_map meaning x)) e ((trail.right k l).least q (omega arith) s.0 s.1)).0

    lies_at : (k q i j t : ℕ) (a : P) → k < length want → row_of bytes want prices k q ≡ Some a → i ≡ k + 1 → j ≡ column_of tracks q → t ≡ track_of tracks q → Matches ask c i j t
    lies_at k q i j t a l e p r s = matches_at ask c (suc k) i (column_of tracks q) j (track_of tracks q) t (omega arith) (sym r) (sym s) (rest_matches (rest_from k q a l e))

    leads : (k q s : ℕ) (a : P) → k + 1 < length want → row_of bytes want prices k q ≡ Some a → s ≡ step_at bytes (offset_of bytes want k) steps q → Leads m meaning ask bytes tracks (row_of bytes want prices (k + 1)) q (row_of bytes want prices k q) s
    leads k q s a more e is =
        let at = inside k q a e in
        subst (Leads m meaning ask bytes tracks (row_of bytes want prices (k + 1)) q (row_of bytes want prices k q)) (sym is) ((trail.right k (omega arith)).leading more q (omega arith) at.0 at.1)

    -- the first note
    pub following_none : (before : List Piece) → 0 < length want → Following 0 start 0 (lone_at tracks 1 start) before before
    following_none before l =
        record {
          price = whole;
          stands = trail.stands;
          written = [];
          count_is = refl;
          list_is = refl;
          begins = refl;
          begun = begun_none m ask c (meaning whole) (lone_at tracks 1 start) refl;
          lying = lying_one m ask c (meaning whole) (lone_at tracks 1 start) refl (lies_at 0 start 1 (column_of tracks start) (track_of tracks start) whole l trail.stands refl refl refl);
          note_is = refl;
          column_is = refl;
          track_is = refl;
        }

    module _ (k q count : ℕ) (o : Piece) (before list : List Piece) (f : Following k q count o before list) where
      module _ (s : ℕ) (more : k + 1 < length want) (is : s ≡ step_at bytes (offset_of bytes want k) steps q) where
        on_stands : s ≡ going_on → row_of bytes want prices (k + 1) (q + tracks) ≡ Some f.price
        on_stands e = lead_on m meaning bytes tracks ask (row_of bytes want prices (k + 1)) q (row_of bytes want prices k q) s (leads k q s f.price more f.stands is) f.price f.stands (λ r a e. let z = (inside (k + 1) r a e).0 in omega arith) e

        -- the next note lies in the next column of the track
        pub following_on : s ≡ going_on → Following (k + 1) (q + tracks) count (sized_as o (o.len + 1)) before list
        following_on goes =
            let e = on_stands goes in
            let j = next_column tracks q one in
            let t = same_track tracks q one in
            record {
              price = f.price;
              stands = e;
              written = f.written;
              count_is = f.count_is;
              list_is = f.list_is;
              begins = begins_sized f.written o (o.len + 1) ∙ f.begins;
              begun = record { goes = f.begun.goes };
              lying = lying_more m ask c (meaning whole) o f.lying (lies_at (k + 1) (q + tracks) (o.first + o.len) (o.column + o.len) o.track f.price more e (omega (arith, f.note_is)) (omega (arith, f.column_is)) (omega (arith, f.track_is)));
              note_is = omega (arith, f.note_is);
              column_is = omega (arith, f.column_is);
              track_is = omega (arith, f.track_is);
            }

        module _ (ne : s ≡ going_on → ⊥) where
          over_to : (a' : P) × (row_of bytes want prices (k + 1) s ≡ Some a') × (q / tracks < s / tracks) × (gap ask.score (column_of tracks q) (column_of tracks s) ≤ ask.limit) × (meaning f.price ≡ m.charged (meaning a') (gap ask.score (column_of tracks q) (column_of tracks s)))
          over_to = lead_over m meaning bytes tracks ask (row_of bytes want prices (k + 1)) q (row_of bytes want prices k q) s (leads k q s f.price more f.stands is) f.price f.stands ne

          pub over_in : s < length bytes
          over_in = (inside (k + 1) s over_to.0 over_to.1).0

          -- the next note is handed over
          pub following_over : count < length before → Following (k + 1) s (count + 1) (lone_at tracks (k + 1 + 1) s) before (set list count o)
          following_over room =
              let to = over_to in
              let p = lone_at tracks (k + 1 + 1) s in
              let at : column_of tracks q ≡ last o = omega (arith, f.column_is) in
              record {
                price = to.0;
                stands = to.1;
                written = f.written ++ o ∷ [];
                count_is = omega (arith, f.count_is, length-append f.written (o ∷ []));
                list_is = front_more f.written before list o count f.count_is room f.list_is;
                begins = begins_more f.written o p ∙ f.begins;
                begun =
                    begun_more m ask c (meaning whole) f.written o p (meaning f.price) (meaning to.0) f.lying (omega (arith, f.note_is)) (omega (arith, at, to.2))
                    (subst (λ z. gap ask.score z (column_of tracks s) ≤ ask.limit) at to.3)
                    (subst (λ z. meaning f.price ≡ m.charged (meaning to.0) (gap ask.score z (column_of tracks s))) at to.4) f.begun;
                lying = lying_one m ask c (meaning whole) p refl (lies_at (k + 1) s (k + 1 + 1) (column_of tracks s) (track_of tracks s) to.0 more to.1 refl refl refl);
                note_is = omega arith;
                column_is = refl;
                track_is = refl;
              }

      -- the last note
      pub following_ends : k + 1 ≡ length want → count < length before → Written m ask c (place_at tracks start) (meaning whole) (count + 1) before (set list count o)
      following_ends end room =
          let long = trail.wanted.as_long in
          let free = last_price m ask trail.posed.covered c (suc k) (column_of tracks q) (track_of tracks q) (meaning f.price) (omega arith) (rest_from k q f.price (omega arith) f.stands) in
          let done = begun_ends m ask c (meaning whole) f.written o (meaning f.price) f.lying (omega (arith, f.note_is)) free f.begun in
          record {
            pieces = f.written ++ o ∷ [];
            splits = done.0;
            begins = f.begins;
            price_is = done.1;
            count_is = omega (arith, f.count_is, length-append f.written (o ∷ []));
            room = omega arith;
            list_is = front_more f.written before list o count f.count_is room f.list_is;
          }

-- what is begun ends at a place that holds the byte wanted
pub stays : {P : Type 0} {m : Pricing} {meaning : P → m.Meaning} {bytes : List ℕ} {tracks : ℕ} {want steps : List ℕ} {start : ℕ} {ask : Question} {c : ℤ} {prices : List (Option P)} {whole : P} {k q count : ℕ} {o : Piece} {before list : List Piece} → Following m meaning bytes tracks want steps start ask c prices whole k q count o before list → (q < length bytes) × (get_or bytes q rest ≡ get_or want k 0)
stays {bytes = bytes} {want = want} {prices = prices} {k = k} {q = q} f = let s = value_some bytes (get_or want k 0) (offset_of bytes want k) prices q f.price f.stands in (s.0, s.1)

-- where the step of a place stands
module _ (bytes after : List ℕ) (ranked : Ranked bytes after (length bytes)) (want steps : List ℕ) (k q offset : ℕ) (here : k < length want) (room : sum_by (λ b. count_by (eqb b) bytes) want ≤ length steps) (is : offset ≡ offset_of bytes want k) (l : q < length bytes) (e : get_or bytes q rest ≡ get_or want k 0) where
  pub step_in : offset + get_or after q 0 < length steps
  step_in = rank_in bytes after ranked (get_or want k 0) offset (length steps) q (omega (arith, offset_all bytes want k here)) l e

  pub step_is : get_or steps (offset + get_or after q 0) 0 ≡ step_at bytes (offset_of bytes want k) steps q
  step_is = λ j. get_or steps (is j + ranked q l j) 0
