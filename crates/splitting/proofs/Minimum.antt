-- Ways are the parted queries, and a cheapest way by changes has the fewest pieces.
use Rattle.std.proofs.Common.{◌≡◌, ℕ, suc, ◌+◌, ◌-◌, ◌<◌, ◌≤◌, Bool, true, false, ◌&&◌, ◌||◌, T, eqb, ltb, leb, List, [], ◌∷◌, ◌++◌, length, get_or, take, drop, ℤ, Some, sym, refl, ap, ◌∙◌, subst, arith, eqb→eq, ltb→lt, leb→le}
use Rattle.std.specs.List.{flat_map}
use Rattle.std.proofs.lemmas.List.{append-nil, length-take-le, length-drop, get_or-take, get_or-drop, get_or_append_left, take_all, take-append-drop, drop-drop, drop_at}
use Rattle.std.proofs.lemmas.List.Sums.{sum_by-cons}
use Rattle.notation.specs.Kind.{rest, Lawful as KindLaws}
use Rattle.price.specs.Pricing.{Pricing}
use Rattle.price.specs.Prices.{Tally, no_more, by_changes, by_changes_then_silence}
use Rattle.splitting.specs.declared.Piece.{Piece}
use Rattle.splitting.specs.Score.{Score, Question, symbol, note}
use Rattle.splitting.specs.Splitting.{last, gap, Placed, Splits, gaps, price_of, silence}
use Rattle.splitting.specs.Answer.{Way}
use Rattle.splitting.specs.Minimum.{Part, start, Occurs, AllOccur, InOrder, Parted, SameParts, Ways, Fewest, FewestPieces, ChangesCounted}
use Rattle.splitting.proofs.Places.{match_note, match_place}
use Rattle.splitting.proofs.Rests.{placed_last}

-- the part of a piece of the query whose first n notes came before
part_of : List ℕ → ℕ → Piece → Part
part_of query n p = record { notes = take p.len (drop n query); track = p.track; end = last p }

module _ (ask : Question) (laws : KindLaws ask.kind) (c : ℤ) (n : ℕ) (p : Piece) (h : Placed ask c (suc n) p) where
  fits : n + p.len ≤ length ask.query
  fits =
      let e = h.first_is in
      let l = h.some in
      let b = match_note ask laws c (p.first + (p.len - 1)) (last p) p.track (placed_last ask c (suc n) p h) in
      omega arith

  notes_length : length (take p.len (drop n ask.query)) ≡ p.len
  notes_length = let l = fits in length-take-le p.len (drop n ask.query) (omega (arith, length-drop n ask.query))

  start_is : start (part_of ask.query n p) ≡ p.column
  unfolding part_of
  start_is = let l = h.some in omega (arith, notes_length)

  note_is : (i : ℕ) → i < p.len → note ask.query (p.first + i) ≡ get_or (take p.len (drop n ask.query)) i rest
  note_is i l =
      let e = h.first_is in
      let f : p.first + i ≡ suc (n + i) = omega arith in
      ap (note ask.query) f ∙ sym (get_or-take p.len (drop n ask.query) i rest l ∙ get_or-drop n ask.query i rest)

  part_occurs : Occurs ask c (part_of ask.query n p)
  unfolding part_of
  part_occurs =
      let l = h.some in
      let first = match_place ask laws c (p.first + 0) (p.column + 0) p.track (h.lies 0 l) in
      let end = match_place ask laws c (p.first + (p.len - 1)) (last p) p.track (placed_last ask c (suc n) p h) in
      record {
        some = omega (arith, notes_length);
        in_front = omega (arith, notes_length);
        inside = end.column_last;
        each =
            λ i b.
            let b' : i < p.len = omega (arith, notes_length) in
            let e : p.column + i ≡ start (part_of ask.query n p) + i = omega (arith, start_is) in
            subst (λ i. i) (λ z. ask.kind.interval (note_is i b' z) (symbol ask.score (e z) p.track) ≡ Some c) (h.lies i b');
      }

parts_from : List ℕ → ℕ → List Piece → List Part
parts_from query n [] = []
parts_from query n (p ∷ ps) = part_of query n p ∷ parts_from query (n + p.len) ps

module _ (ask : Question) (laws : KindLaws ask.kind) (c : ℤ) where
  next : (n : ℕ) (p : Piece) (ps : List Piece) → Splits ask c (suc n + p.len) ps → Splits ask c (suc (n + p.len)) ps
  next n p ps s = subst (λ z. Splits ask c z ps) (omega arith) s

  splits_placed : (n : ℕ) (p : Piece) (ps : List Piece) → Splits ask c (suc n) (p ∷ ps) → Placed ask c (suc n) p
  splits_placed n p [] s = s.0
  splits_placed n p (q ∷ ps) s = s.0

  parts_whole : (n : ℕ) (p : Piece) (ps : List Piece) → Splits ask c (suc n) (p ∷ ps) → flat_map (λ q. q.notes) (parts_from ask.query n (p ∷ ps)) ≡ drop n ask.query
  unfolding parts_from part_of
  parts_whole n p [] s = append-nil (take p.len (drop n ask.query)) ∙ take_all p.len (drop n ask.query) (omega (arith, length-drop n ask.query, s.1))
  parts_whole n p (q ∷ ps) s =
      ap (λ z. take p.len (drop n ask.query) ++ z) (parts_whole (n + p.len) q ps (next n p (q ∷ ps) s.2) ∙ sym (drop-drop p.len n ask.query))
      ∙ take-append-drop p.len (drop n ask.query)

  parts_occur : (n : ℕ) (ps : List Piece) → Splits ask c (suc n) ps → AllOccur ask c (parts_from ask.query n ps)
  unfolding parts_from
  parts_occur n [] s = tt
  parts_occur n (p ∷ []) s = (part_occurs ask laws c n p s.0, tt)
  parts_occur n (p ∷ q ∷ ps) s = (part_occurs ask laws c n p s.0, parts_occur (n + p.len) (q ∷ ps) (next n p (q ∷ ps) s.2))

  parts_in_order : (n : ℕ) (ps : List Piece) → Splits ask c (suc n) ps → InOrder ask (parts_from ask.query n ps)
  unfolding parts_from part_of
  parts_in_order n [] s = tt
  parts_in_order n (p ∷ []) s = tt
  parts_in_order n (p ∷ q ∷ ps) s =
      let rest-splits = next n p (q ∷ ps) s.2 in
      let e = start_is ask laws c (n + p.len) q (splits_placed (n + p.len) q ps rest-splits) in
      (subst (λ z. last p < z) (sym e) s.1.later, subst (λ z. gap ask.score (last p) z ≤ ask.limit) (sym e) s.1.within, parts_in_order (n + p.len) (q ∷ ps) rest-splits)

  parts_same : (n : ℕ) (ps : List Piece) → Splits ask c (suc n) ps → SameParts (parts_from ask.query n ps) ps
  unfolding parts_from part_of
  parts_same n [] s = tt
  parts_same n (p ∷ []) s = (notes_length ask laws c n p s.0, refl, refl, tt)
  parts_same n (p ∷ q ∷ ps) s = (notes_length ask laws c n p s.0, refl, refl, parts_same (n + p.len) (q ∷ ps) (next n p (q ∷ ps) s.2))

-- the piece of a part, after n notes
piece_of : ℕ → Part → Piece
piece_of n q = record { first = suc n; len = length q.notes; track = q.track; column = start q }

pieces_from : ℕ → List Part → List Piece
pieces_from n [] = []
pieces_from n (q ∷ qs) = piece_of n q ∷ pieces_from (n + length q.notes) qs

module _ (ask : Question) (c : ℤ) where
  last_is : (n : ℕ) (q : Part) → Occurs ask c q → last (piece_of n q) ≡ q.end
  unfolding piece_of
  last_is n q o = let a = o.some in let b = o.in_front in omega arith

  piece_placed : (n : ℕ) (q : Part) (after : List ℕ) → Occurs ask c q → q.notes ++ after ≡ drop n ask.query → Placed ask c (suc n) (piece_of n q)
  unfolding piece_of
  piece_placed n q after o whole =
      record {
        first_is = refl;
        some = o.some;
        lies =
            λ i l.
            let e : suc n + i ≡ suc (n + i) = omega arith in
            let same = sym (get_or_append_left q.notes after rest i l) ∙ ap (λ x. get_or x i rest) whole ∙ get_or-drop n ask.query i rest ∙ sym (ap (note ask.query) e) in
            subst (λ z. ask.kind.interval z (symbol ask.score (start q + i) q.track) ≡ Some c) same (o.each i l);
      }

  after_part : (n : ℕ) (q : Part) (after : List ℕ) → q.notes ++ after ≡ drop n ask.query → after ≡ drop (n + length q.notes) ask.query
  after_part n q after whole = sym (drop_at q.notes after (length q.notes) refl) ∙ ap (drop (length q.notes)) whole ∙ drop-drop (length q.notes) n ask.query

  pieces_split : (n : ℕ) (q : Part) (qs : List Part) → flat_map (λ p. p.notes) (q ∷ qs) ≡ drop n ask.query → AllOccur ask c (q ∷ qs) → InOrder ask (q ∷ qs) → Splits ask c (suc n) (pieces_from n (q ∷ qs))
  unfolding pieces_from piece_of
  pieces_split n q [] whole occur order =
      let some = occur.0.some in
      let size = ap length (sym (append-nil q.notes) ∙ whole) ∙ length-drop n ask.query in
      (piece_placed n q [] occur.0 whole, omega arith)
  pieces_split n q (r ∷ qs) whole occur order =
      let e = last_is n q occur.0 in
      let after = flat_map (λ p. p.notes) (r ∷ qs) in (
        piece_placed n q after occur.0 whole,
        record { later = omega (arith, order.0); within = subst (λ z. gap ask.score z (start r) ≤ ask.limit) (sym e) order.1 },
        subst (λ z. Splits ask c z (pieces_from (n + length q.notes) (r ∷ qs))) (omega arith) (pieces_split (n + length q.notes) r qs (after_part n q after whole) occur.1 order.2),
      )

  pieces_same : (n : ℕ) (qs : List Part) → AllOccur ask c qs → SameParts qs (pieces_from n qs)
  unfolding pieces_from piece_of
  pieces_same n [] occur = tt
  pieces_same n (q ∷ qs) occur = (refl, refl, sym (last_is n q occur.0), pieces_same (n + length q.notes) qs occur.1)

same_number : (qs : List Part) (ps : List Piece) → SameParts qs ps → length qs ≡ length ps
same_number [] [] h = refl
same_number [] (p ∷ ps) h = absurd h
same_number (q ∷ qs) [] h = absurd h
same_number (q ∷ qs) (p ∷ ps) h = ap suc (same_number qs ps h.3)

module _ (ask : Question) (laws : KindLaws ask.kind) where
  way_parts : (c : ℤ) (ps : List Piece) → Way ask c ps → (qs : List Part) × Parted ask c qs × SameParts qs ps
  unfolding parts_from
  way_parts c [] w = absurd w.splits
  way_parts c (p ∷ ps) w = (
    parts_from ask.query 0 (p ∷ ps),
    record {
      admitted = w.admitted;
      one_or_more = omega arith;
      whole = parts_whole ask laws c 0 p ps w.splits;
      occur = parts_occur ask laws c 0 (p ∷ ps) w.splits;
      in_order = parts_in_order ask laws c 0 (p ∷ ps) w.splits;
    },
    parts_same ask laws c 0 (p ∷ ps) w.splits,
  )

  parts_way : (c : ℤ) (qs : List Part) → Parted ask c qs → (ps : List Piece) × Way ask c ps × SameParts qs ps
  parts_way c [] d = let l = d.one_or_more in absurd (omega arith)
  parts_way c (q ∷ qs) d = (
    pieces_from 0 (q ∷ qs),
    record { admitted = d.admitted; splits = pieces_split ask c 0 q qs d.whole d.occur d.in_order },
    pieces_same ask c 0 (q ∷ qs) d.occur,
  )

  pub ways : Ways ask
  ways = record { parts_of = way_parts; pieces_of = parts_way }

-- a price that counts changes, and is no lower where there are more of them
record Counting (m : Pricing) : Type 0 where
  number : m.Meaning → ℕ
  none_yet : number m.nothing ≡ 0
  one_more : (a : m.Meaning) (g : ℕ) → number (m.charged a g) ≡ number a + 1
  ordered : (a b : m.Meaning) → T (m.not_above a b) → number a ≤ number b

module _ (m : Pricing) (counts : Counting m) where
  -- the price of a splitting counts its hand-overs
  price_counts : (score : Score) (p : Piece) (ps : List Piece) → counts.number (price_of m score (p ∷ ps)) ≡ length ps
  price_counts score p [] = counts.none_yet
  price_counts score p (q ∷ ps) = counts.one_more (price_of m score (q ∷ ps)) (gap score (last p) q.column) ∙ omega (arith, price_counts score q ps)

  fewer : (score : Score) (ps qs : List Piece) (a : m.Meaning) → 0 < length qs → T (m.not_above (price_of m score ps) a) → T (m.not_above a (price_of m score qs)) → length ps ≤ length qs
  fewer score [] qs a some l h = omega arith
  fewer score (p ∷ ps) [] a some l h = absurd (omega arith)
  fewer score (p ∷ ps) (q ∷ qs) a some l h =
      omega (arith, price_counts score p ps, price_counts score q qs, counts.ordered (price_of m score (p ∷ ps)) a l, counts.ordered a (price_of m score (q ∷ qs)) h)

  fewest : Fewest m
  fewest ask laws f before after r =
      let own = way_parts ask laws f.shift r.pieces r.way in
      record {
        shift = f.shift;
        parts = own.0;
        parted = own.1;
        number_is = same_number own.0 r.pieces own.2 ∙ sym r.count_is;
        smallest =
            λ c qs d.
            let other = parts_way ask laws c qs d in
            let number = same_number qs other.0 other.2 in
            let some = d.one_or_more in
            let l = fewer ask.score r.pieces other.0 f.price (omega arith) r.price_is.0 (r.least c other.0 other.1) in
            omega (arith, r.count_is);
      }

changes_count : Counting by_changes
changes_count = record { number = λ a. a; none_yet = refl; one_more = λ a g. refl; ordered = leb→le }

no_more_changes : (a b : Tally) → T (no_more a b) → a.changes ≤ b.changes
no_more_changes a b h =
    go (ltb a.changes b.changes) (eqb a.changes b.changes) (leb a.silence b.silence) (λ l. omega (arith, ltb→lt a.changes b.changes l)) (λ e. omega (arith, eqb→eq a.changes b.changes e)) h
  where
    go : (x y z : Bool) → (T x → a.changes ≤ b.changes) → (T y → a.changes ≤ b.changes) → T (x || (y && z)) → a.changes ≤ b.changes
    go true y z f g h = f tt
    go false true z f g h = g tt
    go false false z f g h = absurd h

changes_then_silence_count : Counting by_changes_then_silence
changes_then_silence_count = record { number = λ a. a.changes; none_yet = refl; one_more = λ a g. refl; ordered = no_more_changes }

pub fewest_pieces : FewestPieces
fewest_pieces = record { same_ways = ways; at_changes = fewest by_changes changes_count; at_changes_then_silence = fewest by_changes_then_silence changes_then_silence_count }

-- each hand-over adds its gap to the silence
silence_told : (score : Score) (ps : List Piece) → (price_of by_changes_then_silence score ps).silence ≡ silence score ps
silence_told score [] = refl
silence_told score (p ∷ []) = refl
silence_told score (p ∷ q ∷ ps) = omega (arith, silence_told score (q ∷ ps), sum_by-cons (λ g. g) (gap score (last p) q.column) (gaps score (q ∷ ps)))

pub changes_counted : ChangesCounted
unfolding changes_count changes_then_silence_count
changes_counted =
    record {
      changes_are = price_counts by_changes changes_count;
      tally_is = λ score p ps. λ z. record { changes = price_counts by_changes_then_silence changes_then_silence_count score p ps z; silence = silence_told score (p ∷ ps) z };
    }
