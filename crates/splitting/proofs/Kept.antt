-- What keeps a splitting and its price: appended columns, a raised limit, and the query transposed.
use Rattle.std.proofs.Common.{◌≡◌, ℕ, zero, suc, ◌+◌, ◌≤◌, List, [], ◌∷◌, ◌++◌, length, get_or, ℤ, Some, Option, sym, refl, ap, ◌∙◌, arith}
use Rattle.std.proofs.lemmas.List.{get_or_append_left, ext_get_or}
use Rattle.notation.specs.Kind.{Kind, rest, Told, follow, Lawful as KindLaws}
use Rattle.price.specs.Pricing.{Pricing}
use Rattle.splitting.specs.declared.Piece.{Piece}
use Rattle.splitting.specs.Score.{Score, Question, symbol, note, Matches, Transposed}
use Rattle.splitting.specs.Splitting.{last, gap, Placed, Splits, gaps, charges, price_of}
use Rattle.splitting.specs.Laws.{grown, asking}
use Rattle.splitting.proofs.Gaps.{gap_appended}
use Rattle.splitting.proofs.Places.{match_note, match_place}
use Rattle.splitting.proofs.Rests.{splits_first}

-- What matches at any place in one question matches there in another, and the gaps before those places are
-- the same: so a splitting in the one is a splitting in the other.
module _ (ask ask' : Question) (c c' : ℤ) (as_long : length ask'.query ≡ length ask.query) (wide : ask.limit ≤ ask'.limit) (keep : (i j t : ℕ) → Matches ask c i j t → Matches ask' c' i j t) (keep-gap : (a i j t : ℕ) → Matches ask c i j t → gap ask'.score a j ≡ gap ask.score a j) where
  placed_kept : (from : ℕ) (p : Piece) → Placed ask c from p → Placed ask' c' from p
  placed_kept from p h = record { first_is = h.first_is; some = h.some; lies = λ i l. keep (p.first + i) (p.column + i) p.track (h.lies i l) }

  gap_kept : (from : ℕ) (p q : Piece) (ps : List Piece) → Splits ask c from (q ∷ ps) → gap ask'.score (last p) q.column ≡ gap ask.score (last p) q.column
  gap_kept from p q ps s = keep-gap (last p) from q.column q.track (splits_first ask c from q ps s)

  pub splits_kept : (from : ℕ) (ps : List Piece) → Splits ask c from ps → Splits ask' c' from ps
  splits_kept from [] s = s
  splits_kept from (p ∷ []) s = (placed_kept from p s.0, omega (arith, s.1))
  splits_kept from (p ∷ q ∷ ps) s =
      let e = gap_kept (from + p.len) p q ps s.2 in
      let within = s.1.within in
      (placed_kept from p s.0, record { later = s.1.later; within = omega arith }, splits_kept (from + p.len) (q ∷ ps) s.2)

  pub gaps_kept : (from : ℕ) (ps : List Piece) → Splits ask c from ps → gaps ask'.score ps ≡ gaps ask.score ps
  gaps_kept from [] s = refl
  gaps_kept from (p ∷ []) s = refl
  gaps_kept from (p ∷ q ∷ ps) s = λ z. gap_kept (from + p.len) p q ps s.2 z ∷ gaps_kept (from + p.len) (q ∷ ps) s.2 z

-- a place of the score keeps its symbol
symbol_appended : (score more : Score) (j t : ℕ) → j ≤ length score → symbol (score ++ more) j t ≡ symbol score j t
symbol_appended score more zero t l = refl
symbol_appended score more (suc j) zero l = refl
symbol_appended score more (suc j) (suc t) l = ap (λ x. get_or x t rest) (get_or_append_left score more [] j l)

module _ (ask : Question) (laws : KindLaws ask.kind) (more : Score) (c : ℤ) where
  matches_grown : (limit i j t : ℕ) → Matches ask c i j t → Matches (grown ask more limit) c i j t
  matches_grown limit i j t h = ap (ask.kind.interval (note ask.query i)) (symbol_appended ask.score more j t (match_place ask laws c i j t h).column_last) ∙ h

  gap_grown : (a i j t : ℕ) → Matches ask c i j t → gap (ask.score ++ more) a j ≡ gap ask.score a j
  gap_grown a i j t h = gap_appended ask.score more a j (match_place ask laws c i j t h).column_last

  pub splits_grown : (limit : ℕ) → ask.limit ≤ limit → (from : ℕ) (ps : List Piece) → Splits ask c from ps → Splits (grown ask more limit) c from ps
  splits_grown limit wide = splits_kept ask (grown ask more limit) c c refl wide (matches_grown limit) gap_grown

  pub price_grown : (m : Pricing) (from : ℕ) (ps : List Piece) → Splits ask c from ps → price_of m (ask.score ++ more) ps ≡ price_of m ask.score ps
  price_grown m from ps s = ap (charges m) (gaps_kept ask (grown ask more ask.limit) c c refl (omega arith) (matches_grown ask.limit) gap_grown from ps s)

pub some_same : {A : Type 0} {a b : A} {o : Option A} → o ≡ Some a → o ≡ Some b → a ≡ b
some_same p q = cc

module _ (ask : Question) (laws : KindLaws ask.kind) (d : ℤ) (query : List ℕ) (moved : Transposed ask.kind d ask.query query) where
  -- the interval to a symbol from the transposed note
  from_moved : (q q' s : ℕ) (c : ℤ) → ask.kind.interval q q' ≡ Some d → ask.kind.interval q s ≡ Some c → (e : ℤ) × (ask.kind.interval q' s ≡ Some e) × (follow ask.kind.following d e ≡ c)
  from_moved q q' s c h g =
      let b = laws.back q q' d h in
      let e = follow ask.kind.following b.0 c in
      let p = laws.chain q' q s b.0 c b.1 g in
      (e, p, some_same (laws.chain q q' s d e h p) g)

  matches_moved : (c c' : ℤ) → Told ask.kind c' → follow ask.kind.following d c' ≡ c → (i j t : ℕ) → Matches ask c i j t → Matches (asking ask query) c' i j t
  matches_moved c c' told next i j t h =
      let n = match_note ask laws c i j t h in
      let m = moved.each i n.0 n.1 in
      let f = from_moved (note ask.query i) (note query i) (symbol ask.score j t) c m h in
      f.1 ∙ ap Some (laws.cancel d f.0 c' (note ask.query i, note query i, m) (note query i, symbol ask.score j t, f.1) told (f.2 ∙ sym next))

  pub splits_moved : (c c' : ℤ) → Told ask.kind c' → follow ask.kind.following d c' ≡ c → (from : ℕ) (ps : List Piece) → Splits ask c from ps → Splits (asking ask query) c' from ps
  splits_moved c c' told next = splits_kept ask (asking ask query) c c' moved.as_long (omega arith) (matches_moved c c' told next) (λ a i j t h. refl)

  -- a splitting under c is one of the transposed query, under the c' that d is followed by to give c
  pub moved_shift : (c : ℤ) (from : ℕ) (ps : List Piece) → Splits ask c from ps → (c' : ℤ) × Told ask.kind c' × (follow ask.kind.following d c' ≡ c)
  moved_shift c from [] s = absurd s
  moved_shift c from (p ∷ ps) s =
      let h = splits_first ask c from p ps s in
      let n = match_note ask laws c from p.column p.track h in
      let f = from_moved (note ask.query from) (note query from) (symbol ask.score p.column p.track) c (moved.each from n.0 n.1) h in
      (f.0, (note query from, symbol ask.score p.column p.track, f.1), f.2)

  matches_back : (c : ℤ) (i j t : ℕ) → Matches (asking ask query) c i j t → Matches ask (follow ask.kind.following d c) i j t
  matches_back c i j t h =
      let n = match_note (asking ask query) laws c i j t h in
      laws.chain (note ask.query i) (note query i) (symbol ask.score j t) d c (moved.each i n.0 (omega (arith, n.1, moved.as_long))) h

  -- and the other way round
  pub splits_back : (c : ℤ) (from : ℕ) (ps : List Piece) → Splits (asking ask query) c from ps → Splits ask (follow ask.kind.following d c) from ps
  splits_back c = splits_kept (asking ask query) ask c (follow ask.kind.following d c) (sym moved.as_long) (omega arith) (matches_back c) (λ a i j t h. refl)

-- one symbol at most is another transposed
pub one_symbol : (k : Kind) → KindLaws k → (a b b' : ℕ) (c : ℤ) → k.interval a b ≡ Some c → k.interval a b' ≡ Some c → b ≡ b'
one_symbol k laws a b b' c p q =
    let e = laws.back a b c p in
    let here = laws.chain b a b e.0 c e.1 p in
    let there = laws.chain b a b' e.0 c e.1 q in
    laws.only_same b b' (there ∙ sym here ∙ laws.same b (laws.present a b c p).1)

-- and one query
pub one_transposed : (k : Kind) → KindLaws k → (d : ℤ) (query query' query'' : List ℕ) → Transposed k d query query' → Transposed k d query query'' → query' ≡ query''
one_transposed k laws d query query' query'' t u =
    ext_get_or rest query' query'' (t.as_long ∙ sym u.as_long)
    (λ i l. one_symbol k laws (note query (suc i)) (note query' (suc i)) (note query'' (suc i)) d (t.each (suc i) (omega arith) (omega (arith, t.as_long))) (u.each (suc i) (omega arith) (omega (arith, t.as_long))))
