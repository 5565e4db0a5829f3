-- Two views of one thing: pieces, and the rest of a query note by note.
use Rattle.std.proofs.Common.{◌≡◌, ℕ, zero, suc, ◌+◌, ◌-◌, ◌<◌, ◌≤◌, List, [], ◌∷◌, ℤ, sym, refl, ap, ◌∙◌, subst, arith}
use Rattle.price.specs.Pricing.{Pricing}
use Rattle.splitting.specs.declared.Piece.{Piece}
use Rattle.splitting.specs.Score.{Question, Matches}
use Rattle.splitting.specs.Splitting.{last, gap, Placed, HandedOver, Splits, price_of}
use Rattle.splitting.specs.Rest.{Rest, ends, goes_on, handed_over, Cut}

module _ (ask : Question) (c : ℤ) where
  pub matches_at : (i i' j j' t t' : ℕ) → i ≡ i' → j ≡ j' → t ≡ t' → Matches ask c i j t → Matches ask c i' j' t'
  matches_at i i' j j' t t' p q r h = subst (λ i. i) (λ z. Matches ask c (p z) (q z) (r z)) h

  placed_first : (from : ℕ) (p : Piece) → Placed ask c from p → Matches ask c from p.column p.track
  placed_first from p h = let e = h.first_is in matches_at (p.first + 0) from (p.column + 0) p.column p.track p.track (omega arith) (omega arith) refl (h.lies 0 h.some)

  -- the last note of a piece lies in its last column
  pub placed_last : (from : ℕ) (p : Piece) → Placed ask c from p → Matches ask c (p.first + (p.len - 1)) (last p) p.track
  placed_last from p h = let l = h.some in matches_at (p.first + (p.len - 1)) (p.first + (p.len - 1)) (p.column + (p.len - 1)) (last p) p.track p.track refl (omega arith) refl (h.lies (p.len - 1) (omega arith))

module _ (m : Pricing) (ask : Question) (c : ℤ) where
  pub rest_at : {i i' j j' t t' : ℕ} {a a' : m.Meaning} → i ≡ i' → j ≡ j' → t ≡ t' → a ≡ a' → Rest m ask c i j t a → Rest m ask c i' j' t' a'
  rest_at p q r s h = subst (λ i. i) (λ z. Rest m ask c (p z) (q z) (r z) (s z)) h

  -- a run of notes on one track, and then the rest
  run : (n i j t : ℕ) (a : m.Meaning) → ((d : ℕ) → d < n → Matches ask c (i + d) (j + d) t) → Rest m ask c (i + n) (j + n) t a → Rest m ask c i j t a
  run zero i j t a h r = rest_at (omega arith) (omega arith) refl refl r
  run (suc n) i j t a h r =
      goes_on (matches_at ask c (i + 0) i (j + 0) j t t (omega arith) (omega arith) refl (h 0 (omega arith)))
      (run n (suc i) (suc j) t a (λ d l. matches_at ask c (i + suc d) (suc i + d) (j + suc d) (suc j + d) t t (omega arith) (omega arith) refl (h (suc d) (omega arith))) (rest_at (omega arith) (omega arith) refl refl r))

  -- a piece, and then the rest from its last note
  piece_run : (from : ℕ) (p : Piece) (a : m.Meaning) → Placed ask c from p → (Matches ask c (from + (p.len - 1)) (last p) p.track → Rest m ask c (from + (p.len - 1)) (last p) p.track a) → Rest m ask c from p.column p.track a
  piece_run from p a h end =
      let n : ℕ = p.len - 1 in
      let e = h.first_is in
      let l = h.some in
      let at_end = matches_at ask c (p.first + n) (from + n) (p.column + n) (last p) p.track p.track (omega arith) (omega arith) refl (h.lies n (omega arith)) in
      run n from p.column p.track a (λ d l. matches_at ask c (p.first + d) (from + d) (p.column + d) (p.column + d) p.track p.track (omega arith) refl refl (h.lies d (omega arith)))
      (rest_at refl (omega arith) refl refl (end at_end))

  pub rest_of_splits : (from : ℕ) (p : Piece) (ps : List Piece) → Splits ask c from (p ∷ ps) → Rest m ask c from p.column p.track (price_of m ask.score (p ∷ ps))
  rest_of_splits from p [] s = let l = s.0.some in piece_run from p m.nothing s.0 (λ h. ends (omega arith) h)
  rest_of_splits from p (q ∷ ps) s =
      let l = s.0.some in
      piece_run from p (price_of m ask.score (p ∷ q ∷ ps)) s.0
      (λ h. handed_over q.column q.track h s.1.later s.1.within (rest_at (omega arith) refl refl refl (rest_of_splits (from + p.len) q ps s.2)))

  lone : ℕ → ℕ → ℕ → Piece
  lone i j t = record { first = i; len = 1; track = t; column = j }

  lone_placed : (i j t : ℕ) → Matches ask c i j t → Placed ask c i (lone i j t)
  unfolding lone
  lone_placed i j t h = record { first_is = refl; some = omega arith; lies = λ d l. matches_at ask c i (i + d) j (j + d) t t (omega arith) (omega arith) refl h }

  -- a piece with one more note before it
  longer : ℕ → ℕ → ℕ → Piece → Piece
  longer i j t q = record { first = i; len = suc q.len; track = t; column = j }

  module _ (i j t : ℕ) (h : Matches ask c i j t) (q : Piece) (column_is : q.column ≡ suc j) (track_is : q.track ≡ t) where
    longer_lies : q.first ≡ suc i → ((d : ℕ) → d < q.len → Matches ask c (q.first + d) (q.column + d) q.track) → (d : ℕ) → d < suc q.len → Matches ask c (i + d) (j + d) t
    longer_lies e lies zero l = matches_at ask c i (i + 0) j (j + 0) t t (omega arith) (omega arith) refl h
    longer_lies e lies (suc d) l = matches_at ask c (q.first + d) (i + suc d) (q.column + d) (j + suc d) q.track t (omega arith) (omega arith) track_is (lies d (omega arith))

    longer_placed : Placed ask c (suc i) q → Placed ask c i (longer i j t q)
    unfolding longer
    longer_placed g = record { first_is = refl; some = omega arith; lies = longer_lies g.first_is g.lies }

    longer_last : 0 < q.len → last (longer i j t q) ≡ last q
    unfolding longer
    longer_last l = omega arith

    longer_handed : (r : Piece) → 0 < q.len → HandedOver ask q r → HandedOver ask (longer i j t q) r
    longer_handed r l g = let e = longer_last l in record { later = omega (arith, g.later); within = subst (λ z. gap ask.score z r.column ≤ ask.limit) (sym e) g.within }

    goes_on_cut : (qs : List Piece) (a : m.Meaning) → Splits ask c (suc i) (q ∷ qs) → price_of m ask.score (q ∷ qs) ≡ a → Cut m ask c i j t a
    unfolding longer
    goes_on_cut [] a s e = record { head = longer i j t q; tail = []; splits = (longer_placed s.0, omega arith); column_is = refl; track_is = refl; price_is = e }
    goes_on_cut (r ∷ qs) a s e =
        record {
          head = longer i j t q;
          tail = r ∷ qs;
          splits = (longer_placed s.0, longer_handed r s.0.some s.1, subst (λ n. Splits ask c n (r ∷ qs)) (omega arith) s.2);
          column_is = refl;
          track_is = refl;
          price_is = ap (λ z. m.charged (price_of m ask.score (r ∷ qs)) (gap ask.score z r.column)) (longer_last s.0.some) ∙ e;
        }

  handed_over_cut : (i j t j' t' : ℕ) (a : m.Meaning) → Matches ask c i j t → j < j' → gap ask.score j j' ≤ ask.limit → Cut m ask c (suc i) j' t' a → Cut m ask c i j t (m.charged a (gap ask.score j j'))
  unfolding lone
  handed_over_cut i j t j' t' a h l g s =
      let e = s.column_is in
      let b : j + 1 - 1 ≡ j = omega arith in
      let same : gap ask.score (j + 1 - 1) s.head.column ≡ gap ask.score j j' = λ z. gap ask.score (b z) (e z) in
      record {
        head = lone i j t;
        tail = s.head ∷ s.tail;
        splits = (lone_placed i j t h, record { later = omega arith; within = omega (arith, same) }, subst (λ n. Splits ask c n (s.head ∷ s.tail)) (omega arith) s.splits);
        column_is = refl;
        track_is = refl;
        price_is = λ z. m.charged (s.price_is z) (same z);
      }

  pub splits_of_rest : {i j t : ℕ} {a : m.Meaning} → Rest m ask c i j t a → Cut m ask c i j t a
  unfolding lone
  splits_of_rest (ends {i} {j} {t} e h) = record { head = lone i j t; tail = []; splits = (lone_placed i j t h, omega arith); column_is = refl; track_is = refl; price_is = refl }
  splits_of_rest (goes_on {i} {j} {t} {a} h r) = let s = splits_of_rest r in goes_on_cut i j t h s.head s.column_is s.track_is s.tail a s.splits s.price_is
  splits_of_rest (handed_over {i} {j} {t} {a} j' t' h l g r) = handed_over_cut i j t j' t' a h l g (splits_of_rest r)

-- the first note of a splitting lies where it begins
pub splits_first : (ask : Question) (c : ℤ) (from : ℕ) (p : Piece) (ps : List Piece) → Splits ask c from (p ∷ ps) → Matches ask c from p.column p.track
splits_first ask c from p [] s = placed_first ask c from p s.0
splits_first ask c from p (q ∷ ps) s = placed_first ask c from p s.0
