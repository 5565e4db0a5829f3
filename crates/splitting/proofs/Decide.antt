-- A test of an answer that goes through every way.
use Rattle.std.proofs.Common.{◌≡◌, ℕ, zero, suc, ◌+◌, ◌<◌, ◌≤◌, true, T, List, [], ◌∷◌, ◌++◌, length, drop, ℤ, pos, Some, None, Option, sym, refl, ap, subst, arith}
use Rattle.notation.specs.Kind.{Lawful as KindLaws}
use Rattle.price.specs.Pricing.{Pricing}
use Rattle.splitting.specs.declared.Found.{Found}
use Rattle.notation.specs.declared.mode.Mode.{Mode}
use Rattle.notation.specs.declared.mode.Mode.TheVariants.{Untransposed, AnyTransposition}
use Rattle.splitting.specs.declared.Piece.{Piece}
use Rattle.splitting.specs.declared.Place.{Place}
use Rattle.splitting.specs.Score.{Score, Question, symbol, note, Admits, Matches}
use Rattle.splitting.specs.Splitting.{last, gap, Placed, HandedOver, Splits, price_of}
use Rattle.splitting.specs.Answer.{beginning, NotAfter, Way}
use Rattle.splitting.specs.Rest.{Rest, ends, goes_on, handed_over}
use Rattle.splitting.specs.Examples.{Tells, TellsNone}
use Rattle.splitting.proofs.Places.{Inside, width, match_note, match_place}
use Rattle.splitting.proofs.Rests.{rest_of_splits, splits_first}
use Rattle.splitting.proofs.Depths.{rest_matches}
use Rattle.splitting.proofs.Tests.{Test, Decision, never, so, ◌and◌, ◌or◌, when, each_below, equal, at_most, less, true_of, ◌with◌, equal_integers, present}

-- a test of each place of the score
pub at_place : (score : Score) (P : ℕ → ℕ → Type 0) → ((j : ℕ) → j < length score → (t : ℕ) → t < width score (suc j) → P (suc j) (suc t)) → (j t : ℕ) → Inside score j t → P j t
at_place score P h zero t x = let l = x.column_one in absurd (omega arith)
at_place score P h (suc j) zero x = let l = x.track_one in absurd (omega arith)
at_place score P h (suc j) (suc t) x = h j x.column_last t x.track_last

abbrev each_place : (score : Score) (P : ℕ → ℕ → Type 0) → ((j t : ℕ) → Test (P j t)) → Test ((j t : ℕ) → Inside score j t → P j t)
each_place score P test = so (at_place score P) (each_below (length score) (λ j. each_below (width score (suc j)) (λ t. test (suc j) (suc t))))

abbrev not_after : (x y : Place) → Test (NotAfter x y)
not_after x y = (less x.column y.column).test or ((equal x.column y.column).test and (at_most x.track y.track).test)

abbrev same_place : (x y : Place) → Test (x ≡ y)
same_place x y = so (λ e z. record { column = e.0 z; track = e.1 z }) ((equal x.column y.column).test and (equal x.track y.track).test)

abbrev admits : (mode : Mode) (c : ℤ) → Decision (Admits mode c)
admits Untransposed c = equal_integers c (pos 0)
admits AnyTransposition c = record { test = record { holds = true; shows = λ v. tt }; told = λ a. tt }

-- a test of whether pieces split the query
module _ (ask : Question) (c : ℤ) where
  abbrev matches : (i j t : ℕ) → Decision (Matches ask c i j t)
  matches i j t = present (ask.kind.interval (note ask.query i) (symbol ask.score j t)) c

  abbrev placed : (from : ℕ) (p : Piece) → Test (Placed ask c from p)
  placed from p =
      so (λ h. record { first_is = h.0; some = h.1.0; lies = h.1.1 })
      ((equal p.first from).test and (less 0 p.len).test and each_below p.len (λ i. (matches (p.first + i) (p.column + i) p.track).test))

  abbrev handed : (p q : Piece) → Test (HandedOver ask p q)
  handed p q = so (λ h. record { later = h.0; within = h.1 }) ((less (last p) q.column).test and (at_most (gap ask.score (last p) q.column) ask.limit).test)

  abbrev splits : (from : ℕ) (ps : List Piece) → Test (Splits ask c from ps)
  splits from [] = never
  splits from (p ∷ []) = placed from p and (equal (from + p.len) (suc (length ask.query))).test
  splits from (p ∷ q ∷ ps) = so (λ h. (h.0, h.1.0, h.1.1)) (placed from p and handed p q and splits (from + p.len) (q ∷ ps))

-- a test of every rest
module _ (ask : Question) (laws : KindLaws ask.kind) (m : Pricing) (c : ℤ) where
  -- what is shown of the three ways in which a rest goes is shown of all
  pub each_rest : (i j t : ℕ) (Q : m.Meaning → Type 0) → (Matches ask c i j t → (i ≡ length ask.query → Q m.nothing) × (((a : m.Meaning) → Rest m ask c (suc i) (suc j) t a → Q a) × ((j' t' : ℕ) → Inside ask.score j' t' → (j < j') × (gap ask.score j j' ≤ ask.limit) → (a : m.Meaning) → Rest m ask c (suc i) j' t' a → Q (m.charged a (gap ask.score j j'))))) → (a : m.Meaning) → Rest m ask c i j t a → Q a
  each_rest i j t Q h a (ends e g) = (h g).0 e
  each_rest i j t Q h a (goes_on g r) = (h g).1.0 a r
  each_rest i j t Q h a (handed_over {a = b} j' t' g l w r) = (h g).1.1 j' t' (match_place ask laws c (suc i) j' t' (rest_matches r)) (l, w) b r

  pub no_rest : (i j t : ℕ) (Q : m.Meaning → Type 0) → length ask.query < i + 0 → (a : m.Meaning) → Rest m ask c i j t a → Q a
  no_rest i j t Q l a r = let p = match_note ask laws c i j t (rest_matches r) in absurd (omega arith)

  -- a test of the price of every rest from note i in column j of track t, of which n notes are left at most
  abbrev rests : (n i j t : ℕ) → length ask.query < i + n → (Q : m.Meaning → Type 0) → ((a : m.Meaning) → Test (Q a)) → Test ((a : m.Meaning) → Rest m ask c i j t a → Q a)
  rests zero i j t l Q test = record { holds = true; shows = λ v. no_rest i j t Q l }
  rests (suc n) i j t l Q test =
      so (each_rest i j t Q)
      (when (matches ask c i j t)
      (when (equal i (length ask.query)) (test m.nothing)
      and rests n (suc i) (suc j) t (omega arith) Q test
      and each_place ask.score (λ j' t'. (j < j') × (gap ask.score j j' ≤ ask.limit) → (a : m.Meaning) → Rest m ask c (suc i) j' t' a → Q (m.charged a (gap ask.score j j')))
      (λ j' t'. when (less j j' with at_most (gap ask.score j j') ask.limit) (rests n (suc i) j' t' (omega arith) (λ a. Q (m.charged a (gap ask.score j j'))) (λ a. test (m.charged a (gap ask.score j j')))))))

-- a test of every way
module _ (ask : Question) (laws : KindLaws ask.kind) (m : Pricing) where
  -- what is shown of the rests from the place (j, t), where o is the interval from the first note
  abbrev FromPlace : (Place → m.Meaning → Type 0) → (j t : ℕ) → Option ℤ → Type 0
  FromPlace Q j t o = (c : ℤ) → o ≡ Some c → Admits ask.mode c → (a : m.Meaning) → Rest m ask c 1 j t a → Q (record { column = j; track = t }) a

  pub nowhere : (Q : Place → m.Meaning → Type 0) (j t : ℕ) → FromPlace Q j t None
  nowhere Q j t c e = let z : ◌≡◌ {A = ℕ} 0 1 = cc in absurd (omega arith)

  pub one_shift : (Q : Place → m.Meaning → Type 0) (j t : ℕ) (c : ℤ) → (Admits ask.mode c → (a : m.Meaning) → Rest m ask c 1 j t a → Q (record { column = j; track = t }) a) → FromPlace Q j t (Some c)
  one_shift Q j t c h c' e = let p : c ≡ c' = cc in subst (λ z. Admits ask.mode z → (a : m.Meaning) → Rest m ask z 1 j t a → Q (record { column = j; track = t }) a) p h

  abbrev from_place : (Q : Place → m.Meaning → Type 0) → ((x : Place) (a : m.Meaning) → Test (Q x a)) → (j t : ℕ) (o : Option ℤ) → Test (FromPlace Q j t o)
  from_place Q test j t None = record { holds = true; shows = λ v. nowhere Q j t }
  from_place Q test j t (Some c) = so (one_shift Q j t c) (when (admits ask.mode c) (rests ask laws m c (length ask.query) 1 j t (omega arith) (Q (record { column = j; track = t })) (test (record { column = j; track = t }))))

  pub each_way : (Q : Place → m.Meaning → Type 0) → ((j t : ℕ) → Inside ask.score j t → FromPlace Q j t (ask.kind.interval (note ask.query 1) (symbol ask.score j t))) → (c : ℤ) (ps : List Piece) → Way ask c ps → Q (beginning ps) (price_of m ask.score ps)
  each_way Q h c [] w = absurd w.splits
  each_way Q h c (p ∷ ps) w =
      let g = splits_first ask c 1 p ps w.splits in
      h p.column p.track (match_place ask laws c 1 p.column p.track g) c g w.admitted (price_of m ask.score (p ∷ ps)) (rest_of_splits m ask c 1 p ps w.splits)

  abbrev ways : (Q : Place → m.Meaning → Type 0) → ((x : Place) (a : m.Meaning) → Test (Q x a)) → Test ((c : ℤ) (ps : List Piece) → Way ask c ps → Q (beginning ps) (price_of m ask.score ps))
  ways Q test = so (each_way Q) (each_place ask.score (λ j t. FromPlace Q j t (ask.kind.interval (note ask.query 1) (symbol ask.score j t))) (λ j t. from_place Q test j t (ask.kind.interval (note ask.query 1) (symbol ask.score j t))))

  -- there is none
  abbrev pub no_way : Test (TellsNone ask m)
  no_way = so (λ h. record { answers = λ before. (h, refl) }) (ways (λ x a. ⊥) (λ x a. never))

  module _ (f : Found m.Meaning) (pieces : List Piece) where
    -- a way costs no less than what is told, and begins no earlier where it costs no more
    abbrev NoBetter : Place → m.Meaning → Type 0
    NoBetter x a = T (m.not_above f.price a) × (T (m.not_above a f.price) → NotAfter f.place x)

    abbrev no_better : (x : Place) (a : m.Meaning) → Test (NoBetter x a)
    no_better x a = (true_of (m.not_above f.price a)).test and when (true_of (m.not_above a f.price)) (not_after f.place x)

    -- these pieces and what is told of them are right
    abbrev pub right : Test (Tells ask m f pieces)
    right =
        so
        (λ h.
        let price = h.1.1.1 in
        let count = price.1.1.0 in
        let better = price.1.1.1 in
        record {
          answers =
              λ before l.
              record {
                pieces = pieces;
                way = record { admitted = h.0; splits = h.1.0 };
                place_is = h.1.1.0;
                price_is = price.0;
                price_deep = price.1.0;
                least = λ c ps w. (better c ps w).0;
                earliest = λ c ps w e. (better c ps w).1 e.0;
                count_is = count;
                room = omega arith;
                list_is = ap (λ n. pieces ++ drop n before) (sym count);
              };
        })
        ((admits ask.mode f.shift).test
        and splits ask f.shift 1 pieces
        and same_place f.place (beginning pieces)
        and ((true_of (m.not_above (price_of m ask.score pieces) f.price)).test and (true_of (m.not_above f.price (price_of m ask.score pieces))).test)
        and (at_most (m.depth f.price) 63).test
        and (equal f.count (length pieces)).test
        and ways NoBetter no_better)
