-- The laws of answers.
use Rattle.std.proofs.Common.{◌≡◌, ℕ, ◌≤◌, T, List, [], ◌∷◌, ℤ, sym, refl, ◌∙◌, subst, inl, inr, arith}
use Rattle.notation.specs.Kind.{follow, Lawful as KindLaws}
use Rattle.price.specs.Pricing.{Pricing, Equal, Lawful as PriceLaws}
use Rattle.splitting.specs.declared.Answer.{Answer}
use Rattle.splitting.specs.declared.Answer.TheVariants.{None as none, Found as found}
use Rattle.splitting.specs.declared.Found.{Found}
use Rattle.notation.specs.declared.mode.Mode.TheVariants.{AnyTransposition}
use Rattle.splitting.specs.declared.Piece.{Piece}
use Rattle.splitting.specs.declared.Place.{Place}
use Rattle.splitting.specs.Score.{Score, Question, Admits, Matches, Transposed}
use Rattle.splitting.specs.Splitting.{price_of}
use Rattle.splitting.specs.Answer.{beginning, NotAfter, Way, Right, Answers}
use Rattle.splitting.specs.Rest.{Begins, begins}
use Rattle.splitting.specs.Laws.{Covered, grown, asking}
use Rattle.splitting.specs.AnswerLaws.{AnswersUnique, GrowthHarmless, Moved, TransposedAlike, AnswersFromRests}
use Rattle.splitting.proofs.Rests.{splits_first, rest_of_splits, splits_of_rest}
use Rattle.splitting.proofs.Depths.{price_depth}
use Rattle.splitting.proofs.Least.{self}
use Rattle.splitting.proofs.Kept.{some_same, splits_grown, price_grown, moved_shift, splits_moved, splits_back, one_transposed}

-- places each not after the other are one
one_place : (x y : Place) → NotAfter x y → NotAfter y x → x ≡ y
one_place x y (inl p) (inl q) = absurd (omega arith)
one_place x y (inl p) (inr q) = absurd (omega arith)
one_place x y (inr p) (inl q) = absurd (omega arith)
one_place x y (inr p) (inr q) = let e = p.0 in let f : x.track ≡ y.track = omega arith in λ z. record { column = e z; track = f z }

way_deep : {m : Pricing} {ask : Question} {c : ℤ} {ps : List Piece} → PriceLaws m → Covered ask → Way ask c ps → m.depth (price_of m ask.score ps) ≤ 63
way_deep {m} {ask} {c} {ps} prices covered w = price_depth m prices ask covered c 1 ps w.splits

-- a right answer, and any way of its question that costs no more than a
module _ {m : Pricing} {ask : Question} {f : Found m.Meaning} {before after : List Piece} {c : ℤ} {ps : List Piece} (prices : PriceLaws m) (covered : Covered ask) (r : Right ask m f before after) (w : Way ask c ps) (a : m.Meaning) (deep : m.depth a ≤ 63) (costs : T (m.not_above (price_of m ask.score ps) a)) where
  -- what is told costs no more than a
  at_most : T (m.not_above f.price a)
  at_most = prices.trans f.price (price_of m ask.score ps) a r.price_deep (way_deep prices covered w) deep (r.least c ps w) costs

  -- and where a is not above the price told, the way begins no earlier
  no_earlier : T (m.not_above a f.price) → NotAfter f.place (beginning ps)
  no_earlier l = r.earliest c ps w (prices.trans (price_of m ask.score ps) a f.price (way_deep prices covered w) deep r.price_deep costs l, r.least c ps w)

-- two questions about one score, each with a right answer whose pieces are a way of the other
module _ {m : Pricing} {ask ask' : Question} {f g : Found m.Meaning} {before after before' after' : List Piece} {c c' : ℤ} (prices : PriceLaws m) (covered : Covered ask) (covered' : Covered ask') (one-score : ask.score ≡ ask'.score) (r : Right ask m f before after) (s : Right ask' m g before' after') (w : Way ask c s.pieces) (w' : Way ask' c' r.pieces) where
  costs : T (m.not_above (price_of m ask.score s.pieces) g.price)
  costs = subst (λ x. T (m.not_above (price_of m x s.pieces) g.price)) (sym one-score) s.price_is.0

  costs' : T (m.not_above (price_of m ask'.score r.pieces) f.price)
  costs' = subst (λ x. T (m.not_above (price_of m x r.pieces) f.price)) one-score r.price_is.0

  equal_prices : Equal m f.price g.price
  equal_prices = (at_most prices covered r w g.price s.price_deep costs, at_most prices covered' s w' f.price r.price_deep costs')

  one_beginning : beginning r.pieces ≡ beginning s.pieces
  one_beginning =
      one_place (beginning r.pieces) (beginning s.pieces)
      (subst (λ z. NotAfter z (beginning s.pieces)) r.place_is (no_earlier prices covered r w g.price s.price_deep costs equal_prices.1))
      (subst (λ z. NotAfter z (beginning r.pieces)) s.place_is (no_earlier prices covered' s w' f.price r.price_deep costs' equal_prices.0))

  -- they tell equal prices and one place
  agree : Equal m f.price g.price × (f.place ≡ g.place) × (beginning r.pieces ≡ beginning s.pieces)
  agree = (equal_prices, r.place_is ∙ one_beginning ∙ sym s.place_is, one_beginning)

-- the transposition at the first note is told by its place
shift_at : {ask : Question} {c c' : ℤ} (ps qs : List Piece) → Way ask c ps → Way ask c' qs → beginning ps ≡ beginning qs → c ≡ c'
shift_at [] qs w w' e = absurd w.splits
shift_at (p ∷ ps) [] w w' e = absurd w'.splits
shift_at {ask} {c} {c'} (p ∷ ps) (q ∷ qs) w w' e =
    some_same (subst (λ (x : Place). Matches ask c 1 x.column x.track) e (splits_first ask c 1 p ps w.splits)) (splits_first ask c' 1 q qs w'.splits)

module _ (m : Pricing) where
  pub unique : AnswersUnique m
  unique prices ask covered none none before after before' after' r s = tt
  unique prices ask covered none (found g) before after before' after' r s = r.0 g.shift s.pieces s.way
  unique prices ask covered (found f) none before after before' after' r s = s.0 f.shift r.pieces r.way
  unique prices ask covered (found f) (found g) before after before' after' r s = let a = agree prices covered covered refl r s s.way r.way in (a.0, a.1, shift_at r.pieces s.pieces r.way s.way a.2)

-- a way stays one when columns are appended and the limit is raised
way_grown : {ask : Question} {c : ℤ} {ps : List Piece} → KindLaws ask.kind → (more : Score) (limit : ℕ) → ask.limit ≤ limit → Way ask c ps → Way (grown ask more limit) c ps
way_grown {ask} {c} {ps} laws more limit wide w = record { admitted = w.admitted; splits = splits_grown ask laws more c limit wide 1 ps w.splits }

module _ (m : Pricing) where
  pub harmless : GrowthHarmless m
  harmless prices ask more limit covered wide none y before after before' after' r s = tt
  harmless prices ask more limit covered wide (found f) none before after before' after' r s = s.0 f.shift r.pieces (way_grown covered.kind_laws more limit wide r.way)
  harmless prices ask more limit covered wide (found f) (found g) before after before' after' r s =
      at_most prices covered s (way_grown covered.kind_laws more limit wide r.way) f.price r.price_deep
      (subst (λ a. T (m.not_above a f.price)) (sym (price_grown ask covered.kind_laws more f.shift m 1 r.pieces r.way.splits)) r.price_is.0)

any_admitted : (ask : Question) → ask.mode ≡ AnyTransposition → (c : ℤ) → Admits ask.mode c
any_admitted ask any c = subst (λ x. Admits x c) (sym any) tt

-- a way of the transposed query is one of the query, and the other way round
module _ {ask : Question} {c : ℤ} {ps : List Piece} (laws : KindLaws ask.kind) (any : ask.mode ≡ AnyTransposition) (d : ℤ) (query : List ℕ) (moved : Transposed ask.kind d ask.query query) where
  way_back : Way (asking ask query) c ps → Way ask (follow ask.kind.following d c) ps
  way_back w = record { admitted = any_admitted ask any (follow ask.kind.following d c); splits = splits_back ask laws d query moved c 1 ps w.splits }

  way_moved : Way ask c ps → (c' : ℤ) × Way (asking ask query) c' ps
  way_moved w =
      let n = moved_shift ask laws d query moved c 1 ps w.splits in
      (n.0, record { admitted = any_admitted ask any n.0; splits = splits_moved ask laws d query moved c n.0 n.1 n.2 1 ps w.splits })

module _ (m : Pricing) (prices : PriceLaws m) (ask : Question) (covered : Covered ask) (any : ask.mode ≡ AnyTransposition) (d : ℤ) (query : List ℕ) (moved : Transposed ask.kind d ask.query query) where
  moved_covered : Covered (asking ask query)
  moved_covered = record { kind_laws = covered.kind_laws; few = covered.few; short = omega (arith, covered.short, moved.as_long) }

  moved_alike : (x y : Answer m.Meaning) (before after before' after' : List Piece) → Answers ask m x before after → Answers (asking ask query) m y before' after' → Moved m ask.kind d x y
  moved_alike none none before after before' after' r s = tt
  moved_alike none (found g) before after before' after' r s = r.0 (follow ask.kind.following d g.shift) s.pieces (way_back covered.kind_laws any d query moved s.way)
  moved_alike (found f) none before after before' after' r s = let w' = way_moved covered.kind_laws any d query moved r.way in s.0 w'.0 r.pieces w'.1
  moved_alike (found f) (found g) before after before' after' r s =
      let w = way_back covered.kind_laws any d query moved s.way in
      let w' = way_moved covered.kind_laws any d query moved r.way in
      let a = agree prices covered moved_covered refl r s w w'.1 in
      (a.0, a.1, sym (shift_at r.pieces s.pieces r.way w a.2))

pub alike : (m : Pricing) → TransposedAlike m
alike m = record { alike = moved_alike m; once = one_transposed }

-- a way, and a rest from the first note
module _ (m : Pricing) (ask : Question) where
  rest_of_way : (c : ℤ) (ps : List Piece) → Way ask c ps → Begins m ask (beginning ps) (price_of m ask.score ps)
  rest_of_way c [] w = absurd w.splits
  rest_of_way c (p ∷ ps) w = begins c w.admitted (rest_of_splits m ask c 1 p ps w.splits)

  way_of_rest : (x : Place) (a : m.Meaning) → Begins m ask x a → (c : ℤ) × (ps : List Piece) × Way ask c ps × (beginning ps ≡ x) × (price_of m ask.score ps ≡ a)
  way_of_rest x a (begins c admitted r) =
      let s = splits_of_rest m ask c r in
      (c, s.head ∷ s.tail, record { admitted = admitted; splits = s.splits }, λ z. record { column = s.column_is z; track = s.track_is z }, s.price_is)

pub from_rests : (m : Pricing) → AnswersFromRests m
from_rests m prices ask covered =
    record {
      rest_of_way = rest_of_way m ask;
      way_of_rest = way_of_rest m ask;
      told_rightly =
          λ c ps w least earliest before room.
          let equal = self m prices (price_of m ask.score ps) (way_deep prices covered w) in
          record {
            pieces = ps;
            way = w;
            place_is = refl;
            price_is = (equal, equal);
            price_deep = way_deep prices covered w;
            least = λ c' qs v. least (beginning qs) (price_of m ask.score qs) (rest_of_way m ask c' qs v);
            earliest = λ c' qs v e. earliest (beginning qs) (price_of m ask.score qs) (rest_of_way m ask c' qs v) e.0;
            count_is = refl;
            room = room;
            list_is = refl;
          };
    }
