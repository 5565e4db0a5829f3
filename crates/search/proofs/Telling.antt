-- The answer, from the best rest that is settled on and the pieces that are written.
use Rattle.std.proofs.Common.{◌≡◌, ℕ, ◌<◌, ◌≤◌, T, eqb, List, ◌++◌, length, get_or, drop, None, sum_by, count_by, Option, sym, ap, ◌∙◌, subst, arith}
use Rattle.notation.specs.Kind.{Kind, rest, Lawful as KindLaws}
use Rattle.notation.specs.declared.mode.Mode.{Mode}
use Rattle.price.specs.Pricing.{Pricing, Lawful as PriceLaws}
use Rattle.splitting.specs.Score.{Question, Admits, note}
use Rattle.splitting.specs.Splitting.{price_of}
use Rattle.splitting.specs.Answer.{Way, NoWay, Right, NotAfter, beginning}
use Rattle.splitting.specs.Rest.{Begins}
use Rattle.splitting.specs.declared.Piece.{Piece}
use Rattle.splitting.specs.declared.Place.{Place}
use Rattle.splitting.proofs.AnswerLaws.{from_rests}
use Rattle.search.specs.Candidates.{Asked, Candidate, OfAll, Settled}
use Rattle.search.specs.Resting.{offset_of}
use Rattle.search.specs.Rows.{column_of, track_of}
use Rattle.search.specs.Topmost.{place_at}
use Rattle.search.specs.Trails.{Trail, Written}
use Rattle.search.specs.Workspace.{workspace}
use Rattle.search.specs.declared.candidates.Choice.{Choice}
use Rattle.search.proofs.Leading.{room, held}
use Rattle.search.proofs.Valuing.{value_some}

module _ (bytes query : List ℕ) (kind : Kind) (mode : Mode) (limit tracks : ℕ) {P : Type 0} (m : Pricing) (laws-of : PriceLaws m) (meaning : P → m.Meaning) (ask : Question) (asked : Asked ask bytes tracks kind mode limit query) where
  -- where the query can be found nowhere there is no way
  pub none_told : OfAll m meaning ask tracks None → NoWay ask
  none_told none = λ c ps w. none (beginning ps) (price_of m ask.score ps) ((from_rests m laws-of ask asked.posed.covered).rest_of_way c ps w)

  module _ (want : List ℕ) (prices : List (Option P)) (steps : List ℕ) (o : Choice P) (s : Settled m meaning ask tracks bytes limit want prices steps o) where
    pub settled_trail : Trail m meaning bytes tracks want steps o.place ask o.shift prices o.price
    settled_trail = record { posed = asked.posed; wanted = s.wanted; right = λ k l. s.rows ask o.shift asked.posed asked.limit_is s.wanted k (omega arith) l; stands = s.row_is }

    -- the rows under the transposition have room in the workspace
    pub settled_room : 1 ≤ tracks → KindLaws kind → 1 ≤ length query → sum_by (λ b. count_by (eqb b) bytes) want ≤ workspace kind mode bytes query
    settled_room one laws some =
        let b = get_or want 0 0 in
        let n = ap length asked.query_is in
        let heard : (i x : ℕ) → ask.kind.interval (get_or ask.query i rest) x ≡ kind.interval (get_or query i rest) x = λ i x z. (asked.kind_is z).interval (get_or (asked.query_is z) i rest) x in
        let leads = s.wanted.each 0 (omega (arith, s.wanted.as_long)) in
        let there = held ask bytes tracks one asked.posed o.shift (column_of tracks o.place) (track_of tracks o.place) (meaning o.price) b s.best.stands.rest_is leads in
        let candidate : Candidate kind mode bytes (note query 1) b o.shift = record { leads = sym (heard 0 b) ∙ leads; admitted = subst (λ z. Admits z o.shift) asked.mode_is s.best.stands.admitted; held = there } in
        room kind laws mode bytes query want b o.shift (s.wanted.as_long ∙ n) candidate (λ i l. sym (heard i (get_or want i 0)) ∙ s.wanted.each i (omega (arith, s.wanted.as_long)))

    pub settled_place : o.place < length bytes
    settled_place = (value_some bytes (get_or want 0 0) (offset_of bytes want 0) prices o.place o.price s.row_is).0

    -- what is found is told rightly
    pub found_told : (count : ℕ) (before after : List Piece) → Written m ask o.shift (place_at tracks o.place) (meaning o.price) count before after → Right ask m (record { price = meaning o.price; count = count; shift = o.shift; place = place_at tracks o.place }) before after
    found_told count before after w =
        let ps = w.pieces in
        let way : Way ask o.shift ps = record { admitted = s.best.stands.admitted; splits = w.splits } in
        let least : (x : Place) (b : m.Meaning) → Begins m ask x b → T (m.not_above (price_of m ask.score ps) b) = λ x b begun. subst (λ z. T (m.not_above z b)) (sym w.price_is) (s.best.least x b begun) in
        let earliest : (x : Place) (b : m.Meaning) → Begins m ask x b → T (m.not_above b (price_of m ask.score ps)) → NotAfter (beginning ps) x = λ x b begun less. subst (λ z. NotAfter z x) (sym w.begins) (s.best.earliest x b begun (subst (λ z. T (m.not_above b z)) w.price_is less)) in
        let list : ps ++ drop (length ps) before ≡ after = ap (λ n. ps ++ drop n before) (sym w.count_is) ∙ sym w.list_is in
        subst (λ z. z) (λ j. Right ask m (record { price = w.price_is j; count = sym w.count_is j; shift = o.shift; place = w.begins j }) before (list j)) ((from_rests m laws-of ask asked.posed.covered).told_rightly o.shift ps way least earliest before (omega (arith, w.room, w.count_is)))
