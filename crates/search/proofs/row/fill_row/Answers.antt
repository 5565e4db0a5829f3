use Rattle.std.proofs.Common.{◌≡◌, ◌+◌, ◌-◌, ◌/◌, ◌≤◌, map, length, get_or, set, sym, ap, ◌∙◌, subst, arith}
use Rattle.std.proofs.lemmas.List.{length-map}
use Rattle.search.specs.Tables.{Mark}
use Rattle.search.specs.Rows.{Fed, Chosen}
use Rattle.search.proofs.Valuing.{rank_in, turn}
use Rattle.search.proofs.RowFilling.{Filling, Filled, filling_none, filling_more, next_same}
use Rattle.search.proofs.row.fill_row.Goals as goal

pub loop-place-init : goal.loop-place-init
loop-place-init g c =
    let x = c.args.ground.now in
    let bytes = map g.S.Symbol.byte x.tally.cells.now in
    let b = c.args.row.byte in
    let at : c.into_iter-place-iterator.result.mark ≡ get_or x.last.now b 0 = cc in (
      cc,
      filling_none g.P.Price.pricing g.met.P.Price.lawful g.P.Price.meaning bytes x.tracks x.some_track b c.args.row.offset c.args.next.byte c.args.next.offset c.args.limit c.requires.rows_apart c.args.sheets.now.prices.now c.args.sheets.now.steps.now
          c.new-window.result c.into_iter-place-iterator.result.mark (get_or x.last.now c.args.next.byte 0) (length c.args.sheets.now.window.now) (omega (arith, x.tally.few, length-map x.tally.cells.now g.S.Symbol.byte)) (subst (Mark bytes b (length bytes)) (sym at) (x.marks b (omega arith))) (x.marks c.args.next.byte (omega arith)) (omega (arith, c.requires.rows_apart, c.requires.room.window)) c.new-window.ensures,
    )

pub store-requires : goal.store-requires
store-requires g c =
    let x = c.args.ground.now in
    let bytes = map g.S.Symbol.byte x.tally.cells.now in
    let b = c.args.row.byte in
    let q = c.in-Some.place in
    let w = c.next.new.self.mark in
    let f = c.loop-place.invariant.1 in
    let s = c.in-Some.ensures.steps in
    let t = turn bytes x.previous.now x.linked b c.loop-place.place-iterator.mark q w f.mark_low f.mark_byte s.0 (s.1 ∙ ap (λ z. get_or z q 0) c.loop-place.invariant.0) in
    rank_in bytes x.after.now x.ranked b c.args.row.offset (length c.loop-place.prices) q (omega (arith, c.requires.room.prices, c.loop-place.auto.prices)) t.inside t.is

pub bounds-steps-at : goal.bounds-steps-at
bounds-steps-at g c =
    let x = c.args.ground.now in
    let bytes = map g.S.Symbol.byte x.tally.cells.now in
    let b = c.args.row.byte in
    let q = c.in-Some.place in
    let w = c.next.new.self.mark in
    let f = c.loop-place.invariant.1 in
    let s = c.in-Some.ensures.steps in
    let t = turn bytes x.previous.now x.linked b c.loop-place.place-iterator.mark q w f.mark_low f.mark_byte s.0 (s.1 ∙ ap (λ z. get_or z q 0) c.loop-place.invariant.0) in
    rank_in bytes x.after.now x.ranked b c.args.row.offset (length c.loop-place.steps) q (omega (arith, c.requires.room.steps, c.loop-place.auto.steps)) t.inside t.is

pub loop-place-preserved : goal.loop-place-preserved
loop-place-preserved g c =
    let m = g.P.Price.pricing in
    let meaning = g.P.Price.meaning in
    let laws = g.met.P.Price.lawful in
    let x = c.args.ground.now in
    let bytes = map g.S.Symbol.byte x.tally.cells.now in
    let tracks = x.tracks in
    let one = x.some_track in
    let b = c.args.row.byte in
    let offset = c.args.row.offset in
    let b' = c.args.next.byte in
    let offset' = c.args.next.offset in
    let limit = c.args.limit in
    let prices₀ = c.args.sheets.now.prices.now in
    let steps₀ = c.args.sheets.now.steps.now in
    let prices = c.loop-place.prices in
    let steps = c.loop-place.steps in
    let q = c.in-Some.place in
    let w = c.next.new.self.mark in
    let f = c.loop-place.invariant.1 in
    let s = c.in-Some.ensures.steps in
    let t = turn bytes x.previous.now x.linked b c.loop-place.place-iterator.mark q w f.mark_low f.mark_byte s.0 (s.1 ∙ ap (λ z. get_or z q 0) c.loop-place.invariant.0) in
    let same = next_same m laws meaning bytes tracks one b offset b' offset' limit c.requires.rows_apart prices₀ steps₀ prices f.same_prices in
    let from-is : (c.loop-place.place-iterator.mark - 1) / tracks + 1 ≡ q / tracks + 1 = ap (λ z. z / tracks + 1) (let e : c.loop-place.place-iterator.mark - 1 ≡ q = omega (arith, s.0) in e) in
    let out = c.take_in-ahead.ensures.fed f.history (subst (λ r. Fed m meaning bytes tracks b' r c.loop-place.window c.loop-place.ahead f.history) (sym same) f.fed) (omega (arith, f.position (omega (arith, s.0)), from-is)) in
    let fed = subst (λ r. Fed m meaning bytes tracks b' r c.take_in-ahead.new.window c.take_in-ahead.result out.0) same out.1 in
    let over = c.hand_over-over.ensures out.0 fed.holds out.2.position in
    let y = c.choose-price.result.0 in
    let u = c.choose-price.result.1 in
    let ch = subst (λ z. Chosen m meaning z c.hand_over-over.result y u) (c.price_at-on.ensures ∙ (λ j. same j (q + tracks))) c.choose-price.ensures in
    let old = subst (Filled m meaning bytes tracks b offset b' offset' limit prices₀ steps₀ prices steps) s.0 f.filled in
    let rank = x.ranked q t.inside in
    let low : c.take_in-ahead.result ≤ length bytes = omega (arith, c.take_in-ahead.ensures.low, f.ahead_low) in (
      s.2 ∙ c.loop-place.invariant.0,
      subst (λ i. i)
          (λ j. Filling m meaning bytes tracks b offset b' offset' limit prices₀ steps₀ (sym (c.store.ensures ∙ ap (λ z. set prices (offset + z) y) rank) j) (sym (ap (λ z. set steps (offset + z) u) rank) j) c.hand_over-over.new.window w c.take_in-ahead.result)
          (filling_more m laws meaning bytes tracks one b offset b' offset' limit c.requires.rows_apart prices₀ steps₀
          prices steps q t.inside t.is (omega (arith, c.requires.room.prices, c.loop-place.auto.prices)) (omega (arith, c.requires.room.steps, c.loop-place.auto.steps)) y u
          c.take_in-ahead.new.window c.hand_over-over.new.window c.take_in-ahead.result (λ l. (c.take_in-ahead.ensures.holds l).1) out.0 fed (out.2.limit ∙ f.limit_is)
          w t.mark c.hand_over-over.result over.0 over.1 ch low (λ l. (c.take_in-ahead.ensures.holds l).0) f.same_prices f.same_steps old),
    )

pub returns-clause-right : goal.returns-clause-right
returns-clause-right g c =
    let x = c.args.ground.now in
    let f = c.loop-place.invariant.1 in
    let all = subst (Filled g.P.Price.pricing g.P.Price.meaning (map g.S.Symbol.byte x.tally.cells.now) x.tracks c.args.row.byte c.args.row.offset c.args.next.byte c.args.next.offset c.args.limit c.args.sheets.now.prices.now c.args.sheets.now.steps.now c.loop-place.prices c.loop-place.steps) c.in-None.ensures.steps f.filled in
    all.right
