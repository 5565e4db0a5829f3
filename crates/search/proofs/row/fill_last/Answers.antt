use Rattle.std.proofs.Common.{◌+◌, map, length, get_or, set, Some, sym, ap, ◌∙◌, subst, arith}
use Rattle.search.proofs.Valuing.{rank_in, turn}
use Rattle.search.proofs.RowFilling.{Emptied, emptied_more, emptied_least}
use Rattle.search.proofs.row.fill_last.Goals as goal

pub store-requires : goal.store-requires
store-requires g c =
    let x = c.args.ground.now in
    let bytes = map g.S.Symbol.byte x.tally.cells.now in
    let old = c.loop-place.invariant in
    let s = c.in-Some.ensures.steps in
    let t = turn bytes x.previous.now x.linked c.args.row.byte c.loop-place.place-iterator.mark c.in-Some.place c.next.new.self.mark old.1 old.2 s.0 (s.1 ∙ ap (λ z. get_or z c.in-Some.place 0) old.0) in
    rank_in bytes x.after.now x.ranked c.args.row.byte c.args.row.offset (length c.loop-place.prices) c.in-Some.place (omega (arith, c.requires, c.loop-place.auto.prices)) t.inside t.is

pub loop-place-preserved : goal.loop-place-preserved
loop-place-preserved g c =
    let m = g.P.Price.pricing in
    let meaning = g.P.Price.meaning in
    let x = c.args.ground.now in
    let bytes = map g.S.Symbol.byte x.tally.cells.now in
    let b = c.args.row.byte in
    let offset = c.args.row.offset in
    let prices = c.loop-place.prices in
    let q = c.in-Some.place in
    let w = c.next.new.self.mark in
    let old = c.loop-place.invariant in
    let s = c.in-Some.ensures.steps in
    let t = turn bytes x.previous.now x.linked b c.loop-place.place-iterator.mark q w old.1 old.2 s.0 (s.1 ∙ ap (λ z. get_or z q 0) old.0) in
    let a = c.empty.result in (
      s.2 ∙ old.0,
      omega (arith, t.mark.low, t.inside),
      t.mark.holds,
      subst (λ z. Emptied m meaning bytes b offset z w) (sym (c.store.ensures ∙ ap (λ z. set prices (offset + z) (Some a)) (x.ranked q t.inside)))
          (emptied_more m meaning bytes b offset prices q w t.inside t.is (omega (arith, c.requires, c.loop-place.auto.prices)) a c.empty.ensures t.mark (subst (Emptied m meaning bytes b offset prices) s.0 old.3)),
    )

pub returns : goal.returns
returns g c =
    let x = c.args.ground.now in
    let bytes = map g.S.Symbol.byte x.tally.cells.now in
    emptied_least g.P.Price.pricing g.P.Price.meaning bytes c.args.row.byte c.args.row.offset x.tracks x.some_track g.met.P.Price.lawful c.loop-place.prices
    (subst (Emptied g.P.Price.pricing g.P.Price.meaning bytes c.args.row.byte c.args.row.offset c.loop-place.prices) c.in-None.ensures.steps c.loop-place.invariant.3)
