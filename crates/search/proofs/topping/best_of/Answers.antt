use Rattle.std.proofs.Common.{◌≡◌, map, length, get_or, sym, ap, ◌∙◌, subst, arith}
use Rattle.search.specs.Rows.{value}
use Rattle.search.specs.Tables.{Mark}
use Rattle.search.specs.Topmost.{Topmost}
use Rattle.search.proofs.Bettering.{top_lower}
use Rattle.search.proofs.Valuing.{value_some, turn}
use Rattle.search.proofs.topping.best_of.Goals as goal

pub loop-place-init : goal.loop-place-init
loop-place-init g c =
    let bytes = map g.S.Symbol.byte c.args.ground.now.tally.cells.now in
    let b = c.args.row.byte in
    let x = c.args.ground.now in
    let at : c.into_iter-place-iterator.result.mark ≡ get_or x.last.now b 0 = cc in
    let begun = subst (Mark bytes b (length bytes)) (sym at) (x.marks b (omega arith)) in
    (cc, begun.low, begun.holds, λ shallow q a l e. let s = value_some bytes b c.args.row.offset c.args.prices.now q a e in begun.none q l s.0 s.1)

pub loop-place-preserved : goal.loop-place-preserved
loop-place-preserved g c =
    let m = g.P.Price.pricing in
    let meaning = g.P.Price.meaning in
    let x = c.args.ground.now in
    let bytes = map g.S.Symbol.byte x.tally.cells.now in
    let b = c.args.row.byte in
    let prices = c.args.prices.now in
    let row = value bytes b c.args.row.offset prices in
    let q = c.in-Some.place in
    let w = c.next.new.self.mark in
    let old = c.loop-place.invariant in
    let s = c.in-Some.ensures.steps in
    let t = turn bytes x.previous.now x.linked b c.loop-place.place-iterator.mark q w old.1 old.2 s.0 (s.1 ∙ ap (λ z. get_or z q 0) old.0) in (
      s.2 ∙ old.0,
      omega (arith, t.mark.low, t.inside),
      t.mark.holds,
      λ shallow. top_lower m meaning bytes b c.args.row.offset prices q w t.mark c.better-best.result
          (c.better-best.ensures row shallow (sym c.price_at.ensures) (subst (Topmost m meaning row c.loop-place.best) s.0 (old.3 shallow))),
    )
