use Rattle.std.proofs.Common.{◌≡◌, ◌+◌, ◌-◌, ◌<◌, map, length, get_or, sym, subst, arith}
use Rattle.std.proofs.lemmas.List.{length-map}
use Rattle.price.specs.History.{put_in}
use Rattle.search.specs.Tables.{Mark}
use Rattle.search.specs.Rows.{value, entry_at, Fed}
use Rattle.search.proofs.Valuing.{value_byte}
use Rattle.search.proofs.Feeding.{fed_lower, fed_by, fed_skip}
use Rattle.search.proofs.row.take_in.Goals as goal
use Rattle.search.proofs.row.take_in.Goals.{in-Some, in_default}

pub loop-ahead-preserved : goal.loop-ahead-preserved
loop-ahead-preserved g c =
    let byte = g.S.Symbol.byte in
    let xs = c.args.ground.now.tally.cells.now in
    let bytes = map byte xs in
    let b = c.args.row.byte in
    let tracks = c.args.ground.now.tracks in
    let prices = c.args.prices.now in
    let row = value bytes b c.args.row.offset prices in
    let matched = value_byte bytes b c.args.row.offset prices in
    let q = c.loop-ahead.ahead - 1 in
    let n = length-map xs byte in
    let within : q < length bytes = omega (arith, c.loop-ahead.invariant.0, c.requires.start_within) in
    let w = get_or c.args.ground.now.previous.now q 0 in
    let mark : Mark bytes b q w = subst (λ z. Mark bytes z q w) (c.loop-ahead.invariant.1 c.loop-ahead-test.true) (c.args.ground.now.linked q within) in
    let one = c.args.ground.now.some_track in
    let next : c.loop-ahead.ahead ≡ q + 1 = omega arith in (
      omega (arith, mark.low, c.loop-ahead.invariant.0),
      mark.holds,
      λ h fed on.
          let old = c.loop-ahead.invariant.2 h fed on in
          let f = subst (λ z. Fed g.P.Price.pricing g.P.Price.meaning bytes tracks b row c.loop-ahead.window z old.0) next old.1 in
          elim c.match-price_at.branch [
            | in-Some v ↦
                let e = entry_at tracks q v.in-Some.price in
                let is : row q ≡ _ = sym v.in-Some.ensures in (
                  put_in old.0 c.args.from e,
                  fed_lower g.P.Price.pricing g.P.Price.meaning bytes tracks b row one matched q w mark.low mark.none c.match-price_at.window (put_in old.0 c.args.from e)
                      (subst (λ z. Fed g.P.Price.pricing g.P.Price.meaning bytes tracks b row z q (put_in old.0 c.args.from e)) (sym v.window-is)
                      (fed_by g.P.Price.pricing g.P.Price.meaning bytes tracks b row one matched c.loop-ahead.window v.put.new.self q v.in-Some.price (omega arith) is c.args.from (omega (arith, c.if-ahead-ground.true)) old.0 old.2.position f v.put.result v.put.ensures)),
                  record { position = omega arith; limit = old.2.limit; memory = old.2.memory },
                )
            | in_default v ↦ (
              old.0,
              fed_lower g.P.Price.pricing g.P.Price.meaning bytes tracks b row one matched q w mark.low mark.none c.match-price_at.window old.0
                  (subst (λ z. Fed g.P.Price.pricing g.P.Price.meaning bytes tracks b row z q old.0) (sym v.window-is)
                  (fed_skip g.P.Price.pricing g.P.Price.meaning bytes tracks b row one matched c.loop-ahead.window q (sym v.in_default.ensures) old.0 f)),
              old.2,
            )
          ],
    )
