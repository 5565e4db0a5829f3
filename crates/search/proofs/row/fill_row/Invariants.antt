use Rattle.std.proofs.Common.{◌≡◌, map}
use Rattle.search.proofs.RowFilling.{Filling}
use Rattle.search.proofs.row.fill_row.Given as goal

abbrev pub invariant-loop-place : goal.invariant-loop-place
invariant-loop-place g l =
    (l.place-iterator.previous.now ≡ l.ground.previous.now)
    × Filling g.P.Price.pricing g.P.Price.meaning (map g.S.Symbol.byte l.ground.tally.cells.now) l.ground.tracks l.row.byte l.row.offset l.next.byte l.next.offset l.limit l.initial.prices l.initial.steps l.prices l.steps l.window l.place-iterator.mark l.ahead
