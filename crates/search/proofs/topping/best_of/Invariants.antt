use Rattle.std.proofs.Common.{◌≡◌, ◌-◌, ◌<◌, ◌≤◌, map, length, get_or}
use Rattle.notation.specs.Kind.{rest}
use Rattle.search.specs.Rows.{value}
use Rattle.search.specs.Topmost.{Shallow, Topmost}
use Rattle.search.proofs.topping.best_of.Given as goal

abbrev pub invariant-loop-place : goal.invariant-loop-place
invariant-loop-place g l =
    (l.place-iterator.previous.now ≡ l.ground.previous.now)
    × (l.place-iterator.mark ≤ length (map g.S.Symbol.byte l.ground.tally.cells.now))
    × (0 < l.place-iterator.mark → get_or (map g.S.Symbol.byte l.ground.tally.cells.now) (l.place-iterator.mark - 1) rest ≡ l.row.byte)
    × (Shallow g.P.Price.pricing g.P.Price.meaning (value (map g.S.Symbol.byte l.ground.tally.cells.now) l.row.byte l.row.offset l.prices) → Topmost g.P.Price.pricing g.P.Price.meaning (value (map g.S.Symbol.byte l.ground.tally.cells.now) l.row.byte l.row.offset l.prices) l.best l.place-iterator.mark)
