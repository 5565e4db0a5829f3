use Rattle.std.proofs.Common.{◌≡◌, ◌-◌, ◌<◌, ◌≤◌, map, get_or}
use Rattle.notation.specs.Kind.{rest}
use Rattle.price.specs.History.{History}
use Rattle.search.specs.Rows.{value, Fed, Onward}
use Rattle.search.proofs.row.take_in.Given as goal

abbrev pub invariant-loop-ahead : goal.invariant-loop-ahead
invariant-loop-ahead g l =
    (l.ahead ≤ l.start)
    × (0 < l.ahead → get_or (map g.S.Symbol.byte l.ground.tally.cells.now) (l.ahead - 1) rest ≡ l.row.byte)
    × ((h : History _) → Fed g.P.Price.pricing g.P.Price.meaning (map g.S.Symbol.byte l.ground.tally.cells.now) l.ground.tracks l.row.byte (value (map g.S.Symbol.byte l.ground.tally.cells.now) l.row.byte l.row.offset l.prices) l.initial.window l.start h → l.from ≤ h.position → (h' : History _) × Fed g.P.Price.pricing g.P.Price.meaning (map g.S.Symbol.byte l.ground.tally.cells.now) l.ground.tracks l.row.byte (value (map g.S.Symbol.byte l.ground.tally.cells.now) l.row.byte l.row.offset l.prices) l.window l.ahead h' × Onward l.from h h')

abbrev pub decreases-loop-ahead : goal.decreases-loop-ahead
decreases-loop-ahead g l = l.ahead
