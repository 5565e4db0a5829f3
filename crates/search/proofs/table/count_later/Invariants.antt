use Rattle.std.proofs.Common.{◌≡◌, map, length, drop}
use Rattle.search.specs.Tables.{Ranked}
use Rattle.search.specs.Workspace.{Counted}
use Rattle.search.proofs.table.count_later.Given as goal

abbrev pub invariant-loop-p : goal.invariant-loop-p
invariant-loop-p g l =
    (length l.left ≡ 256)
    × Counted l.left (drop l.p (map g.S.Symbol.byte l.tally.cells.now))
    × Ranked (map g.S.Symbol.byte l.tally.cells.now) l.after l.p
