use Rattle.std.proofs.Common.{◌≡◌, map, length}
use Rattle.search.specs.Tables.{Linked, Marks}
use Rattle.search.proofs.table.link_places.Given as goal

abbrev pub invariant-loop-p : goal.invariant-loop-p
invariant-loop-p g l = (length l.last ≡ 256) × Marks (map g.S.Symbol.byte l.tally.cells.now) l.last l.p × Linked (map g.S.Symbol.byte l.tally.cells.now) l.previous l.p
