use Rattle.std.proofs.Common.{◌≡◌, map}
use Rattle.search.proofs.Counts.{top, sized}
use Rattle.search.proofs.tally.Tally.workspace.Given as goal

abbrev pub invariant-loop-b : goal.invariant-loop-b
invariant-loop-b g l = l.size ≡ top (sized g.S.Symbol.kind l.mode (map g.S.Symbol.byte l.self.cells.now) (map g.S.Symbol.byte l.query.notes.now)) l.b
