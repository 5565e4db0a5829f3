use Rattle.std.proofs.Common.{◌≡◌, ◌*◌, ◌≤◌, map, take}
use Rattle.search.specs.Workspace.{triples}
use Rattle.search.proofs.tally.Tally.triples.Given as goal

abbrev pub invariant-loop-s : goal.invariant-loop-s
invariant-loop-s g l = (l.sum ≤ 65536 * l.s-index) × (l.sum ≡ triples g.S.Symbol.kind l.by (map g.S.Symbol.byte l.self.cells.now) (take l.s-index (map g.S.Symbol.byte l.query.notes.now)))
