use Rattle.search.proofs.Counts.{Counts}
use Rattle.search.proofs.tally.Tally.new.Given as goal

abbrev pub invariant-loop-s : goal.invariant-loop-s
invariant-loop-s g l = Counts g.S.Symbol.byte l.cells l.counts l.s-index
