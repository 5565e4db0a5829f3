use Rattle.search.proofs.Moving.{Moved}
use Rattle.search.proofs.transposing.put_transposed.Given as goal

abbrev pub invariant-loop-i : goal.invariant-loop-i
invariant-loop-i g l = Moved g.S.Symbol.byte g.S.Symbol.kind l.by l.query l.initial.out l.out l.i
