use Rattle.std.proofs.Common.{map, vec_items}
use Rattle.finder.specs.Ledger.{command}
use Rattle.finder.specs.Trying.{ledger_of, prices_of}
use Rattle.finder.proofs.Running.{RunTo}
use Rattle.finder.proofs.performing.perform.Given as goal

abbrev pub invariant-loop-call : goal.invariant-loop-call
invariant-loop-call g l = RunTo g.S.Symbol.kind g.S.Symbol.byte (prices_of g.P.Price.pricing g.P.Price.meaning g.R.Price.pricing g.R.Price.meaning) (ledger_of g.S.Symbol.byte l.initial.session) (map (command g.S.Symbol.byte) l.calls) l.call-index (ledger_of g.S.Symbol.byte l.session) (vec_items l.outcomes)
