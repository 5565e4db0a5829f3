use Rattle.std.proofs.Common.{◌≡◌, map, take, vec_items}
use Rattle.slip.specs.SlipReading.{Asks}
use Rattle.slip.specs.Slips.{Inquiry}
use Rattle.slip.proofs.view.Slip.query.Given as goal

abbrev pub invariant-loop-b : goal.invariant-loop-b
invariant-loop-b g l = (q : Inquiry) → Asks g.S.Symbol.kind l.self q → map g.S.Symbol.byte (vec_items l.query) ≡ take l.b-index q.query
