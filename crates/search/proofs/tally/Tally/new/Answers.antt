use Rattle.std.proofs.Common.{eqb, map, length, take, ap, arith}
use Rattle.std.proofs.lemmas.List.{length-map, length-take-le}
use Rattle.std.proofs.lemmas.List.Sums.{count_by-le-length}
use Rattle.search.proofs.Asking.{few_symbols}
use Rattle.search.proofs.Counts.{counts_none, counts_more}
use Rattle.search.proofs.tally.Tally.new.Goals as goal

pub loop-s-init : goal.loop-s-init
loop-s-init g c = counts_none g.S.Symbol.byte c.symbols-cells.result.now

pub loop-s-preserved : goal.loop-s-preserved
loop-s-preserved g c =
    counts_more g.S.Symbol.byte c.symbols-cells.result.now c.loop-s.counts c.loop-s.s-index c.write.result c.s-item.result c.loop-s-test.true c.s-item.is c.write.ensures c.write.type_inv c.loop-s.invariant

pub overflow_add-counts : goal.overflow_add-counts
overflow_add-counts g c =
    let xs = c.symbols-cells.result.now in
    let i = c.loop-s.s-index in
    let b = c.write.result in
    let front = map g.S.Symbol.byte (take i xs) in
    omega (arith, c.loop-s.invariant.1 b c.write.type_inv, count_by-le-length (eqb b) front, length-map (take i xs) g.S.Symbol.byte, length-take-le i xs (omega arith), few_symbols c.args.grid.now, ap length c.symbols-cells.ensures)
