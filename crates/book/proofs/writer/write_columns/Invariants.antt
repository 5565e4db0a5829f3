use Rattle.std.proofs.Common.{◌≡◌, ◌+◌, ◌*◌, ◌++◌, map, take, drop}
use Rattle.std.specs.Slice.Iter.{chunks_rest, chunks_size}
use Rattle.book.specs.Grids.{column_blocks}
use Rattle.book.proofs.Chunking.{Left}
use Rattle.book.proofs.writer.write_columns.Given as goal

abbrev pub invariant-loop-m : goal.invariant-loop-m
invariant-loop-m g l =
    (goal.iterator-loop-m g).can_next l.m-iterator
    × (goal.iterator-loop-m g).is_finite l.m-iterator
    × Left l.symbols l.a_block l.m-iterator.count (chunks_size l.m-iterator.iter) (chunks_rest l.m-iterator.iter)
    × (l.out ≡ take 512 l.initial.out ++ column_blocks g.S.Symbol.kind.number l.a_block 1 l.m-iterator.count (map g.S.Symbol.byte l.symbols) ++ drop (512 * (1 + l.m-iterator.count)) l.initial.out)
