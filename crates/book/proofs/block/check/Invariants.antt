use Rattle.std.proofs.Common.{◌≡◌, ◌*◌, ◌≤◌, take}
use Rattle.book.specs.Blocks.{weighted}
use Rattle.book.proofs.block.check.Given as goal

abbrev pub invariant-loop-i : goal.invariant-loop-i
invariant-loop-i l = (l.sum ≡ weighted 1 (take l.i l.bytes)) × (l.sum ≤ 129540 * l.i)
