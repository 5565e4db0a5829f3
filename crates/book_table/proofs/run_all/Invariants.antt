use Rattle.std.proofs.Common.{length}
use Rattle.book_table.proofs.run_all.Given as goal

abbrev pub decreases-loop-case : goal.decreases-loop-case
decreases-loop-case l = length l.left
