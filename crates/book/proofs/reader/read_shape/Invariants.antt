use Rattle.std.proofs.Common.{◌≡◌, ◌-◌, length}
use Rattle.book.specs.Books.{blocks_refusal, title_shape}
use Rattle.book.specs.declared.stage.Stage.TheVariants.{Title}
use Rattle.book.proofs.Walking.{from_block, Knows}
use Rattle.book.proofs.reader.read_shape.Given as goal

abbrev pub invariant-loop-n : goal.invariant-loop-n
invariant-loop-n g l =
    (blocks_refusal g.S.Symbol.kind Title 0 (length l.blocks) l.input ≡ blocks_refusal g.S.Symbol.kind l.stage l.n (length l.blocks - l.n) (from_block l.n l.input))
    × Knows l.stage l.n (title_shape l.input)
