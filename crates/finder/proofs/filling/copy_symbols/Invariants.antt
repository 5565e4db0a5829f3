use Rattle.std.proofs.Common.{◌≡◌, ◌*◌, map, length}
use lib.Seq.{paste}
use Rattle.book.specs.Grids.{Grid}
use Rattle.book.specs.Reading.{Holds}
use Rattle.finder.proofs.filling.copy_symbols.Given as goal

abbrev pub invariant-loop-i : goal.invariant-loop-i
invariant-loop-i g l = (h : Grid) → Holds g.S.Symbol.kind l.book h → h.tracks ≡ l.tracks → length l.initial.memory ≡ h.columns * h.tracks → map g.S.Symbol.byte l.memory ≡ paste (map g.S.Symbol.byte l.initial.memory) 0 h.cells l.i
