-- What each fault tells: its number, its place and its layer.
use Rattle.book.specs.declared.fault.BlockFault.{BlockFault}
use Rattle.book.specs.declared.fault.BlockFault.TheVariants.{Check, Unknown, Padding}
use Rattle.book.specs.declared.fault.BookFault.{BookFault}
use Rattle.book.specs.declared.fault.BookFault.TheVariants.{Length, OfBlock, OutOfTurn, Unexpected, MisshapenTitle, UndueColumns, Unreadable, Ends}
use Rattle.book.specs.declared.fault.TooShort.{TooShort}
use Rattle.book.specs.declared.refusal.Layer.TheVariants.{File, Block, Book, Writing}
use Rattle.book.specs.declared.refusal.Refusal.{Refusal}
use Rattle.book.specs.Refusals.{refusal}

abbrev pub block_told : BlockFault → Refusal
block_told (Check n) = refusal 2 n Block
block_told (Unknown n) = refusal 3 n Block
block_told (Padding n) = refusal 4 n Block

abbrev pub book_told : BookFault → Refusal
book_told (Length n) = refusal 1 n File
book_told (OfBlock f) = block_told f
book_told (OutOfTurn n) = refusal 5 n Book
book_told (Unexpected n) = refusal 6 n Book
book_told (MisshapenTitle n) = refusal 7 n Book
book_told (UndueColumns n) = refusal 8 n Book
book_told (Unreadable n) = refusal 9 n Book
book_told (Ends n) = refusal 10 n Book

abbrev pub short_told : TooShort → Refusal
short_told f = refusal 23 f.needed Writing
