-- Reading a book: which bytes are refused, and what score a book holds.
use Rattle.std.specs.Prelude.{ℕ, zero, suc, ◌+◌, ◌-◌, ◌*◌, ◌/◌, ◌%◌, min, Bool, true, false, cond, ◌&&◌, List, [], ◌++◌, length, take, drop, Some, None, Option, ◌==◌, nat_le, nat_lt, slice_index}
use Rattle.std.specs.List.{prefix_len}
use Rattle.notation.specs.Kind.{Kind, readable}
use Rattle.book.specs.Refusals.{refusal, unless, then}
use Rattle.book.specs.Blocks.{letter, kind_number, number, payload_length, payload, title_letter, columns_letter, block_refusal}
use Rattle.book.specs.Grids.{Grid, columns_a_block}
use Rattle.book.specs.Shapes.{Progress}
use Rattle.book.specs.Shapes.{Shape}
use Rattle.book.specs.declared.stage.Stage.{Stage}
use Rattle.book.specs.declared.stage.Stage.TheVariants.{Title, Columns, Full}
use Rattle.book.specs.declared.refusal.Layer.{Layer}
use Rattle.book.specs.declared.refusal.Layer.TheVariants.{File, Book}
use Rattle.book.specs.declared.refusal.Refusal.{Refusal}

-- a block of the kind with the number that its place asks for
abbrev pub expected : Kind → ℕ → List ℕ → Bool
expected k n b = number b == n && kind_number b == k.number

-- the first byte that the kind cannot read, among bytes of which the first stands at `from`
abbrev pub symbols_refusal : Kind → Layer → ℕ → List ℕ → Option Refusal
symbols_refusal k layer from bytes = unless (nat_le (length bytes) (prefix_len (readable k) bytes)) (refusal 9 (from + prefix_len (readable k) bytes) layer) None

abbrev pub shape : ℕ → ℕ → Shape
shape t c = record { tracks = t; columns = c }

-- the tracks and columns that a title block tells
abbrev pub title_shape : List ℕ → Shape
title_shape b = shape (slice_index b 6) (slice_index b 7 * 256 + slice_index b 8)

abbrev pub in_shape : Shape → Bool
in_shape s = nat_le 1 s.tracks && nat_le s.tracks 16 && nat_le s.columns 4096

-- a title block out of turn; with another number or kind; with another length or an unlawful shape
abbrev pub title_refusal : Kind → ℕ → List ℕ → Option Refusal
title_refusal k n b =
    unless (letter b == title_letter) (refusal 5 n Book)
    (unless (expected k n b) (refusal 6 n Book)
    (unless (payload_length b == 3 && in_shape (title_shape b)) (refusal 7 n Book) None))

-- the columns due in the next block, where so many are read
abbrev pub due : Shape → ℕ → ℕ
due s read = min (columns_a_block s.tracks) (s.columns - read)

-- a column block out of turn; with another number or kind; with another length than due; with a byte that the kind cannot read
abbrev pub columns_refusal : Kind → Shape → ℕ → ℕ → List ℕ → Option Refusal
columns_refusal k s read n b =
    unless (letter b == columns_letter) (refusal 5 n Book)
    (unless (expected k n b) (refusal 6 n Book)
    (unless (payload_length b == due s read * s.tracks) (refusal 8 n Book)
    (symbols_refusal k Book (512 * n + 6) (payload b))))

-- the refusal of block n at a stage of the reading: past the last column any block is out of turn
abbrev pub turn_refusal : Kind → Stage → ℕ → List ℕ → Option Refusal
turn_refusal k Title n b = title_refusal k n b
turn_refusal k (Columns p) n b = columns_refusal k p.shape p.read n b
turn_refusal k (Full s) n b = Some (refusal 5 n Book)

-- a score of which so many columns are read
abbrev pub progress : Shape → ℕ → Progress
progress s read = record { shape = s; read = read }

-- the stage where so many columns are read
abbrev pub opened : Shape → ℕ → Stage
opened s read = cond (nat_lt read s.columns) (Columns (progress s read)) (Full s)

-- the stage after a block
abbrev pub after : Stage → List ℕ → Stage
after Title b = opened (title_shape b) 0
after (Columns p) b = opened p.shape (p.read + due p.shape p.read)
after (Full s) b = Full s

abbrev pub is_full : Stage → Bool
is_full Title = false
is_full (Columns p) = false
is_full (Full s) = true

-- the refusal of what is left of a book, `more` blocks from number n on, at a stage of the reading
abbrev pub blocks_refusal : Kind → Stage → ℕ → ℕ → List ℕ → Option Refusal
blocks_refusal k stage n zero rest = unless (is_full stage) (refusal 10 n Book) None
blocks_refusal k stage n (suc more) rest =
    then (block_refusal n (take 512 rest))
    (then (turn_refusal k stage n (take 512 rest))
    (blocks_refusal k (after stage (take 512 rest)) (suc n) more (drop 512 rest)))

-- whole blocks, at least one
abbrev pub whole_blocks : ℕ → Bool
whole_blocks bytes = nat_le 1 bytes && bytes % 512 == 0

-- the refusal of some bytes as a book of the kind: by the file's length, then block by block in their order, then by its end
abbrev pub book_refusal : Kind → List ℕ → Option Refusal
book_refusal k input = unless (whole_blocks (length input)) (refusal 1 (length input) File) (blocks_refusal k Title 0 (length input / 512) input)

-- the payloads of so many blocks, one after another
abbrev pub payloads : ℕ → List ℕ → List ℕ
payloads zero rest = []
payloads (suc more) rest = payload (take 512 rest) ++ payloads more (drop 512 rest)

-- the score that a book holds
abbrev pub held : List ℕ → Grid
held input = record { tracks = (title_shape input).tracks; columns = (title_shape input).columns; cells = payloads (length input / 512 - 1) (drop 512 input) }
