-- The text that tells what a book is.
use Rattle.std.specs.Prelude.{◌≡◌, ℕ, cond, List, ◌++◌, Some, None, Ok, Err, codes, decimal, Option, Result, ◌==◌, slice_index}
use Rattle.notation.specs.Kind.{Kind}
use Rattle.notation.specs.Known.{pitch, pitch_class, stroke}
use Rattle.book.specs.Books.{book_refusal, title_shape}
use Rattle.book.specs.Writing.{Written}
use Rattle.book.specs.declared.fault.DescribeFault.{DescribeFault}
use Rattle.book.specs.declared.fault.DescribeFault.TheVariants.{Memory, OfOutput}
use Rattle.book.specs.declared.refusal.Refusal.{Refusal}
use Rattle.book.specs.Shapes.{Shape}

-- refused, number, at, place
abbrev pub refused : Refusal → List ℕ
refused r = codes "refused " ++ (decimal r.number ++ (codes " at " ++ decimal r.place))

abbrev pub refused_line : Refusal → List ℕ
refused_line r = refused r ++ codes "\n"

abbrev pub shape_line : ℕ → Shape → List ℕ
shape_line kind s = codes "kind " ++ (decimal kind ++ (codes " tracks " ++ (decimal s.tracks ++ (codes " columns " ++ (decimal s.columns ++ codes "\n")))))

abbrev pub line_by : ℕ → Shape → Option Refusal → List ℕ
line_by kind s None = shape_line kind s
line_by kind s (Some r) = refused_line r

-- the text of some bytes as a book of the kind
abbrev pub description_as : Kind → List ℕ → List ℕ
description_as k input = line_by k.number (title_shape input) (book_refusal k input)

-- the kind that a book names: byte 1 of its first block, or 1 in the place of an unlawful one
abbrev pub named_kind : List ℕ → Kind
named_kind input = cond (slice_index input 1 == 2) pitch_class (cond (slice_index input 1 == 3) stroke pitch)

-- the text of some bytes
abbrev pub description : List ℕ → List ℕ
description input = description_as (named_kind input) input

-- writing the text to the front of an output; a refusal, and want of memory, leave the output as it was
abbrev pub Described : List ℕ → List ℕ → List ℕ → Result ℕ DescribeFault → Type 0
Described text before after (Ok n) = Written text before after (Ok n)
Described text before after (Err (OfOutput f)) = Written text before after (Err f)
Described text before after (Err Memory) = after ≡ before
