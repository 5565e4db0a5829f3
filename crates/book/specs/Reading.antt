-- What a reading of a book promises.
use Rattle.std.specs.Prelude.{◌≡◌, ℕ, ◌+◌, ◌-◌, ◌*◌, ◌/◌, ◌%◌, ◌≤◌, Bool, true, false, ◌&&◌, T, List, length, is_ok, IfOk, Some, None, Option, Result, MatchOption, MatchResult, nat_le, slice_index}
use Rattle.notation.specs.Kind.{Kind}
use Rattle.notation.specs.Known.{known}
use Rattle.book.specs.Grids.{Grid, ScoreOf, columns_a_block, bytes_of}
use Rattle.book.specs.Books.{book_refusal, held}
use Rattle.book.specs.Faults.{book_told}
use Rattle.book.specs.declared.fault.BookFault.{BookFault}
use Rattle.book.specs.declared.view.Book.{Book}

-- a book that was read holds a score of the kind: its bytes are the bytes of that score
pub record Holds {S : Type 0} (k : Kind) (b : Book S) (g : Grid) : Type 0 where
  pub score : ScoreOf k g
  pub bytes : b.input.now ≡ bytes_of k g
  pub tracks : b.tracks ≡ g.tracks
  pub columns : b.columns ≡ g.columns

-- reading some bytes as a book of the kind
pub record Reading {S : Type 0} (k : Kind) (input : List ℕ) (r : Result (Book S) BookFault) : Type 0 where
  -- it is refused by the rules alone, with number, place and layer
  pub by_rules : MatchResult r (λ b. book_refusal k input ≡ None) (λ f. book_refusal k input ≡ Some (book_told f))
  -- what is granted is of a known kind, and holds a score of which the input is the bytes
  pub granted : IfOk r (λ b. T (known k.number) × Holds k b (held input) × (b.input.now ≡ input))
  -- the bytes of every score of a known kind are granted, and hold that score
  pub every : (g : Grid) → T (known k.number) → ScoreOf k g → input ≡ bytes_of k g → (is_ok r ≡ true) × (held input ≡ g)

-- there is that column and that track, both counted from 1
abbrev pub has_place : ℕ → ℕ → ℕ → ℕ → Bool
has_place tracks columns column track = nat_le 1 column && nat_le column columns && nat_le 1 track && nat_le track tracks

-- the cell of a place, column after column
abbrev pub cell_number : ℕ → ℕ → ℕ → ℕ
cell_number tracks column track = (column - 1) * tracks + (track - 1)

-- and where in a book its byte stands
abbrev pub byte_place : ℕ → ℕ → ℕ → ℕ
byte_place tracks column track = 512 * (1 + cell_number tracks column track / (columns_a_block tracks * tracks)) + 6 + cell_number tracks column track % (columns_a_block tracks * tracks)

-- the symbol in a column on a track, told exactly where there is such a place
abbrev pub Told : {S : Type 0} → (S → ℕ) → Grid → ℕ → ℕ → Option S → Type 0
Told byte g column track r = MatchOption r (has_place g.tracks g.columns column track ≡ false) (λ s. (has_place g.tracks g.columns column track ≡ true) × (byte s ≡ slice_index g.cells (cell_number g.tracks column track)))

-- the byte of a place in some input: absent where there is no such place, or the input ends before it
abbrev pub CellTold : List ℕ → ℕ → ℕ → ℕ → ℕ → Option ℕ → Type 0
CellTold input tracks columns column track r =
    MatchOption r (has_place tracks columns column track ≡ true → length input ≤ byte_place tracks column track)
    (λ b. (has_place tracks columns column track ≡ true) × (b ≡ slice_index input (byte_place tracks column track)))
