-- What the calls that change a score make of its columns.
use Rattle.std.specs.Prelude.{ℕ, ◌-◌, List, [], ◌∷◌, ◌++◌, take, slice_index_or, slice_set}
use Rattle.splitting.specs.Score.{Score, Column}
use Rattle.book.specs.Books.{held}
use Rattle.book.specs.Grids.{Grid}
use Rattle.search.specs.Columns.{columns_of}

-- a column put last
abbrev pub appended : Score → Column → Score
appended score column = score ++ column ∷ []

-- another byte in a column on a track, both counted from 1
abbrev pub corrected : Score → ℕ → ℕ → ℕ → Score
corrected score column track b = slice_set score (column - 1) (slice_set (slice_index_or score (column - 1) []) (track - 1) b)

-- so many first columns
abbrev pub first_columns : Score → ℕ → Score
first_columns score kept = take kept score

-- the columns of a score as books hold it
abbrev pub grid_columns : Grid → Score
grid_columns g = columns_of g.tracks g.columns g.cells

-- and of the book that some bytes are
abbrev pub book_columns : List ℕ → Score
book_columns input = grid_columns (held input)
