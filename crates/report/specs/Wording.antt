-- The words of a report.
use Rattle.std.specs.Prelude.{ℕ, suc, ◌+◌, ◌-◌, List, ◌++◌, length, ℤ, pos, negsuc, codes, decimal}
use Rattle.std.specs.List.{flat_map}
use Rattle.splitting.specs.Score.{Score}
use Rattle.splitting.specs.Splitting.{last, silence}
use Rattle.splitting.specs.declared.Piece.{Piece}

-- there is no way to find the query
abbrev pub none_line : List ℕ
none_line = codes "none\n"

-- a shift always has its sign
abbrev pub signed_shift : ℤ → List ℕ
signed_shift (pos n) = codes "+" ++ decimal n
signed_shift (negsuc n) = codes "-" ++ decimal (suc n)

-- how many pieces, their silence, and the transposition
abbrev pub first_line : (pieces silence : ℕ) → ℤ → List ℕ
first_line pieces silence shift = codes "pieces " ++ (decimal pieces ++ (codes " silence " ++ (decimal silence ++ (codes " shift " ++ (signed_shift shift ++ codes "\n")))))

-- the last note of a piece
abbrev pub last_note : Piece → ℕ
last_note p = p.first + p.len - 1

-- the notes of a piece, its track and its columns, each from the first to the last
abbrev pub piece_line : Piece → List ℕ
piece_line p = codes "notes " ++ (decimal p.first ++ (codes "-" ++ (decimal (last_note p) ++ (codes " track " ++ (decimal p.track ++ (codes " columns " ++ (decimal p.column ++ (codes "-" ++ (decimal (last p) ++ codes "\n")))))))))

-- what is found: the first line, and a line for each piece
abbrev pub found_text : Score → ℤ → List Piece → List ℕ
found_text score shift pieces = first_line (length pieces) (silence score pieces) shift ++ flat_map piece_line pieces
