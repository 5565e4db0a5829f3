-- Scores as books hold them, and the bytes of a book.
use Rattle.std.specs.Prelude.{◌≡◌, ℕ, zero, suc, ◌+◌, ◌-◌, ◌*◌, ◌/◌, ◌%◌, ◌≤◌, Bool, ◌&&◌, T, List, [], ◌∷◌, ◌++◌, map, length, take, drop, ◌==◌, nat_le}
use Rattle.std.specs.List.{AllByRecursion}
use Rattle.notation.specs.Kind.{Kind, readable}
use Rattle.book.specs.Blocks.{block_bytes, two, title_letter, columns_letter}

-- tracks, columns, and the byte of each symbol: column after column, track 1 first
pub record Grid : Type 0 where
  pub tracks : ℕ
  pub columns : ℕ
  pub cells : List ℕ

-- the shape of a score: 1 to 16 tracks, at most 4,096 columns, whole columns
pub record Shaped (g : Grid) : Type 0 where
  pub some_track : 1 ≤ g.tracks
  pub few_tracks : g.tracks ≤ 16
  pub few_columns : g.columns ≤ 4096
  pub whole : length g.cells ≡ g.columns * g.tracks

-- so many symbols have the shape of a score of so many tracks
abbrev pub in_grid : ℕ → ℕ → Bool
in_grid tracks symbols = nat_le 1 tracks && nat_le tracks 16 && symbols % tracks == 0 && nat_le (symbols / tracks) 4096

-- the score that symbols spell, each by its byte
abbrev pub spelled : {S : Type 0} → (S → ℕ) → ℕ → ℕ → List S → Grid
spelled byte tracks columns symbols = record { tracks = tracks; columns = columns; cells = map byte symbols }

-- a score of the kind: a shape of symbols that the kind reads
pub record ScoreOf (k : Kind) (g : Grid) : Type 0 where
  pub shaped : Shaped g
  pub symbols : AllByRecursion (λ b. T (readable k b)) g.cells

-- the whole columns that fit into one block
abbrev pub columns_a_block : ℕ → ℕ
columns_a_block tracks = 502 / tracks

-- the blocks that hold so many columns, the last of them perhaps not full
abbrev pub blocks_for : ℕ → ℕ → ℕ
blocks_for tracks columns = (columns + (columns_a_block tracks - 1)) / columns_a_block tracks

-- column blocks from number n on, each but the last with w symbols
abbrev pub column_blocks : ℕ → ℕ → ℕ → ℕ → List ℕ → List ℕ
column_blocks kind w n zero cells = []
column_blocks kind w n (suc more) cells = block_bytes columns_letter kind n (take w cells) ++ column_blocks kind w (suc n) more (drop w cells)

-- the bytes of a score: a title block with tracks and columns, then its columns
unfoldable pub bytes_of : Kind → Grid → List ℕ
bytes_of k g =
    block_bytes title_letter k.number 0 (g.tracks ∷ two g.columns)
    ++ column_blocks k.number (columns_a_block g.tracks * g.tracks) 1 (blocks_for g.tracks g.columns) g.cells
