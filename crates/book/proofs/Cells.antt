-- Where in a book the byte of a place stands.
use Rattle.std.proofs.Common.{◌≡◌, ℕ, zero, suc, ◌+◌, ◌-◌, ◌*◌, ◌/◌, ◌%◌, ◌<◌, ◌≤◌, List, ◌∷◌, ◌++◌, length, get_or, take, drop, replicate, sym, ap, ◌∙◌, mul_assoc, suc-mul, mul_comm, mul-suc, arith}
use Rattle.std.proofs.lemmas.List.{length-append, length-drop, length-take, get_or_append_left, get_or-append_right, get_or-take, get_or-drop}
use Rattle.std.proofs.lemmas.Nat.{div-add-mod', mod_below, mul-add-lt, mul-le, div_below}
use Rattle.notation.specs.Kind.{Kind}
use Rattle.book.specs.Blocks.{block_bytes, body, four, weighted, two, title_letter, columns_letter}
use Rattle.book.specs.Grids.{Grid, Shaped, columns_a_block, blocks_for, column_blocks, bytes_of}
use Rattle.book.specs.Reading.{cell_number, byte_place}
use Rattle.book.proofs.Fields.{length_block}
use Rattle.book.proofs.Granted.{some_columns}
use Rattle.book.proofs.Complete.{columns_fit, length_bytes}

-- a byte of a block's payload
payload_byte : (l kind n : ℕ) (p : List ℕ) (r : ℕ) → r < length p → get_or (block_bytes l kind n p) (6 + r) 0 ≡ get_or p r 0
payload_byte l kind n p r h =
    sym (get_or-drop 6 (block_bytes l kind n p) r 0)
    ∙ get_or_append_left (p ++ replicate (502 - length p) 0) (four (weighted 1 (body l kind n p))) 0 r (omega (arith, length-append p (replicate (502 - length p) 0)))
    ∙ get_or_append_left p (replicate (502 - length p) 0) 0 r h

-- the columns of so many blocks are no more than fit into them
pub covered : (c p : ℕ) → 0 < p → c ≤ p * ((c + (p - 1)) / p)
covered c p h = omega (arith, div-add-mod' (c + (p - 1)) p, mod_below (c + (p - 1)) p h, mul_comm p ((c + (p - 1)) / p))

module _ (kind w : ℕ) (fits : w ≤ 502) where
  pub column_cell : (more n : ℕ) (cells : List ℕ) (q r : ℕ) → length cells ≤ w * more → r < w → q * w + r < length cells → get_or (column_blocks kind w n more cells) (512 * q + 6 + r) 0 ≡ get_or cells (q * w + r) 0
  column_cell zero n cells q r room l h = absurd (omega arith)
  column_cell (suc more) n cells zero r room l h =
      let p = take w cells in
      let lp = length-take w cells in
      let blk = block_bytes columns_letter kind n p in
      let rest = column_blocks kind w (suc n) more (drop w cells) in
      let lb = length_block columns_letter kind n p (omega arith) in
      let i : 512 * 0 + 6 + r ≡ 6 + r = omega arith in
      let j : r ≡ 0 * w + r = omega arith in
      ap (λ m. get_or (blk ++ rest) m 0) i
      ∙ get_or_append_left blk rest 0 (6 + r) (omega arith)
      ∙ payload_byte columns_letter kind n p r (omega arith)
      ∙ get_or-take w cells r 0 l
      ∙ ap (λ m. get_or cells m 0) j
  column_cell (suc more) n cells (suc q) r room l h =
      let p = take w cells in
      let lp = length-take w cells in
      let ld = length-drop w cells in
      let blk = block_bytes columns_letter kind n p in
      let rest = column_blocks kind w (suc n) more (drop w cells) in
      let lb = length_block columns_letter kind n p (omega arith) in
      let sm = suc-mul q w in
      let ms = mul-suc w more in
      let i : 512 * suc q + 6 + r - 512 ≡ 512 * q + 6 + r = omega arith in
      let j : w + (q * w + r) ≡ suc q * w + r = omega arith in
      get_or-append_right blk rest 512 (512 * suc q + 6 + r) 0 lb (omega arith)
      ∙ ap (λ m. get_or rest m 0) i
      ∙ column_cell more (suc n) (drop w cells) q r (omega arith) l (omega arith)
      ∙ get_or-drop w cells (q * w + r) 0
      ∙ ap (λ m. get_or cells m 0) j

regroup : (a b c : ℕ) → a * b * c ≡ a * c * b
regroup a b c = mul_assoc a b c ∙ ap (λ n. a * n) (mul_comm b c) ∙ sym (mul_assoc a c b)

-- the byte of a place in the bytes of a score
module _ (k : Kind) (g : Grid) (shaped : Shaped g) (column track : ℕ) (c1 : 1 ≤ column) (c2 : column ≤ g.columns) (t1 : 1 ≤ track) (t2 : track ≤ g.tracks) where
  pub place_read : (byte_place g.tracks column track < length (bytes_of k g)) × (get_or (bytes_of k g) (byte_place g.tracks column track) 0 ≡ get_or g.cells (cell_number g.tracks column track) 0)
  unfolding bytes_of
  place_read =
      let t = g.tracks in
      let per = columns_a_block t in
      let w = per * t in
      let count = blocks_for t g.columns in
      let j = cell_number t column track in
      let q = j / w in
      let r = j % w in
      let p = t ∷ two g.columns in
      let title = block_bytes title_letter k.number 0 p in
      let rest = column_blocks k.number w 1 count g.cells in
      let some = some_columns t shaped.some_track shaped.few_tracks in
      let wide : 0 < w = omega (arith, mul-le 1 1 per t some shaped.some_track) in
      let fits = columns_fit t in
      let rw' = mod_below j w wide in
      let split : q * w + r ≡ j = div-add-mod' j w in
      let inside : j < length g.cells = omega (arith, shaped.whole, mul-add-lt (column - 1) t (track - 1) g.columns (omega arith) (omega arith), mul_comm t g.columns) in
      let room : length g.cells ≤ w * count = omega (arith, shaped.whole, mul-le g.columns t (per * count) t (covered g.columns per some) (omega arith), regroup per count t) in
      let deep : q < count = div_below j w count wide (omega (arith, mul_comm w count)) in
      let at : byte_place t column track - 512 ≡ 512 * q + 6 + r = omega arith in
      let lt = length_block title_letter k.number 0 p (omega arith) in (
        omega (arith, length_bytes k g),
        get_or-append_right title rest 512 (byte_place t column track) 0 lt (omega arith)
            ∙ ap (λ m. get_or rest m 0) at
            ∙ column_cell k.number w fits count 1 g.cells q r room rw' (omega arith)
            ∙ ap (λ m. get_or g.cells m 0) split,
      )
