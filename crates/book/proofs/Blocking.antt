-- Writing column blocks, one block more.
use Rattle.std.proofs.Common.{◌≡◌, ℕ, zero, suc, ◌+◌, ◌*◌, ◌≤◌, List, ◌∷◌, ◌++◌, length, take, drop, sym, ap, ◌∙◌, suc-mul, arith}
use Rattle.std.proofs.lemmas.List.{append-nil, append_assoc, length-take-le, take_at, drop_at, drop-drop, length-append, length-drop, length-take, take-append-drop, take_all}
use Rattle.notation.specs.Kind.{Kind}
use Rattle.book.specs.Blocks.{block_bytes, two, title_letter, columns_letter}
use borrow.Rule.Slice.PartMut.{put_mid}
use Rattle.std.proofs.lemmas.Slice.{take-put_mid, drop-put_mid, drop-append-drop}
use Rattle.book.specs.Grids.{Grid, columns_a_block, blocks_for, column_blocks, bytes_of}
use Rattle.book.proofs.Fields.{length_block}
use Rattle.book.proofs.Complete.{length_columns}

-- a payload that a block holds whole
pub fits_block : (s : List ℕ) → length s ≤ 502 → take 502 s ≡ s
fits_block s l = take_all 502 s l

pub columns_more : (kind w n m : ℕ) (cells : List ℕ) → column_blocks kind w n (suc m) cells ≡ column_blocks kind w n m cells ++ block_bytes columns_letter kind (n + m) (take w (drop (m * w) cells))
columns_more kind w n zero cells =
    let e : n ≡ n + 0 = omega arith in
    let f : 0 ≡ 0 * w = omega arith in
    append-nil (block_bytes columns_letter kind n (take w cells)) ∙ (λ i. block_bytes columns_letter kind (e i) (take w (drop (f i) cells)))
columns_more kind w n (suc m) cells =
    let e : suc n + m ≡ n + suc m = omega arith in
    let f : w + m * w ≡ suc m * w = omega (arith, suc-mul m w) in
    ap (λ x. block_bytes columns_letter kind n (take w cells) ++ x) (columns_more kind w (suc n) m (drop w cells))
    ∙ sym (append_assoc (block_bytes columns_letter kind n (take w cells)) (column_blocks kind w (suc n) m (drop w cells)) (block_bytes columns_letter kind (suc n + m) (take w (drop (m * w) (drop w cells)))))
    ∙ (λ i. block_bytes columns_letter kind n (take w cells) ++ column_blocks kind w (suc n) m (drop w cells) ++ block_bytes columns_letter kind (e i) (take w (drop-drop (m * w) w cells i)))
    ∙ ap (λ j. block_bytes columns_letter kind n (take w cells) ++ column_blocks kind w (suc n) m (drop w cells) ++ block_bytes columns_letter kind (n + suc m) (take w (drop j cells))) f

-- one block more after the title and some column blocks
pub block_more : (kind w m k : ℕ) (cells d o blk : List ℕ) → 512 * (1 + (m + 1)) ≤ length d → w ≤ 502 → k ≡ 512 → o ≡ take 512 d ++ column_blocks kind w 1 m cells ++ drop (512 * (1 + m)) d → blk ≡ block_bytes columns_letter kind (m + 1) (take w (drop (m * w) cells)) → put_mid (512 * (m + 1)) k o blk ≡ take 512 d ++ column_blocks kind w 1 (m + 1) cells ++ drop (512 * (1 + (m + 1))) d
block_more kind w m k cells d o blk room fits ek eo eb =
    let a = 512 * (m + 1) in
    let n = 512 * (1 + (m + 1)) in
    let cb = column_blocks kind w 1 m cells in
    let front = take 512 d ++ cb in
    let lf : length front ≡ a = length-append (take 512 d) cb ∙ omega (arith, length-take-le 512 d (omega arith), length_columns kind w 1 m cells fits) in
    let ld = length-drop (512 * (1 + m)) d in
    let lo : length o ≡ length d = ap length eo ∙ length-append front (drop (512 * (1 + m)) d) ∙ omega arith in
    let lb : length blk ≡ 512 = ap length eb ∙ length_block columns_letter kind (m + 1) (take w (drop (m * w) cells)) (omega (arith, length-take w (drop (m * w) cells))) in
    let x = put_mid a k o blk in
    let before : take a o ≡ front = ap (take a) eo ∙ take_at front (drop (512 * (1 + m)) d) a lf in
    let behind : drop n o ≡ drop n d =
    ap (drop n) eo ∙ ap (λ i. drop i (front ++ drop (512 * (1 + m)) d)) (let e : n ≡ a + 512 = omega arith in e)
    ∙ sym (drop-drop 512 a (front ++ drop (512 * (1 + m)) d))
    ∙ ap (drop 512) (drop_at front (drop (512 * (1 + m)) d) a lf)
    ∙ drop-drop 512 (512 * (1 + m)) d
    ∙ ap (λ i. drop i d) (let e : 512 * (1 + m) + 512 ≡ n = omega arith in e) in
    let one : 1 + m ≡ m + 1 = omega arith in
    let block : cb ++ blk ≡ column_blocks kind w 1 (m + 1) cells =
    ap (λ b. cb ++ b) (eb ∙ (λ i. block_bytes columns_letter kind (sym one i) (take w (drop (m * w) cells))))
    ∙ sym (columns_more kind w 1 m cells)
    ∙ ap (λ i. column_blocks kind w 1 i cells) (let e : suc m ≡ m + 1 = omega arith in e) in
    sym (take-append-drop n x)
    ∙ (λ i. take-put_mid a k o blk n (omega arith) (omega arith) i ++ drop-put_mid a k o blk n (omega arith) (omega arith) (lb ∙ sym ek) i)
    ∙ (λ i. before i ++ blk ++ behind i)
    ∙ ap (λ y. y ++ drop n d) (append_assoc (take 512 d) cb blk ∙ ap (λ y. take 512 d ++ y) block)

-- a title and column blocks in front of an output are the bytes of the score
pub book_done : (k : Kind) (g : Grid) (blocks : ℕ) (d titled done : List ℕ) → blocks ≡ blocks_for g.tracks g.columns → titled ≡ block_bytes title_letter k.number 0 (g.tracks ∷ two g.columns) → done ≡ take 512 (titled ++ drop 512 d) ++ column_blocks k.number (columns_a_block g.tracks * g.tracks) 1 blocks g.cells ++ drop (512 * (1 + blocks)) (titled ++ drop 512 d) → done ≡ bytes_of k g ++ drop (512 * (1 + blocks)) d
unfolding bytes_of
book_done k g blocks d titled done eb is ed =
    let n = 512 * (1 + blocks) in
    let w = columns_a_block g.tracks * g.tracks in
    let title = block_bytes title_letter k.number 0 (g.tracks ∷ two g.columns) in
    let lt : length title ≡ 512 = length_block title_letter k.number 0 (g.tracks ∷ two g.columns) (omega arith) in
    let lt' : length titled ≡ 512 = ap length is ∙ lt in
    ed ∙ (λ i. (take_at titled (drop 512 d) 512 lt' ∙ is) i ++ column_blocks k.number w 1 (eb i) g.cells ++ drop-append-drop 512 d titled n (omega arith) lt' i)
