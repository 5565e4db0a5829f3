-- The bytes of a score are not refused, and hold that score.
use Rattle.std.proofs.Common.{◌≡◌, ℕ, zero, suc, ◌+◌, ◌-◌, ◌*◌, ◌/◌, ◌%◌, ◌<◌, ◌≤◌, true, ◌&&◌, T, eqb, ltb, leb, List, ◌∷◌, ◌++◌, length, take, drop, None, sym, refl, ap, ◌∙◌, subst, inl, inr, add-mul, arith}
use Rattle.std.specs.List.{AllByRecursion}
use Rattle.std.proofs.lemmas.List.{take_at, drop_at, length-append, length-drop, length-take, take-append-drop, nil_from_length}
use Rattle.std.proofs.ByRecursion.{All-take, All-drop}
use Rattle.std.proofs.lemmas.Nat.{mul-le, div-add-mod'}
use Rattle.std.proofs.lemmas.Bool.{and_from, eq-eqb, le-leb, lt-ltb, le-ltb, cases_lt, cond-true, cond-false}
use Rattle.notation.specs.Kind.{Kind, readable}
use Rattle.notation.specs.Known.{known}
use Rattle.book.specs.Refusals.{then}
use Rattle.book.specs.Blocks.{block_bytes, two, number, payload_length, payload, title_letter, columns_letter, known_letter, padded, sound, block_refusal}
use Rattle.book.specs.Grids.{Grid, ScoreOf, columns_a_block, blocks_for, column_blocks, bytes_of}
use Rattle.book.specs.Books.{progress, expected, title_shape, in_shape, title_refusal, due, columns_refusal, turn_refusal, opened, after, is_full, blocks_refusal, whole_blocks, book_refusal, payloads, held}
use Rattle.book.specs.declared.refusal.Layer.TheVariants.{Book}
use Rattle.book.specs.Shapes.{Shape}
use Rattle.book.specs.declared.stage.Stage.TheVariants.{Title, Columns, Full}
use Rattle.book.proofs.Rules.{unless_kept, then_both, symbols_none, times_more, times_none}
use Rattle.book.proofs.Fields.{length_block, number_is, payload_length_is, payload_is, padded_is, sound_is}
use Rattle.book.proofs.Granted.{some_columns}

-- a block as it is written is in order by itself
pub block_none : (l kind n m : ℕ) (p : List ℕ) → length p ≤ 502 → known_letter l ≡ true → known kind ≡ true → block_refusal m (block_bytes l kind n p) ≡ None
block_none l kind n m p fits a k =
    unless_kept (sound (block_bytes l kind n p)) _ _ (sound_is l kind n p fits)
    (unless_kept (known_letter l && known kind) _ _ (and_from (known_letter l) (known kind) a k)
    (unless_kept (padded (block_bytes l kind n p)) _ _ (padded_is l kind n p fits) refl))

pub expected_is : (k : Kind) (l n : ℕ) (p : List ℕ) → length p ≤ 502 → expected k n (block_bytes l k.number n p) ≡ true
expected_is k l n p fits = and_from (eqb (number (block_bytes l k.number n p)) n) (eqb k.number k.number) (eq-eqb (number (block_bytes l k.number n p)) n (number_is l k.number n p fits)) (eq-eqb k.number k.number refl)

-- the columns of a block fit into it
pub columns_fit : (t : ℕ) → columns_a_block t * t ≤ 502
columns_fit t = omega (arith, div-add-mod' 502 t)

module _ (s : Shape) (read : ℕ) (cells : List ℕ) (long : length cells ≡ (s.columns - read) * s.tracks) where
  -- what a block takes is due, and what it leaves is what is left
  pub taken : (length (take (columns_a_block s.tracks * s.tracks) cells) ≡ due s read * s.tracks) × (length (drop (columns_a_block s.tracks * s.tracks) cells) ≡ (s.columns - (read + due s read)) * s.tracks)
  taken =
      let t = s.tracks in
      let per = columns_a_block t in
      let a = length-take (per * t) cells in
      let d = length-drop (per * t) cells in
      elim (cases_lt (s.columns - read) per) [
        | inl m ↦
            let le = mul-le (s.columns - read) t per t (omega arith) (omega arith) in
            let e : due s read ≡ s.columns - read = omega arith in
            let z : s.columns - (read + due s read) ≡ 0 = omega arith in
            (omega (arith, ap (λ n. n * t) e), omega (arith, ap (λ n. n * t) z))
        | inr m ↦
            let le = mul-le per t (s.columns - read) t (omega arith) (omega arith) in
            let e : due s read ≡ per = omega arith in
            let f : s.columns - read ≡ per + (s.columns - (read + due s read)) = omega arith in
            let h = ap (λ n. n * t) f ∙ add-mul per (s.columns - (read + due s read)) t in
            (omega (arith, ap (λ n. n * t) e), omega (arith, h))
      ]

-- the length of column blocks, and of a book
pub length_columns : (kind w n more : ℕ) (cells : List ℕ) → w ≤ 502 → length (column_blocks kind w n more cells) ≡ 512 * more
length_columns kind w n zero cells fits = refl
length_columns kind w n (suc more) cells fits =
    let p = take w cells in
    let lb = length_block columns_letter kind n p (omega (arith, length-take w cells)) in
    length-append (block_bytes columns_letter kind n p) (column_blocks kind w (suc n) more (drop w cells))
    ∙ omega (arith, lb, length_columns kind w (suc n) more (drop w cells) fits)

pub length_bytes : (k : Kind) (g : Grid) → length (bytes_of k g) ≡ 512 * (1 + blocks_for g.tracks g.columns)
unfolding bytes_of
length_bytes k g =
    let p = g.tracks ∷ two g.columns in
    let w = columns_a_block g.tracks * g.tracks in
    let count = blocks_for g.tracks g.columns in
    length-append (block_bytes title_letter k.number 0 p) (column_blocks k.number w 1 count g.cells)
    ∙ omega (arith, length_block title_letter k.number 0 p (omega arith), length_columns k.number w 1 count g.cells (columns_fit g.tracks))

-- column blocks as they are written: none is refused, and their payloads are the columns again
pub record Reads (k : Kind) (s : Shape) (read n more : ℕ) (cells : List ℕ) : Type 0 where
  pub none : blocks_refusal k (opened s read) n more (column_blocks k.number (columns_a_block s.tracks * s.tracks) n more cells) ≡ None
  pub again : payloads more (column_blocks k.number (columns_a_block s.tracks * s.tracks) n more cells) ≡ cells

module _ (k : Kind) (s : Shape) (some : 1 ≤ s.tracks) (few : s.tracks ≤ 16) (kind : known k.number ≡ true) where
  at_end : (read : ℕ) → 0 ≡ blocks_for s.tracks (s.columns - read) → s.columns ≤ read
  at_end read e =
      elim (cases_lt read s.columns) [
        | inl l ↦ let m = times_more (s.columns - read) (columns_a_block s.tracks) (omega arith) (some_columns s.tracks some few) in absurd (omega arith)
        | inr l ↦ l
      ]

  not_end : (read more : ℕ) → suc more ≡ blocks_for s.tracks (s.columns - read) → read < s.columns
  not_end read more e =
      elim (cases_lt read s.columns) [
        | inl l ↦ l
        | inr l ↦
            let z : s.columns - read ≡ 0 = omega arith in
            let m = e ∙ ap (blocks_for s.tracks) z ∙ times_none (columns_a_block s.tracks) (some_columns s.tracks some few) in
            absurd (omega (arith, m))
      ]

  pub columns_read : (more n read : ℕ) (cells : List ℕ) → more ≡ blocks_for s.tracks (s.columns - read) → length cells ≡ (s.columns - read) * s.tracks → AllByRecursion (λ x. T (readable k x)) cells → Reads k s read n more cells
  columns_read zero n read cells e long all =
      let l = at_end read e in
      let z : s.columns - read ≡ 0 = omega arith in
      record {
        none = unless_kept (is_full (opened s read)) _ _ (ap is_full (cond-false (ltb read s.columns) (Columns (progress s read)) (Full s) (le-ltb read s.columns l))) refl;
        again = sym (nil_from_length cells (omega (arith, long, ap (λ n. n * s.tracks) z)));
      }
  columns_read (suc more) n read cells e long all =
      let t = s.tracks in
      let w = columns_a_block t * t in
      let l = not_end read more e in
      let p = take w cells in
      let tk = taken s read cells long in
      let fits : length p ≤ 502 = omega (arith, length-take w cells, columns_fit t) in
      let blk = block_bytes columns_letter k.number n p in
      let rest = column_blocks k.number w (suc n) more (drop w cells) in
      let left : s.columns - (read + due s read) ≡ s.columns - read - due s read = omega arith in
      let m = times_more (s.columns - read) (columns_a_block t) (omega arith) (some_columns t some few) in
      let count : more ≡ blocks_for t (s.columns - (read + due s read)) = omega (arith, e, m, ap (blocks_for t) left) in
      let ih = columns_read more (suc n) (read + due s read) (drop w cells) count tk.1 (All-drop (λ x. T (readable k x)) w cells all) in
      let first : take 512 (blk ++ rest) ≡ blk = take_at blk rest 512 (length_block columns_letter k.number n p fits) in
      let others : drop 512 (blk ++ rest) ≡ rest = drop_at blk rest 512 (length_block columns_letter k.number n p fits) in
      let stage : opened s read ≡ Columns (progress s read) = cond-true (ltb read s.columns) (Columns (progress s read)) (Full s) (lt-ltb read s.columns l) in
      let turn : columns_refusal k s read n blk ≡ None =
      unless_kept (expected k n blk) _ _ (expected_is k columns_letter n p fits)
      (unless_kept (eqb (payload_length blk) (due s read * t)) _ _ (eq-eqb (payload_length blk) (due s read * t) (payload_length_is columns_letter k.number n p fits ∙ tk.0))
      (symbols_none k Book (512 * n + 6) (payload blk) (subst (AllByRecursion (λ x. T (readable k x))) (sym (payload_is columns_letter k.number n p fits)) (All-take (λ x. T (readable k x)) w cells all)))) in
      record {
        none =
            (λ i. then (block_refusal n (first i)) (then (turn_refusal k (stage i) n (first i)) (blocks_refusal k (after (stage i) (first i)) (suc n) more (others i))))
            ∙ then_both (block_refusal n blk) _ (block_none columns_letter k.number n n p fits refl kind) (then_both (columns_refusal k s read n blk) _ turn ih.none);
        again = (λ i. payload (first i) ++ payloads more (others i)) ∙ (λ i. payload_is columns_letter k.number n p fits i ++ ih.again i) ∙ take-append-drop w cells;
      }

module _ (k : Kind) (g : Grid) (score : ScoreOf k g) (kind : known k.number ≡ true) where
  pub book_reads : (book_refusal k (bytes_of k g) ≡ None) × (held (bytes_of k g) ≡ g)
  unfolding bytes_of
  book_reads =
      let s : Shape = record { tracks = g.tracks; columns = g.columns } in
      let some = score.shaped.some_track in
      let few = score.shaped.few_tracks in
      let w = columns_a_block g.tracks * g.tracks in
      let count = blocks_for g.tracks g.columns in
      let p = g.tracks ∷ two g.columns in
      let fits : length p ≤ 502 = omega arith in
      let title = block_bytes title_letter k.number 0 p in
      let rest = column_blocks k.number w 1 count g.cells in
      let all : g.columns ≡ g.columns - 0 = omega arith in
      let r = columns_read k s some few kind count 1 0 g.cells (ap (blocks_for g.tracks) all) (score.shaped.whole ∙ ap (λ n. n * g.tracks) all) score.symbols in
      let lt = length_block title_letter k.number 0 p fits in
      let len = length_bytes k g in
      let first : take 512 (bytes_of k g) ≡ title = take_at title rest 512 lt in
      let others : drop 512 (bytes_of k g) ≡ rest = drop_at title rest 512 lt in
      let blocks : length (bytes_of k g) / 512 ≡ suc count = omega (arith, len) in
      let shape : title_shape title ≡ s = (λ i. record { tracks = g.tracks; columns = (let e : g.columns / 256 * 256 + g.columns % 256 ≡ g.columns = omega arith in e) i }) in
      let lawful : in_shape (title_shape title) ≡ true =
      ap in_shape shape
      ∙ and_from (leb 1 g.tracks && leb g.tracks 16) (leb g.columns 4096) (and_from (leb 1 g.tracks) (leb g.tracks 16) (le-leb 1 g.tracks some) (le-leb g.tracks 16 few)) (le-leb g.columns 4096 score.shaped.few_columns) in
      let turn : title_refusal k 0 title ≡ None =
      unless_kept (expected k 0 title) _ _ (expected_is k title_letter 0 p fits)
      (unless_kept (eqb (payload_length title) 3 && in_shape (title_shape title)) _ _ (and_from (eqb (payload_length title) 3) (in_shape (title_shape title)) (eq-eqb (payload_length title) 3 (payload_length_is title_letter k.number 0 p fits)) lawful) refl) in
      let walk : blocks_refusal k Title 0 (suc count) (bytes_of k g) ≡ None =
      (λ i. then (block_refusal 0 (first i)) (then (title_refusal k 0 (first i)) (blocks_refusal k (opened (title_shape (first i)) 0) 1 count (others i))))
      ∙ then_both (block_refusal 0 title) _ (block_none title_letter k.number 0 0 p fits refl kind) (then_both (title_refusal k 0 title) _ turn (ap (λ x. blocks_refusal k (opened x 0) 1 count rest) shape ∙ r.none)) in
      let whole : whole_blocks (length (bytes_of k g)) ≡ true =
      and_from (leb 1 (length (bytes_of k g))) (eqb (length (bytes_of k g) % 512) 0) (le-leb 1 (length (bytes_of k g)) (omega (arith, len))) (eq-eqb (length (bytes_of k g) % 512) 0 (omega (arith, len))) in
      let cells : payloads (length (bytes_of k g) / 512 - 1) (drop 512 (bytes_of k g)) ≡ g.cells =
      (λ i. payloads (blocks i - 1) (others i)) ∙ ap (λ n. payloads n rest) (let e : suc count - 1 ≡ count = omega arith in e) ∙ r.again in (
        unless_kept (whole_blocks (length (bytes_of k g))) _ _ whole (ap (λ n. blocks_refusal k Title 0 n (bytes_of k g)) blocks ∙ walk),
        (λ i. record { tracks = (shape i).tracks; columns = (shape i).columns; cells = cells i }),
      )
