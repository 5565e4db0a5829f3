use Rattle.std.proofs.Common.{◌≡◌, ℕ, ◌≤◌, ◌++◌, take, drop, ◌+◌, ◌*◌, ◌/◌, ◌%◌, ◌<◌, [], ◌∷◌, length, get_or, arith, sym, refl, ap, ◌∙◌, subst}
use Rattle.std.proofs.lemmas.Result.{err_from_is_err_and}
use Rattle.book.specs.Blocks.{block_bytes, title_letter}
use Rattle.std.specs.Slice.Iter.{chunk_count}
use Rattle.std.proofs.lemmas.List.{length-append, length-drop, length-take}
use Rattle.std.proofs.lemmas.Nat.{le-div}
use Rattle.book.specs.Grids.{spelled, blocks_for, column_blocks}
use Rattle.book.proofs.Chunking.{blocks_are}
use Rattle.book.proofs.Blocking.{book_done}
use Rattle.book.proofs.Complete.{length_bytes}
use Rattle.book.proofs.grid.Grid.write.Goals as goal

-- the parts of the symbols are as many as the blocks
as_many : (t c l : ℕ) → 1 ≤ t → t ≤ 16 → l ≡ c * t → chunk_count l (502 / t * t) ≡ blocks_for t c
as_many t c l some few whole = ap (λ n. chunk_count n (502 / t * t)) whole ∙ blocks_are t c (502 / t) some (le-div 1 502 t some (omega arith))

pub returns-in_err-has_room : goal.returns-in_err-has_room
returns-in_err-has_room g c =
    let p = err_from_is_err_and c.from_residual.result c.from_residual.ensures.1 in
    let s = c.args.self.now in
    let len = length_bytes g.S.Symbol.kind (spelled g.S.Symbol.byte s.tracks s.columns s.symbols.now) in
    let needed = ap (λ n. 512 * (1 + n)) c.blocks_for-blocks.ensures.0 ∙ sym len in
    let h = c.in_err-has_room.ensures in
    rw (p.1, p.2) (subst (λ n. length c.args.out.now < n) needed h.0, h.1 ∙ needed, refl)

pub returns : goal.returns
returns g c =
    let s = c.args.self.now in
    let k = g.S.Symbol.kind in
    let grid = spelled g.S.Symbol.byte s.tracks s.columns s.symbols.now in
    let e = c.blocks_for-blocks.ensures.0 in
    let titled = c.write_block.new.out ++ drop 512 c.args.out.now in
    (ap (λ n. 512 * (1 + n)) e ∙ sym (length_bytes k grid), c.in_ok-has_room.ensures, book_done k grid c.blocks_for-blocks.result c.args.out.now c.write_block.new.out c.write_columns.new.out e (c.write_block.ensures ∙ ap (λ xs. block_bytes title_letter k.number 0 (s.tracks ∷ get_or xs 0 0 ∷ get_or xs 1 0 ∷ [])) c.to_be_bytes.ensures ∙ ap (λ h. block_bytes title_letter k.number 0 (s.tracks ∷ h ∷ s.columns % 256 ∷ [])) (let q : s.columns / 256 % 256 ≡ s.columns / 256 = omega arith in q)) (c.write_columns.ensures ∙ ap (λ n. take 512 titled ++ column_blocks k.number (502 / s.tracks * s.tracks) 1 n grid.cells ++ drop (512 * (1 + n)) titled) (as_many s.tracks s.columns (length s.symbols.now) s.some_track s.few_tracks s.whole ∙ sym e)))

pub write_columns-requires-clause-room : goal.write_columns-requires-clause-room
write_columns-requires-clause-room g c =
    let s = c.args.self.now in
    let many = as_many s.tracks s.columns (length s.symbols.now) s.some_track s.few_tracks s.whole ∙ sym c.blocks_for-blocks.ensures.0 in
    omega (arith, many, c.in_ok-has_room.ensures, length-append c.write_block.new.out (drop 512 c.args.out.now), c.write_block.auto.out, length-drop 512 c.args.out.now, length-take 512 c.args.out.now)

pub write_columns-requires-clause-few : goal.write_columns-requires-clause-few
write_columns-requires-clause-few g c =
    let s = c.args.self.now in
    let many = as_many s.tracks s.columns (length s.symbols.now) s.some_track s.few_tracks s.whole ∙ sym c.blocks_for-blocks.ensures.0 in
    omega (arith, many, c.blocks_for-blocks.ensures.1)
