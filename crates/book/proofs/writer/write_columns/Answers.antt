use Rattle.std.proofs.Common.{rules, ◌≡◌, ℕ, ◌+◌, ◌-◌, ◌*◌, ◌<◌, ◌≤◌, List, ◌++◌, min, map, length, take, drop, sym, ap, ◌∙◌, append-nil, suc-mul, arith}
use Rattle.std.specs.Slice.Iter.{chunks_rest, chunks_size, chunk_count}
use Rattle.std.proofs.lemmas.List.{take-append-drop, take-map, drop-map, drop-drop, length-drop, length-map}
use Rattle.book.specs.Blocks.{block_bytes, columns_letter}
use Rattle.book.specs.Grids.{column_blocks}
use Rattle.book.proofs.Blocking.{block_more, fits_block}
use Rattle.book.proofs.Chunking.{Left, front_part, one_more, no_more}
use Rattle.book.proofs.writer.write_columns.Goals as goal

-- a part that is there, and what follows it
module _ {S : Type 0} (xs : List S) (w m size : ℕ) (rest part after : List S) (some : 0 < w) (left : Left xs w m size rest) (is : rest ≡ part ++ after) (long : length part ≡ min size (length rest)) (more : 0 < length rest) where
  shorter : length rest ≡ length xs - m * w
  shorter = ap length left.rest_is ∙ length-drop (m * w) xs

  next : m + 1 ≤ chunk_count (length xs) w
  next = one_more (length xs) w m some (omega (arith, shorter))

  parts : (part ≡ take w rest) × (after ≡ drop w rest)
  parts = front_part w rest part after is (long ∙ ap (λ s. min s (length rest)) left.size_is)

  part_is : part ≡ take w (drop (m * w) xs)
  part_is = parts.0 ∙ ap (take w) left.rest_is

  onward : (size' m' : ℕ) → size' ≡ size → m' ≡ m + 1 → Left xs w m' size' after
  onward size' m' same one =
      let grown : (m + 1) * w ≡ m * w + w = omega (arith, suc-mul m w) in
      record {
        size_is = same ∙ left.size_is;
        rest_is = parts.1 ∙ ap (drop w) left.rest_is ∙ drop-drop w (m * w) xs ∙ ap (λ n. drop n xs) (sym grown ∙ ap (λ n. n * w) (sym one));
        within = omega (arith, next);
      }

pub loop-m-init : goal.loop-m-init
loop-m-init g c =
    let start = c.into_iter-m-iterator.ensures.into_iter_gives in
    let e = c.enumerate-m-items.ensures in
    let count : c.into_iter-m-iterator.result.count ≡ 0 = ap (λ i. i.count) start ∙ e.count in
    let iter = ap (λ i. i.iter) start ∙ e.source in
    let d = c.args.out.now in
    let zero : 0 ≡ 0 * c.args.a_block = omega arith in (
      search rules,
      tt,
      record {
        size_is = ap chunks_size iter ∙ c.chunks.ensures.size;
        rest_is = ap chunks_rest iter ∙ c.chunks.ensures.rest ∙ ap (λ n. drop n c.args.symbols.now) (zero ∙ ap (λ n. n * c.args.a_block) (sym count));
        within = omega (arith, count);
      },
      sym (ap (λ n. take 512 d ++ column_blocks g.S.Symbol.kind.number c.args.a_block 1 n (map g.S.Symbol.byte c.args.symbols.now) ++ drop (512 * (1 + n)) d) count ∙ ap (λ x. x ++ drop 512 d) (append-nil (take 512 d)) ∙ take-append-drop 512 d),
    )

pub slice_bounds-block-end : goal.slice_bounds-block-end
slice_bounds-block-end g c =
    let s = c.in-Some.ensures.steps in
    let inside = next c.args.symbols.now c.args.a_block c.loop-m.m-iterator.count _ _ c.in-Some.part.now _ c.requires.some c.loop-m.invariant.2 s.0.1.0 s.0.1.1 s.0.1.2 in
    omega (arith, inside, s.1)

pub loop-m-preserved : goal.loop-m-preserved
loop-m-preserved g c =
    let s = c.in-Some.ensures.steps in
    let m = c.loop-m.m-iterator.count in
    let w = c.args.a_block in
    let f = g.S.Symbol.byte in
    let kind = g.S.Symbol.kind.number in
    let xs = c.args.symbols.now in
    let part = c.in-Some.part.now in
    let left = c.loop-m.invariant.2 in
    let inside = next xs w m _ _ part _ c.requires.some left s.0.1.0 s.0.1.1 s.0.1.2 in
    let is = part_is xs w m _ _ part _ c.requires.some left s.0.1.0 s.0.1.1 s.0.1.2 in
    let p = c.in-Some.m in
    let d = c.args.out.now in
    let cells = map f xs in
    let written : ℕ → List ℕ = λ n. take 512 d ++ column_blocks kind w 1 n cells ++ drop (512 * (1 + n)) d in
    let short : take 502 (map f part) ≡ map f part = fits_block (map f part) (omega (arith, length-map part f, s.0.1.1, left.size_is, c.requires.small)) in
    let own : map f part ≡ take w (drop (p * w) cells) = ap (map f) is ∙ sym (take-map f w (drop (m * w) xs)) ∙ ap (take w) (sym (drop-map f (m * w) xs)) ∙ ap (λ n. take w (drop (n * w) cells)) (sym s.1) in (
      search rules,
      tt,
      onward xs w m _ _ part _ c.requires.some left s.0.1.0 s.0.1.1 s.0.1.2 _ _ s.0.0 s.2,
      block_more kind w p (512 * (p + 1) + 512 - 512 * (p + 1)) cells d c.loop-m.out c.write_block.new.out (omega (arith, inside, s.1)) c.requires.small (omega arith) (c.loop-m.invariant.3 ∙ ap written (sym s.1)) (c.write_block.ensures ∙ ap (block_bytes columns_letter kind (p + 1)) (short ∙ own))
          ∙ ap written (let one : p + 1 ≡ c.next.new.self.count = omega (arith, s.1, s.2) in one),
    )

pub returns : goal.returns
returns g c =
    let s = c.in-None.ensures.steps in
    let m = c.loop-m.m-iterator.count in
    let left = c.loop-m.invariant.2 in
    let last = no_more (length c.args.symbols.now) c.args.a_block m c.requires.some (omega (arith, s.0.1.0, ap length left.rest_is ∙ length-drop (m * c.args.a_block) c.args.symbols.now)) left.within in
    c.loop-m.invariant.3 ∙ ap (λ n. take 512 c.args.out.now ++ column_blocks g.S.Symbol.kind.number c.args.a_block 1 n (map g.S.Symbol.byte c.args.symbols.now) ++ drop (512 * (1 + n)) c.args.out.now) last
