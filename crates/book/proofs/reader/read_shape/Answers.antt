use Rattle.std.proofs.Common.{◌≡◌, ℕ, ◌+◌, true, false, List, Option, Result, MatchResult, Ok, Err, None, ◌-◌, ◌/◌, ◌<◌, [], length, get_or, Some, sym, ap, ◌∙◌, subst, arith}
use Rattle.notation.specs.Kind.{Kind}
use Rattle.std.proofs.lemmas.Result.{err_from_is_err_and}
use Rattle.std.proofs.lemmas.Bool.{cond-true}
use Rattle.std.specs.Simd.{first_chunks}
use Rattle.book.specs.Books.{blocks_refusal, book_refusal, whole_blocks, title_shape, is_full}
use Rattle.book.specs.Faults.{book_told, block_told}
use Rattle.book.specs.Blocks.{block_refusal}
use Rattle.book.specs.Refusals.{refusal, unless}
use Rattle.book.specs.Shapes.{Shape}
use Rattle.book.specs.declared.fault.BookFault.{BookFault}
use Rattle.book.specs.declared.fault.BookFault.TheVariants.{Ends}
use Rattle.book.specs.declared.stage.Stage.{Stage}
use Rattle.book.specs.declared.refusal.Refusal.{Refusal}
use Rattle.book.specs.declared.refusal.Layer.TheVariants.{File, Book}
use Rattle.book.specs.declared.stage.Stage.TheVariants.{Title, Full}
use Rattle.book.proofs.Walking.{Knows, from_block, block_at, walk_on, walk_stops, walk_refused, knows_more, chunk_at, length_chunks}
use Rattle.book.proofs.reader.read_shape.Goals as goal

-- what is said of the blocks is said of the book
said : (k : Kind) (input : List ℕ) (blocks : List (List ℕ)) (o : Option Refusal) → whole_blocks (length input) ≡ true → blocks ≡ first_chunks 512 (length input / 512) input → blocks_refusal k Title 0 (length blocks) input ≡ o → book_refusal k input ≡ o
said k input blocks o whole is e =
    cond-true (whole_blocks (length input)) (blocks_refusal k Title 0 (length input / 512) input) (Some (refusal 1 (length input) File)) whole
    ∙ ap (λ n. blocks_refusal k Title 0 n input) (sym (ap length is ∙ length_chunks (length input / 512) input))
    ∙ e

-- a block of the input, as the loop reads it
read_here : (input : List ℕ) (blocks : List (List ℕ)) (n : ℕ) → blocks ≡ first_chunks 512 (length input / 512) input → n < length blocks → get_or blocks n [] ≡ block_at n input
read_here input blocks n is l = ap (λ b. get_or b n []) is ∙ chunk_at n (length input / 512) input [] (omega (arith, ap length is, length_chunks (length input / 512) input))

pub returns-in_err-new : goal.returns-in_err-new
returns-in_err-new g c =
    let p = err_from_is_err_and c.from_residual-in_err-new.result c.from_residual-in_err-new.ensures.1 in
    let w = c.in_ok-blocks.ensures in
    let k = g.S.Symbol.kind in
    let input = c.args.input.now in
    let blocks = c.in_ok-blocks.blocks.now in
    let n = c.loop-n.n in
    let f = c.in_err-new.field-0.0 in
    let stops = said k input blocks (Some (block_told f)) w.0 w.1 (c.loop-n.invariant.0 ∙ walk_refused k c.loop-n.stage n (length blocks) input c.loop-n-test.true (get_or blocks n []) (read_here input blocks n w.1 c.loop-n-test.true) (block_told f) c.in_err-new.ensures) in
    rw (p.1, p.2) stops

pub returns-in_err-stage : goal.returns-in_err-stage
returns-in_err-stage g c =
    let p = err_from_is_err_and c.from_residual-in_err-stage.result c.from_residual-in_err-stage.ensures.1 in
    let w = c.in_ok-blocks.ensures in
    let k = g.S.Symbol.kind in
    let input = c.args.input.now in
    let blocks = c.in_ok-blocks.blocks.now in
    let n = c.loop-n.n in
    let b = c.in_ok-new.field-0 in
    let o = c.in_ok-new.ensures in
    let f = c.in_err-stage.field-0.0 in
    let stops = said k input blocks (Some (book_told f)) w.0 w.1 (c.loop-n.invariant.0 ∙ walk_stops k c.loop-n.stage n (length blocks) input c.loop-n-test.true b.number b.bytes.now o.1 (o.2 ∙ read_here input blocks n w.1 c.loop-n-test.true) (book_told f) (ap (block_refusal n) o.2 ∙ o.0) c.in_err-stage.ensures) in
    rw (p.1, p.2) stops

pub loop-n-preserved : goal.loop-n-preserved
loop-n-preserved g c =
    let w = c.in_ok-blocks.ensures in
    let k = g.S.Symbol.kind in
    let input = c.args.input.now in
    let blocks = c.in_ok-blocks.blocks.now in
    let n = c.loop-n.n in
    let b = c.in_ok-new.field-0 in
    let o = c.in_ok-new.ensures in
    let h = c.in_ok-stage.ensures in
    let read = o.2 ∙ read_here input blocks n w.1 c.loop-n-test.true in (
      c.loop-n.invariant.0
          ∙ walk_on k c.loop-n.stage n (length blocks) input c.loop-n-test.true b.number b.bytes.now o.1 read (ap (block_refusal n) o.2 ∙ o.0) h.0
          ∙ ap (λ s. blocks_refusal k s (n + 1) (length blocks - (n + 1)) (from_block (n + 1) input)) (sym h.1),
      subst (λ s. Knows s (n + 1) (title_shape input)) (sym h.1) (knows_more k c.loop-n.stage n (length blocks) input c.loop-n-test.true b.number b.bytes.now o.1 read c.loop-n.invariant.1),
    )

-- after the last block
ended : (k : Kind) (input : List ℕ) (blocks : List (List ℕ)) (stage : Stage) (n : ℕ) (r : Result Shape BookFault) → n ≡ length blocks → whole_blocks (length input) ≡ true → blocks ≡ first_chunks 512 (length input / 512) input → blocks_refusal k Title 0 (length blocks) input ≡ blocks_refusal k stage n (length blocks - n) (from_block n input) → Knows stage n (title_shape input) → MatchResult r (λ s. stage ≡ Full s) (λ f. (is_full stage ≡ false) × (f ≡ Ends (length blocks))) → MatchResult r (λ s. (book_refusal k input ≡ None) × (s ≡ title_shape input)) (λ f. book_refusal k input ≡ Some (book_told f))
ended k input blocks stage n (Ok s) at whole is walk knows e =
    let none : length blocks - n ≡ 0 = omega (arith, at) in (
      said k input blocks None whole is (walk ∙ ap (λ m. blocks_refusal k stage n m (from_block n input)) none ∙ ap (λ t. unless (is_full t) (refusal 10 n Book) None) e),
      subst (λ t. Knows t n (title_shape input)) e knows,
    )
ended k input blocks stage n (Err f) at whole is walk knows e =
    let none : length blocks - n ≡ 0 = omega (arith, at) in
    said k input blocks (Some (book_told f)) whole is (
    walk
    ∙ ap (λ m. blocks_refusal k stage n m (from_block n input)) none
    ∙ ap (λ b. unless b (refusal 10 n Book) None) e.0
    ∙ ap (λ m. Some (book_told (Ends m))) at
    ∙ ap (λ x. Some (book_told x)) (sym e.1)
    )

pub returns : goal.returns
returns g c =
    let w = c.in_ok-blocks.ensures in
    ended g.S.Symbol.kind c.args.input.now c.in_ok-blocks.blocks.now c.loop-n.stage c.loop-n.n c.finish.result (omega arith) w.0 w.1 c.loop-n.invariant.0 c.loop-n.invariant.1 c.finish.ensures
