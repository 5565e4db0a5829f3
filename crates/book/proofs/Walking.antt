-- The reading of a book, one block further.
use Rattle.std.proofs.Common.{◌≡◌, ℕ, zero, suc, ◌+◌, ◌-◌, ◌*◌, ◌<◌, Bool, true, false, cond, ltb, List, length, take, drop, get_or, Some, None, Option, sym, refl, ap, ◌∙◌, subst, arith}
use Rattle.std.specs.Simd.{first_chunks}
use Rattle.std.proofs.lemmas.List.{drop-drop, get_or-take}
use Rattle.notation.specs.Kind.{Kind}
use Rattle.book.specs.Refusals.{then}
use Rattle.book.specs.Blocks.{block_refusal}
use Rattle.book.specs.Books.{progress, blocks_refusal, turn_refusal, after, title_shape}
use Rattle.book.specs.declared.refusal.Refusal.{Refusal}
use Rattle.book.specs.Shapes.{Shape}
use Rattle.book.specs.declared.stage.Stage.{Stage}
use Rattle.book.specs.declared.stage.Stage.TheVariants.{Title, Columns, Full}

then_none : (a b c : Option Refusal) → a ≡ None → b ≡ None → then a (then b c) ≡ c
then_none a b c e f = (λ i. then (e i) (then (f i) c))

then_some : (a b c : Option Refusal) (r : Refusal) → a ≡ None → b ≡ Some r → then a (then b c) ≡ Some r
then_some a b c r e f = (λ i. then (e i) (then (f i) c))

-- the input from block n on
abbrev pub from_block : ℕ → List ℕ → List ℕ
from_block n input = drop (512 * n) input

abbrev pub block_at : ℕ → List ℕ → List ℕ
block_at n input = take 512 (from_block n input)

-- the blocks of an input, one by one
pub chunk_at : (i k : ℕ) (xs d : List ℕ) → i < k → get_or (first_chunks 512 k xs) i d ≡ take 512 (drop (512 * i) xs)
chunk_at i zero xs d l = absurd (omega arith)
chunk_at zero (suc k) xs d l = refl
chunk_at (suc i) (suc k) xs d l = chunk_at i k (drop 512 xs) d (omega arith) ∙ ap (take 512) (drop-drop (512 * i) 512 xs ∙ ap (λ m. drop m xs) (let e : 512 + 512 * i ≡ 512 * suc i = omega arith in e))

pub length_chunks : (k : ℕ) (xs : List ℕ) → length (first_chunks 512 k xs) ≡ k
length_chunks zero xs = refl
length_chunks (suc k) xs = ap suc (length_chunks k (drop 512 xs))

-- the stage knows the shape that the first block tells
abbrev pub Knows : Stage → ℕ → Shape → Type 0
Knows Title n s = n ≡ 0
Knows (Columns p) n s = p.shape ≡ s
Knows (Full t) n s = t ≡ s

knows_opened : (t s : Shape) (read n : ℕ) (b : Bool) → t ≡ s → Knows (cond b (Columns (progress t read)) (Full t)) n s
knows_opened t s read n true e = e
knows_opened t s read n false e = e

pub first_title : (n : ℕ) (input : List ℕ) → n ≡ 0 → title_shape (block_at n input) ≡ title_shape input
first_title n input e =
    ap (λ m. title_shape (take 512 (drop (512 * m) input))) e
    ∙ (λ i. record { tracks = get_or-take 512 input 6 0 (omega arith) i; columns = get_or-take 512 input 7 0 (omega arith) i * 256 + get_or-take 512 input 8 0 (omega arith) i })

knows_on : (stage : Stage) (n : ℕ) (input : List ℕ) → Knows stage n (title_shape input) → Knows (after stage (block_at n input)) (n + 1) (title_shape input)
knows_on Title n input e = knows_opened (title_shape (block_at n input)) (title_shape input) 0 (n + 1) (ltb 0 (title_shape (block_at n input)).columns) (first_title n input e)
knows_on (Columns p) n input e = knows_opened p.shape (title_shape input) _ (n + 1) (ltb _ p.shape.columns) e
knows_on (Full s) n input e = e

module _ (k : Kind) (stage : Stage) (n blocks : ℕ) (input : List ℕ) (more : n < blocks) where
  left : blocks_refusal k stage n (blocks - n) (from_block n input) ≡ then (block_refusal n (block_at n input)) (then (turn_refusal k stage n (block_at n input)) (blocks_refusal k (after stage (block_at n input)) (n + 1) (blocks - (n + 1)) (from_block (n + 1) input)))
  left =
      let e : blocks - n ≡ suc (blocks - (n + 1)) = omega arith in
      let f : suc n ≡ n + 1 = omega arith in
      let g : drop 512 (from_block n input) ≡ from_block (n + 1) input = drop-drop 512 (512 * n) input ∙ ap (λ m. drop m input) (let h : 512 * n + 512 ≡ 512 * (n + 1) = omega arith in h) in
      ap (λ m. blocks_refusal k stage n m (from_block n input)) e
      ∙ ap (λ m. then (block_refusal n (block_at n input)) (then (turn_refusal k stage n (block_at n input)) (blocks_refusal k (after stage (block_at n input)) m (blocks - (n + 1)) (drop 512 (from_block n input))))) f
      ∙ ap (λ r. then (block_refusal n (block_at n input)) (then (turn_refusal k stage n (block_at n input)) (blocks_refusal k (after stage (block_at n input)) (n + 1) (blocks - (n + 1)) r))) g

  -- the block that is read there: block m, with the bytes b
  module _ (m : ℕ) (b : List ℕ) (own : m ≡ n) (is : b ≡ block_at n input) where
    pub walk_on : block_refusal n b ≡ None → turn_refusal k stage m b ≡ None → blocks_refusal k stage n (blocks - n) (from_block n input) ≡ blocks_refusal k (after stage b) (n + 1) (blocks - (n + 1)) (from_block (n + 1) input)
    walk_on e f =
        left
        ∙ then_none (block_refusal n (block_at n input)) (turn_refusal k stage n (block_at n input)) (blocks_refusal k (after stage (block_at n input)) (n + 1) (blocks - (n + 1)) (from_block (n + 1) input)) (ap (block_refusal n) (sym is) ∙ e) ((λ i. turn_refusal k stage (sym own i) (sym is i)) ∙ f)
        ∙ ap (λ x. blocks_refusal k (after stage x) (n + 1) (blocks - (n + 1)) (from_block (n + 1) input)) (sym is)

    pub walk_stops : (r : Refusal) → block_refusal n b ≡ None → turn_refusal k stage m b ≡ Some r → blocks_refusal k stage n (blocks - n) (from_block n input) ≡ Some r
    walk_stops r e f =
        left
        ∙ then_some (block_refusal n (block_at n input)) (turn_refusal k stage n (block_at n input)) (blocks_refusal k (after stage (block_at n input)) (n + 1) (blocks - (n + 1)) (from_block (n + 1) input)) r (ap (block_refusal n) (sym is) ∙ e) ((λ i. turn_refusal k stage (sym own i) (sym is i)) ∙ f)

    pub knows_more : Knows stage n (title_shape input) → Knows (after stage b) (n + 1) (title_shape input)
    knows_more h = subst (λ x. Knows (after stage x) (n + 1) (title_shape input)) (sym is) (knows_on stage n input h)

  -- or a block that is refused by itself
  pub walk_refused : (b : List ℕ) → b ≡ block_at n input → (r : Refusal) → block_refusal n b ≡ Some r → blocks_refusal k stage n (blocks - n) (from_block n input) ≡ Some r
  walk_refused b is r e = left ∙ ap (λ o. then o (then (turn_refusal k stage n (block_at n input)) (blocks_refusal k (after stage (block_at n input)) (n + 1) (blocks - (n + 1)) (from_block (n + 1) input)))) (ap (block_refusal n) (sym is) ∙ e)
