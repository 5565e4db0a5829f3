-- A score filled from a book, and a score written as one.
use Rattle.std.proofs.Common.{◌≡◌, ℕ, zero, suc, ◌+◌, ◌-◌, ◌*◌, ◌/◌, ◌%◌, ◌<◌, ◌≤◌, true, false, T, eqb, leb, List, [], ◌∷◌, ◌++◌, map, length, get_or, take, set, None, ap, ◌∙◌, arith}
use lib.Seq.{paste}
use Rattle.std.proofs.lemmas.Nat.{div-add-mod', div_below, mod_below, div-mul-add, mod-mul-add}
use Rattle.std.proofs.lemmas.List.Edits.{paste_more, paste_all}
use Rattle.std.proofs.lemmas.List.{append-nil, drop_all, length-map, length-take-le, map-set}
use Rattle.std.proofs.lemmas.Bool.{cond-true, eq-eqb, le-leb, and_from, both_ways}
use Rattle.std.specs.List.{AllByRecursion}
use Rattle.notation.specs.Kind.{Kind, readable}
use Rattle.book.specs.Books.{book_refusal, held}
use Rattle.book.specs.Grids.{Grid, ScoreOf, in_grid}
use Rattle.book.specs.Reading.{has_place, cell_number}
use Rattle.book.specs.Refusals.{refusal, unless, then}
use Rattle.book.specs.declared.refusal.Layer.TheVariants.{Score}
use Rattle.search.specs.Columns.{columns_of}
use Rattle.finder.specs.Edits.{grid_columns}
use Rattle.finder.specs.ScoreRules.{fill_refusal}
use Rattle.finder.proofs.ColumnEdits.{columns_before, is_place}

-- cell i stands in column i / t and on track i % t
cell_place : (t i : ℕ) → cell_number t (i / t + 1) (i % t + 1) ≡ i
cell_place t i =
    let a : i / t + 1 - 1 ≡ i / t = omega arith in
    let b : i % t + 1 - 1 ≡ i % t = omega arith in
    (λ k. a k * t + b k) ∙ div-add-mod' i t

place_there : (t n i : ℕ) → 1 ≤ t → i < n * t → has_place t n (i / t + 1) (i % t + 1) ≡ true
place_there t n i h l = is_place t n (i / t + 1) (i % t + 1) (omega arith) (omega (arith, div_below i t n h l)) (omega arith) (omega (arith, mod_below i t h))

-- one more symbol copied
module _ {S : Type 0} (byte : S → ℕ) (g : Grid) (whole : length g.cells ≡ g.columns * g.tracks) (first memory : List S) (i : ℕ) (some_track : 1 ≤ g.tracks) (l : i < g.columns * g.tracks) (fits : g.columns * g.tracks ≤ length first) where
  pub symbol_copied : (x : S) → byte x ≡ get_or g.cells (cell_number g.tracks (i / g.tracks + 1) (i % g.tracks + 1)) 0 → map byte memory ≡ paste (map byte first) 0 g.cells i → map byte (set memory i x) ≡ paste (map byte first) 0 g.cells (i + 1)
  symbol_copied x is inv =
      let at : i ≡ 0 + i = omega arith in
      let b : byte x ≡ get_or g.cells i 0 = is ∙ ap (λ n. get_or g.cells n 0) (cell_place g.tracks i) in
      map-set byte memory i x
      ∙ (λ k. set (inv k) (at k) (b k))
      ∙ paste_more (map byte first) 0 g.cells i 0 (omega (arith, length-map first byte)) (omega arith)

  -- and there is one
  pub symbol_missing : has_place g.tracks g.columns (i / g.tracks + 1) (i % g.tracks + 1) ≡ false → ⊥
  symbol_missing f = both_ways _ f (place_there g.tracks g.columns i some_track l)

-- all symbols copied
pub symbols_copied : {S : Type 0} (byte : S → ℕ) (g : Grid) → length g.cells ≡ g.columns * g.tracks → (first memory : List S) (i : ℕ) → i ≡ length first → length first ≡ g.columns * g.tracks → map byte memory ≡ paste (map byte first) 0 g.cells i → map byte memory ≡ g.cells
symbols_copied byte g whole first memory i all as_many inv =
    let n : i ≡ length g.cells = omega arith in
    inv ∙ paste_all (map byte first) 0 g.cells i n ∙ ap (λ xs. g.cells ++ xs) (drop_all (0 + i) (map byte first) (omega (arith, length-map first byte))) ∙ append-nil g.cells

-- the columns of memory into which a book was copied
pub book_copied : {S : Type 0} (byte : S → ℕ) (g : Grid) (t n : ℕ) (cells : List S) (rest : List ℕ) → length g.cells ≡ g.columns * g.tracks → t ≡ g.tracks → n ≡ g.columns → map byte cells ≡ g.cells ++ rest → columns_of t n (map byte cells) ≡ grid_columns g
book_copied byte g t n cells rest whole e f is = (λ k. columns_of (e k) (f k) (is k)) ∙ columns_before g.tracks g.columns g.cells rest whole

-- a filling is granted
module _ (k : Kind) (t cap : ℕ) (input : List ℕ) (none : book_refusal k input ≡ None) where
  pub fill_granted : (held input).tracks ≡ t → (held input).columns ≤ cap → fill_refusal k t cap input ≡ None
  fill_granted e l =
      (λ j. then (none j) (unless (eqb (held input).tracks t) (refusal 13 (held input).tracks Score) (unless (leb (held input).columns cap) (refusal 14 cap Score) None)))
      ∙ cond-true _ _ _ (eq-eqb (held input).tracks t e)
      ∙ cond-true _ _ _ (le-leb (held input).columns cap l)

-- memory in front of which a score's columns lie has the shape of a grid
pub in_shape : (t n len : ℕ) → 1 ≤ t → t ≤ 16 → n ≤ 4096 → len ≡ n * t → (in_grid t len ≡ true) × (len / t ≡ n)
in_shape t n len t1 t16 few e =
    let z : n * t ≡ n * t + 0 = omega arith in
    let q : len / t ≡ n = ap (λ m. m / t) (e ∙ z) ∙ div-mul-add n t 0 (omega arith) in
    let r : len % t ≡ 0 = ap (λ m. m % t) (e ∙ z) ∙ mod-mul-add n t 0 (omega arith) in
    (and_from _ _ (and_from _ _ (and_from _ _ (le-leb 1 t t1) (le-leb t 16 t16)) (eq-eqb (len % t) 0 r)) (le-leb (len / t) 4096 (omega arith)), q)

all_bytes : {S : Type 0} (byte : S → ℕ) (P : ℕ → Type 0) → ((s : S) → P (byte s)) → (n : ℕ) (xs : List S) → AllByRecursion P (take n (map byte xs))
all_bytes byte P law zero xs = tt
all_bytes byte P law (suc n) [] = tt
all_bytes byte P law (suc n) (x ∷ xs) = (law x, all_bytes byte P law n xs)

-- what a score holds is a score of its kind
pub score_spelled : {S : Type 0} (k : Kind) (byte : S → ℕ) → ((s : S) → T (readable k (byte s))) → (t n : ℕ) (cells : List S) → 1 ≤ t → t ≤ 16 → n ≤ 4096 → n * t ≤ length cells → ScoreOf k (record { tracks = t; columns = n; cells = take (n * t) (map byte cells) })
score_spelled k byte law t n cells t1 t16 few room =
    record {
      shaped = record { some_track = t1; few_tracks = t16; few_columns = few; whole = length-take-le (n * t) (map byte cells) (omega (arith, length-map cells byte)) };
      symbols = all_bytes byte (λ b. T (readable k b)) law (n * t) cells;
    }
