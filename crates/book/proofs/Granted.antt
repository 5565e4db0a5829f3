-- Bytes that no rule refuses are the bytes of the score that they hold.
use Rattle.std.proofs.Common.{◌≡◌, ℕ, zero, suc, ◌+◌, ◌-◌, ◌*◌, ◌/◌, ◌%◌, ◌<◌, ◌≤◌, Bool, true, false, cond, ◌&&◌, T, eqb, ltb, leb, ◌⊎◌, List, ◌∷◌, ◌++◌, length, get_or, take, drop, None, sym, refl, ap, ◌∙◌, subst, inl, inr, add-mul, arith}
use Rattle.std.specs.List.{AllByRecursion}
use Rattle.std.proofs.lemmas.List.{append-nil, take_at, drop_at, take_all, drop_all, length-append, length-drop, length-take-le, take-append-drop, get_or-drop, get_or-take, get_or_past, length-take, nil_from_length, drop_more}
use Rattle.std.proofs.ByRecursion.{All-append}
use Rattle.std.proofs.lemmas.Nat.{mul-le, le-div}
use Rattle.std.proofs.lemmas.Bool.{and_parts, eqb-true, leb-true, ltb-true, ltb-false, cases_lt}
use Rattle.notation.specs.Kind.{Kind, readable}
use Rattle.notation.specs.Known.{known}
use Rattle.book.specs.Blocks.{block_bytes, two, letter, kind_number, number, payload_length, payload, title_letter, columns_letter, known_letter, padded, sound, block_refusal}
use Rattle.book.specs.Grids.{ScoreOf, columns_a_block, blocks_for, column_blocks, bytes_of}
use Rattle.book.specs.Books.{progress, expected, title_shape, in_shape, title_refusal, due, columns_refusal, turn_refusal, opened, after, is_full, blocks_refusal, whole_blocks, book_refusal, payloads, held}
use Rattle.book.specs.declared.refusal.Layer.TheVariants.{Book}
use Rattle.book.specs.Shapes.{Shape}
use Rattle.book.specs.declared.stage.Stage.TheVariants.{Title, Columns, Full}
use Rattle.book.proofs.Rules.{unless_none, then_parts, symbols_read, times_more, times_none}
use Rattle.book.proofs.Fields.{Bytes, bytes_of_fields, length_payload, two_of}
use Rattle.book.proofs.Walking.{first_title}

-- what a block that is not refused by itself keeps
pub block_kept : (n : ℕ) (b : List ℕ) → block_refusal n b ≡ None → (sound b ≡ true) × (known (kind_number b) ≡ true) × (padded b ≡ true)
block_kept n b e =
    let p = unless_none (sound b) _ _ e in
    let q = unless_none (known_letter (letter b) && known (kind_number b)) _ _ p.1 in
    let r = unless_none (padded b) _ _ q.1 in
    (p.0, (and_parts (known_letter (letter b)) (known (kind_number b)) q.0).1, r.0)

pub expected_kept : (k : Kind) (n : ℕ) (b : List ℕ) → expected k n b ≡ true → (number b ≡ n) × (kind_number b ≡ k.number)
expected_kept k n b e = let p = and_parts (eqb (number b) n) (eqb (kind_number b) k.number) e in (eqb-true (number b) n p.0, eqb-true (kind_number b) k.number p.1)

-- a cut after p, where p is w long, or is the last and shorter
pub cut : (w : ℕ) (p q : List ℕ) → (length p ≡ w) ⊎ ((length p ≤ w) × (length q ≡ 0)) → (take w (p ++ q) ≡ p) × (drop w (p ++ q) ≡ q)
cut w p q (inl e) = (take_at p q w e, drop_at p q w e)
cut w p q (inr h) =
    let e = nil_from_length q h.1 in
    let f : p ++ q ≡ p = ap (λ r. p ++ r) e ∙ append-nil p in
    (ap (take w) f ∙ take_all w p h.0, ap (drop w) f ∙ drop_all w p h.0 ∙ sym e)

pub bytes_take : (b : List ℕ) (n : ℕ) → Bytes b → Bytes (take n b)
bytes_take b n h i = elim (cases_lt i n) [ inl l ↦ subst (λ x. x < 256) (sym (get_or-take n b i 0 l)) (h i) | inr l ↦ subst (λ x. x < 256) (sym (get_or_past (take n b) i 0 (omega (arith, length-take n b)))) (omega arith) ]

pub bytes_drop : (b : List ℕ) (n : ℕ) → Bytes b → Bytes (drop n b)
bytes_drop b n h i = subst (λ x. x < 256) (sym (get_or-drop n b i 0)) (h (n + i))

pub some_columns : (t : ℕ) → 1 ≤ t → t ≤ 16 → 0 < columns_a_block t
some_columns t some few = le-div 1 502 t (omega arith) (omega arith)

-- the payloads of column blocks that are not refused: whole columns, read by the kind, and written again they are the bytes
pub record Written (k : Kind) (s : Shape) (read n more : ℕ) (rest : List ℕ) : Type 0 where
  pub again : rest ≡ column_blocks k.number (columns_a_block s.tracks * s.tracks) n more (payloads more rest)
  pub count : more ≡ blocks_for s.tracks (s.columns - read)
  pub long : length (payloads more rest) ≡ (s.columns - read) * s.tracks
  pub symbols : AllByRecursion (λ b. T (readable k b)) (payloads more rest)

-- which stage is open
open_full : (s : Shape) (read : ℕ) (b : Bool) → ltb read s.columns ≡ b → is_full (cond b (Columns (progress s read)) (Full s)) ≡ true → s.columns ≤ read
open_full s read true e h = let z : ◌≡◌ {A = ℕ} 0 1 = cc in absurd (omega arith)
open_full s read false e h = ltb-false read s.columns e

open_turn : (k : Kind) (s : Shape) (read n : ℕ) (b : List ℕ) (t : Bool) → ltb read s.columns ≡ t → turn_refusal k (cond t (Columns (progress s read)) (Full s)) n b ≡ None → (read < s.columns) × (columns_refusal k s read n b ≡ None)
open_turn k s read n b true e h = (ltb-true read s.columns e, h)
open_turn k s read n b false e h = let z : ◌≡◌ {A = ℕ} 0 1 = cc in absurd (omega arith)

open_after : (s : Shape) (read : ℕ) (b : List ℕ) (t : Bool) → ltb read s.columns ≡ t → read < s.columns → after (cond t (Columns (progress s read)) (Full s)) b ≡ opened s (read + due s read)
open_after s read b true e l = refl
open_after s read b false e l = absurd (omega (arith, ltb-false read s.columns e))

module _ (k : Kind) (s : Shape) (some : 1 ≤ s.tracks) (few : s.tracks ≤ 16) where
  left_over : (read : ℕ) → s.columns - (read + due s read) ≡ s.columns - read - due s read
  left_over read = omega arith

  columns_add : (read : ℕ) → read < s.columns → due s read * s.tracks + (s.columns - (read + due s read)) * s.tracks ≡ (s.columns - read) * s.tracks
  columns_add read l = sym (add-mul (due s read) (s.columns - (read + due s read)) s.tracks) ∙ ap (λ n. n * s.tracks) (let e : due s read + (s.columns - (read + due s read)) ≡ s.columns - read = omega arith in e)

  -- a block is full, or nothing follows it
  last_or_full : (read : ℕ) → read < s.columns → (p cells : List ℕ) → length p ≡ due s read * s.tracks → length cells ≡ (s.columns - (read + due s read)) * s.tracks → (length p ≡ columns_a_block s.tracks * s.tracks) ⊎ ((length p ≤ columns_a_block s.tracks * s.tracks) × (length cells ≡ 0))
  last_or_full read l p cells lp lc =
      elim (cases_lt (s.columns - read) (columns_a_block s.tracks)) [
        | inl m ↦
            let z : s.columns - (read + due s read) ≡ 0 = omega arith in
            inr (omega (arith, lp, mul-le (due s read) s.tracks (columns_a_block s.tracks) s.tracks (omega arith) (omega arith)), omega (arith, lc, ap (λ n. n * s.tracks) z))
        | inr m ↦ inl (lp ∙ ap (λ n. n * s.tracks) (let e : due s read ≡ columns_a_block s.tracks = omega arith in e))
      ]

  pub columns_written : (more n read : ℕ) (rest : List ℕ) → length rest ≡ 512 * more → Bytes rest → blocks_refusal k (opened s read) n more rest ≡ None → Written k s read n more rest
  columns_written zero n read rest len bytes e =
      let f = open_full s read (ltb read s.columns) refl (unless_none (is_full (opened s read)) _ None e).0 in
      let z : s.columns - read ≡ 0 = omega arith in
      record {
        again = nil_from_length rest (omega arith);
        count = sym (ap (blocks_for s.tracks) z ∙ times_none (columns_a_block s.tracks) (some_columns s.tracks some few));
        long = omega (arith, ap (λ n. n * s.tracks) z);
        symbols = tt;
      }
  columns_written (suc more) n read rest len bytes e =
      let b = take 512 rest in
      let p = payload b in
      let t = s.tracks in
      let w = columns_a_block t * t in
      let next = read + due s read in
      let cells = payloads more (drop 512 rest) in
      let e1 = then_parts (block_refusal n b) _ e in
      let e2 = then_parts (turn_refusal k (opened s read) n b) _ e1.1 in
      let own = block_kept n b e1.0 in
      let turn = open_turn k s read n b (ltb read s.columns) refl e2.0 in
      let marked = unless_none (eqb (letter b) columns_letter) _ _ turn.1 in
      let numbered = unless_none (expected k n b) _ _ marked.1 in
      let measured = unless_none (eqb (payload_length b) (due s read * t)) _ _ numbered.1 in
      let here = expected_kept k n b numbered.0 in
      let lb : length b ≡ 512 = length-take-le 512 rest (omega arith) in
      let bs : Bytes b = bytes_take rest 512 bytes in
      let lp : length p ≡ due s read * t = length_payload b lb bs own.2 ∙ eqb-true (payload_length b) (due s read * t) measured.0 in
      let as-block : b ≡ block_bytes columns_letter k.number n p =
      bytes_of_fields b lb bs own.2 own.0 ∙ (λ i. block_bytes (eqb-true (letter b) columns_letter marked.0 i) (here.1 i) (here.0 i) p) in
      let ih : Written k s next (suc n) more (drop 512 rest) =
      columns_written more (suc n) next (drop 512 rest) (length-drop 512 rest ∙ omega arith) (bytes_drop rest 512 bytes)
      (subst (λ x. blocks_refusal k x (suc n) more (drop 512 rest) ≡ None) (open_after s read b (ltb read s.columns) refl turn.0) e2.1) in
      let c = cut w p cells (last_or_full read turn.0 p cells lp ih.long) in
      record {
        again =
            sym (take-append-drop 512 rest)
            ∙ (λ i. as-block i ++ ih.again i)
            ∙ (λ i. block_bytes columns_letter k.number n (sym c.0 i) ++ column_blocks k.number w (suc n) more (sym c.1 i));
        count = ap suc (ih.count ∙ ap (blocks_for t) (left_over read)) ∙ sym (times_more (s.columns - read) (columns_a_block t) (omega (arith, turn.0)) (some_columns t some few));
        long = length-append p cells ∙ (λ i. lp i + ih.long i) ∙ columns_add read turn.0;
        symbols = All-append (λ x. T (readable k x)) p cells (symbols_read k Book (512 * n + 6) p measured.1) ih.symbols;
      }

in_shape_kept : (s : Shape) → in_shape s ≡ true → (1 ≤ s.tracks) × (s.tracks ≤ 16) × (s.columns ≤ 4096)
in_shape_kept s e =
    let p = and_parts (leb 1 s.tracks && leb s.tracks 16) (leb s.columns 4096) e in
    let q = and_parts (leb 1 s.tracks) (leb s.tracks 16) p.0 in
    (leb-true 1 s.tracks q.0, leb-true s.tracks 16 q.1, leb-true s.columns 4096 p.1)

-- a title's payload writes the shape that it tells
title_payload : (b : List ℕ) → length b ≡ 512 → Bytes b → payload_length b ≡ 3 → payload b ≡ (title_shape b).tracks ∷ two (title_shape b).columns
title_payload b l bytes e =
    ap (λ n. take n (drop 6 b)) e
    ∙ ap (take 3) (drop_more b 6 0 (omega arith) ∙ ap (λ r. get_or b 6 0 ∷ r) (drop_more b 7 0 (omega arith) ∙ ap (λ r. get_or b 7 0 ∷ r) (drop_more b 8 0 (omega arith))))
    ∙ ap (λ r. get_or b 6 0 ∷ r) (sym (two_of (get_or b 7 0) (get_or b 8 0) (title_shape b).columns (bytes 8) refl))

pub book_written : (k : Kind) (input : List ℕ) → Bytes input → book_refusal k input ≡ None → (known k.number ≡ true) × ScoreOf k (held input) × (input ≡ bytes_of k (held input))
unfolding bytes_of
book_written k input bytes e =
    let w = unless_none (whole_blocks (length input)) _ _ e in
    let w2 = and_parts (leb 1 (length input)) (eqb (length input % 512) 0) w.0 in
    let len1 = leb-true 1 (length input) w2.0 in
    let len2 = eqb-true (length input % 512) 0 w2.1 in
    let more = length input / 512 - 1 in
    let b = take 512 input in
    let s = title_shape input in
    let count : length input / 512 ≡ suc more = omega arith in
    let e0 = subst (λ n. blocks_refusal k Title 0 n input ≡ None) count w.1 in
    let e1 = then_parts (block_refusal 0 b) _ e0 in
    let e2 = then_parts (title_refusal k 0 b) _ e1.1 in
    let own = block_kept 0 b e1.0 in
    let marked = unless_none (eqb (letter b) title_letter) _ _ e2.0 in
    let numbered = unless_none (expected k 0 b) _ _ marked.1 in
    let titled = unless_none (eqb (payload_length b) 3 && in_shape (title_shape b)) _ _ numbered.1 in
    let fields = and_parts (eqb (payload_length b) 3) (in_shape (title_shape b)) titled.0 in
    let here = expected_kept k 0 b numbered.0 in
    let lb : length b ≡ 512 = length-take-le 512 input (omega arith) in
    let bs : Bytes b = bytes_take input 512 bytes in
    let shape : title_shape b ≡ s = first_title 0 input refl in
    let lawful = in_shape_kept s (subst (λ x. in_shape x ≡ true) shape fields.1) in
    let as-title : b ≡ block_bytes title_letter k.number 0 (s.tracks ∷ two s.columns) =
    bytes_of_fields b lb bs own.2 own.0
    ∙ (λ i. block_bytes (eqb-true (letter b) title_letter marked.0 i) (here.1 i) (here.0 i) (title_payload b lb bs (eqb-true (payload_length b) 3 fields.0) i))
    ∙ (λ i. block_bytes title_letter k.number 0 ((shape i).tracks ∷ two (shape i).columns)) in
    let rest : Written k s 0 1 more (drop 512 input) =
    columns_written k s lawful.0 lawful.1 more 1 0 (drop 512 input) (length-drop 512 input ∙ omega arith) (bytes_drop input 512 bytes)
    (subst (λ x. blocks_refusal k (opened x 0) 1 more (drop 512 input) ≡ None) shape e2.1) in
    let all : s.columns - 0 ≡ s.columns = omega arith in (
      subst (λ n. known n ≡ true) here.1 own.1,
      record {
        shaped = record { some_track = lawful.0; few_tracks = lawful.1; few_columns = lawful.2; whole = rest.long ∙ ap (λ n. n * s.tracks) all };
        symbols = rest.symbols;
      },
      sym (take-append-drop 512 input)
          ∙ (λ i. as-title i ++ rest.again i)
          ∙ ap (λ n. block_bytes title_letter k.number 0 (s.tracks ∷ two s.columns) ++ column_blocks k.number (columns_a_block s.tracks * s.tracks) 1 n (payloads more (drop 512 input))) (rest.count ∙ ap (blocks_for s.tracks) all),
    )
