use Rattle.std.proofs.Common.{◌≡◌, ℕ, zero, suc, ◌+◌, ◌-◌, ◌≤◌, min, List, [], ◌∷◌, ◌++◌, map, length, take, drop, sym, ap, ◌∙◌, inl, inr, arith}
use borrow.Rule.Slice.PartMut.{put_mid}
use Rattle.std.proofs.lemmas.List.{append_assoc, take_all, take_at, drop_at, length-append, length-map, length-take-le, take-map}
use Rattle.std.proofs.lemmas.Slice.{take-put_mid}
use Rattle.std.proofs.lemmas.Bool.{cases_lt}
use Rattle.book.specs.Blocks.{block_bytes}
use Rattle.book.proofs.sealing.fill_block.Goals as goal

-- the front of two lists together
take_both : (m : ℕ) (xs ys : List ℕ) → take m (xs ++ ys) ≡ take m xs ++ take (m - length xs) ys
take_both zero xs ys = ap (λ n. take n ys) (let e : 0 ≡ 0 - length xs = omega arith in e)
take_both (suc m) [] ys = ap (λ n. take n ys) (let e : suc m ≡ suc m - 0 = omega arith in e)
take_both (suc m) (x ∷ xs) ys = ap (λ r. x ∷ r) (take_both m xs ys ∙ ap (λ n. take m xs ++ take n ys) (let e : m - length xs ≡ suc m - suc (length xs) = omega arith in e))

-- so many elements, or all that there are
take_cut : (xs : List ℕ) (m n : ℕ) → n ≡ min (length xs) m → take n xs ≡ take m xs
take_cut xs m n e =
    elim (cases_lt m (length xs)) [
      | inl l ↦ ap (λ j. take j xs) (let f : n ≡ m = omega arith in f)
      | inr l ↦ take_all n xs (omega arith) ∙ sym (take_all m xs (omega arith))
    ]

-- bytes and symbols as many as a block holds
held_both : (xs ys : List ℕ) (m n : ℕ) → m ≡ min (length xs) 502 → n ≡ min (length ys) (502 - m) → take m xs ++ take n ys ≡ take 502 (xs ++ ys)
held_both xs ys m n em en =
    (λ i. take_cut xs 502 m em i ++ (take_cut ys (502 - m) n en ∙ ap (λ j. take j ys) (let e : 502 - m ≡ 502 - length xs = omega arith in e)) i)
    ∙ sym (take_both 502 xs ys)

-- a payload that was written into its place in two parts
in_places : (d o front s rest : List ℕ) (m : ℕ) → 6 ≤ length d → m ≡ length front + length s → o ≡ (take 6 d ++ front) ++ (s ++ rest) → take m (drop 6 o) ≡ front ++ s
in_places d o front s rest m room e eo =
    ap (λ x. take m (drop 6 x)) (eo ∙ append_assoc (take 6 d) front (s ++ rest))
    ∙ ap (take m) (drop_at (take 6 d) (front ++ (s ++ rest)) 6 (length-take-le 6 d room) ∙ sym (append_assoc front s rest))
    ∙ take_at (front ++ s) rest m (length-append front s ∙ sym e)

pub returns : goal.returns
returns g c =
    let d = c.args.out.now in
    let front = c.args.front.now in
    let symbols = c.args.symbols.now in
    let byte = g.S.Symbol.byte in
    let m = c.min-before.result in
    let n = c.min-after.result in
    let copied = c.copy_from_slice.new.self in
    let s = map byte (take n symbols) in
    let lm = length-map symbols byte in
    let placed : copied ≡ take m front = c.copy_from_slice.ensures.after in
    let lc : length copied ≡ m = ap length placed ∙ length-take-le m front (omega (arith, c.min-before.ensures)) in
    let ls : length s ≡ n = length-map (take n symbols) byte ∙ length-take-le n symbols (omega (arith, c.min-after.ensures)) in
    let put = put_mid 6 (6 + m - 6) d copied in
    let rest = drop (6 + m + length (take n symbols)) put in
    let head : take (6 + m) put ≡ take 6 d ++ copied = take-put_mid 6 (6 + m - 6) d copied (6 + m) (omega (arith, lc)) (omega arith) in
    let p = in_places d c.put_symbols.new.out copied s rest (m + n) (omega arith) (omega (arith, lc, ls)) (c.put_symbols.ensures ∙ ap (λ x. x ++ (s ++ rest)) head) in
    let spelled : s ≡ take n (map byte symbols) = sym (take-map byte n symbols) in
    let all : copied ++ s ≡ take 502 (front ++ map byte symbols) = (λ i. placed i ++ spelled i) ∙ held_both front (map byte symbols) m n c.min-before.ensures (c.min-after.ensures ∙ ap (λ j. min j (502 - m)) (sym lm)) in
    c.seal.ensures ∙ (λ i. block_bytes c.args.letter (c.number.ensures i) c.args.number ((p ∙ all) i))
