-- The check's sum, one byte more.
use Rattle.std.proofs.Common.{◌≡◌, ℕ, zero, suc, ◌+◌, ◌*◌, ◌<◌, List, [], ◌∷◌, length, get_or, take, ap, arith}
use Rattle.book.specs.Blocks.{weighted}

weighted_suc : (from : ℕ) (bs : List ℕ) (i : ℕ) → i < length bs → weighted from (take (suc i) bs) ≡ weighted from (take i bs) + (from + i) * get_or bs i 0
weighted_suc from [] i l = absurd (omega arith)
weighted_suc from (b ∷ bs) zero l = let e : (from + 0) * b ≡ from * b = ap (λ n. n * b) (omega arith) in omega (arith, e)
weighted_suc from (b ∷ bs) (suc i) l =
    let e = weighted_suc (suc from) bs i (omega arith) in
    let f : (suc from + i) * get_or bs i 0 ≡ (from + suc i) * get_or bs i 0 = ap (λ n. n * get_or bs i 0) (omega arith) in
    omega (arith, e, f)

pub weighted_more : (from : ℕ) (bs : List ℕ) (i : ℕ) → i < length bs → weighted from (take (i + 1) bs) ≡ weighted from (take i bs) + (from + i) * get_or bs i 0
weighted_more from bs i l = let e : i + 1 ≡ suc i = omega arith in rw e (weighted_suc from bs i l)
