use Rattle.std.proofs.Common.{◌≡◌, ◌+◌, ◌*◌, get_or, take, ap, ◌∙◌, arith}
use Rattle.std.proofs.lemmas.Nat.{mul-le}
use Rattle.book.specs.Blocks.{weighted}
use Rattle.book.proofs.Sums.{weighted_more}
use Rattle.book.proofs.block.check.Goals as goal

pub overflow_add-sum : goal.overflow_add-sum
overflow_add-sum c =
    let i = c.loop-i.i in
    let b = get_or c.args.bytes.now i 0 in
    omega (arith, mul-le (i + 1) b 508 255 (omega arith) (omega arith))

pub loop-i-preserved : goal.loop-i-preserved
loop-i-preserved c =
    let i = c.loop-i.i in
    let bs = c.args.bytes.now in
    let e = weighted_more 1 bs i (omega arith) in
    let f : (1 + i) * get_or bs i 0 ≡ (i + 1) * get_or bs i 0 = ap (λ n. n * get_or bs i 0) {x = 1 + i} {y = i + 1} (omega arith) in
    (omega (arith, e, f), omega (arith, mul-le (i + 1) (get_or bs i 0) 508 255 (omega arith) (omega arith)))

pub returns : goal.returns
returns c = let e : c.loop-i.i ≡ 508 = omega arith in c.loop-i.invariant.0 ∙ ap (λ n. weighted 1 (take n c.args.bytes.now)) e
