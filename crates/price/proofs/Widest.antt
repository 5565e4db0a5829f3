-- The widest gap breaks the law of one column more.
use Rattle.std.proofs.Common.{◌≤◌, arith, lit<, lit≤}
use Rattle.price.specs.WidestGap.{NoPrice}

-- 0 charged with 5 is 5, as 5 charged with 0 is; charged with 6 it is 6, and 5 charged with 1 is still 5
pub no_price : NoPrice
no_price depth laws =
    let empty : depth 0 ≤ 62 = omega (arith, laws.start) in
    let charged : depth 5 ≤ 62 = omega (arith, laws.start, laws.rises 0 5 empty (lit≤ tt)) in
    laws.farther 0 5 5 0 empty charged (lit< tt) (lit< tt) tt
