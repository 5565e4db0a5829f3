use Rattle.std.proofs.Common.{arith}
use Rattle.splitting.specs.Splitting.{gap}
use Rattle.report.proofs.wording.gap_between.Goals as goal

pub returns : goal.returns
unfolding gap
returns c = record { is = λ score. omega (arith, c.saturating_sub.ensures, c.last_of-end.ensures); small = omega (arith, c.saturating_sub.ensures) }
