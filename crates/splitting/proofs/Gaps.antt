-- The laws of gaps: all that is used of their definition.
use Rattle.std.proofs.Common.{◌≡◌, ℕ, suc, ◌+◌, ◌-◌, ◌<◌, ◌≤◌, ◌++◌, length, refl, arith}
use Rattle.splitting.specs.Score.{Score, Sounding}
use Rattle.splitting.specs.Splitting.{gap}

-- a gap is at most the columns between
pub gap_at_most : (score : Score) (a b : ℕ) → gap score a b ≤ b - suc a
unfolding gap
gap_at_most score a b = omega arith

-- by way of a column that sounds
pub gap_through : (score : Score) (a b d : ℕ) → a < b → b < d → Sounding score b → gap score a d ≡ gap score a b + 1 + gap score b d
unfolding gap
gap_through score a b d l h s = omega arith

-- a column that is appended lies between no two columns before it
pub gap_appended : (score more : Score) (a b : ℕ) → b ≤ length score → gap (score ++ more) a b ≡ gap score a b
unfolding gap
gap_appended score more a b l = refl
