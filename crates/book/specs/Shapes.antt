-- The shape of a score, and how much of it is read.
use Rattle.std.specs.Prelude.{ℕ}

pub record Shape : Type 0 where
  pub tracks : ℕ
  pub columns : ℕ

-- a shape of which so many columns are read
pub record Progress : Type 0 where
  pub shape : Shape
  pub read : ℕ
