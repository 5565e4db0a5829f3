-- Limits, and when a number is none.
use Rattle.std.specs.Prelude.{ℕ, None, Option, nat_le}
use Rattle.book.specs.Refusals.{refusal, unless}
use Rattle.book.specs.declared.refusal.Layer.TheVariants.{Limit}
use Rattle.book.specs.declared.refusal.Refusal.{Refusal}
use Rattle.finder.specs.declared.limit_fault.LimitFault.{LimitFault}

abbrev pub limit_told : LimitFault → Refusal
limit_told f = refusal 16 f.number Limit

-- the refusal of a number as a limit: it is above 4,095
abbrev pub limit_refusal : ℕ → Option Refusal
limit_refusal n = unless (nat_le n 4095) (refusal 16 n Limit) None
