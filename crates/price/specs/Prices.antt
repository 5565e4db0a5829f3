-- The two prices of this repository, each settled once.
use Rattle.std.specs.Prelude.{ℕ, ◌+◌, ◌/◌, max, Bool, ◌&&◌, ◌||◌, ◌==◌, nat_le, nat_lt}
use Rattle.price.specs.Pricing.{Pricing}

-- by the number of hand-overs
abbrev pub by_changes : Pricing
by_changes = record { Meaning = ℕ; depth = λ n. n; nothing = 0; charged = λ n g. n + 1; not_above = nat_le }

-- hand-overs, and the sum of their gaps
pub record Tally : Type 0 where
  pub changes : ℕ
  pub silence : ℕ

-- fewer changes, or as many and no more silence
abbrev pub no_more : Tally → Tally → Bool
no_more a b = nat_lt a.changes b.changes || (a.changes == b.changes && nat_le a.silence b.silence)

-- by changes first and then by silence; the depth bounds both, a gap being at most 4,094
abbrev pub by_changes_then_silence : Pricing
by_changes_then_silence =
    record {
      Meaning = Tally;
      depth = λ a. max a.changes ((a.silence + 4093) / 4094);
      nothing = record { changes = 0; silence = 0 };
      charged = λ a g. record { changes = a.changes + 1; silence = a.silence + g };
      not_above = no_more;
    }
