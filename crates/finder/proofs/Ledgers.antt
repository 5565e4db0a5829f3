-- The ledger over one call: what is tried keeps it.
use Rattle.std.proofs.Common.{◌≡◌, ℕ, ◌≤◌, map, length, vec_items, sym, subst, arith}
use Rattle.notation.specs.Kind.{Kind}
use Rattle.finder.specs.Ledger.{Ledger, Command}
use Rattle.finder.specs.Outcomes.{Prices}
use Rattle.finder.specs.Scores.{columns_held}
use Rattle.finder.specs.Trying.{Tried}
use Rattle.finder.specs.declared.outcome.Outcome.{Outcome}
use Rattle.finder.specs.declared.score.Score.{Score}
use Rattle.search.proofs.Columns.{length_columns}

module _ {S P R : Type 0} (k : Kind) (byte : S → ℕ) (prices : Prices P R) where
  -- a call by what it is
  pub tried_as : (l l' : Ledger) (call is : Command) (o : Outcome S P R) → call ≡ is → Tried k byte prices l is l' o → Tried k byte prices l call l' o
  tried_as l l' call is o e t = subst (λ (x : Command). Tried k byte prices l x l' o) (sym e) t

-- no score holds more than 4,096 columns
pub columns_few : {S : Type 0} (byte : S → ℕ) (s : Score S) → length (columns_held byte s) ≤ 4096
columns_few byte s = omega (arith, length_columns s.tracks s.columns (map byte (vec_items s.memory)), s.held, s.few_columns)
