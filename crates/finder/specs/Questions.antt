-- What is asked of a score under some terms.
use Rattle.std.specs.Prelude.{ℕ, List, map}
use Rattle.notation.specs.Kind.{Kind}
use Rattle.splitting.specs.Score.{Question}
use Rattle.finder.specs.Scores.{columns_held}
use Rattle.finder.specs.declared.score.Score.{Score}
use Rattle.finder.specs.declared.terms.Terms.{Terms}

-- where in the columns that a score holds a query can be found, under some terms
abbrev pub question : {S : Type 0} → Kind → (S → ℕ) → Score S → Terms → List S → Question
question kind byte score terms query = record { kind = kind; score = columns_held byte score; limit = terms.limit.value; mode = terms.mode; query = map byte query }
