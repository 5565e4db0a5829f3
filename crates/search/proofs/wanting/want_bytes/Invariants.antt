use Rattle.std.proofs.Common.{◌≡◌, ℕ, ◌<◌, map, get_or, Some}
use Rattle.notation.specs.Kind.{rest}
use Rattle.search.proofs.wanting.want_bytes.Given as goal

abbrev pub invariant-loop-k : goal.invariant-loop-k
invariant-loop-k g l = (k : ℕ) → k < l.k → g.S.Symbol.kind.interval (get_or (map g.S.Symbol.byte l.query) k rest) (get_or l.want k 0) ≡ Some l.by
