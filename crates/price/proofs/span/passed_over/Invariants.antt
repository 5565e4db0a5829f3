use Rattle.std.proofs.Common.{◌≡◌, ℕ, ◌+◌, ◌<◌, true, ◌⊎◌, Some}
use Rattle.std.specs.List.{slice_get}
use Rattle.price.specs.History.{gap}
use Rattle.price.specs.Keeping.{Judged}
use Rattle.price.specs.declared.entry.Entry.{Entry}
use Rattle.price.proofs.span.passed_over.Given as goal

abbrev pub invariant-loop-i : goal.invariant-loop-i
invariant-loop-i g l =
    (a : ℕ) (e : Entry _) → a < l.i → slice_get l.kept a ≡ Some e → (l.limit < gap l.from e) ⊎ ((d : Entry _) × (slice_get l.kept (a + 1) ≡ Some d) × Judged g.P.Price.pricing g.P.Price.meaning l.from d e true)
