-- What a trial ends as, where another is begun within it.
use Rattle.std.specs.Prelude.{[]}
use Rattle.std.specs.Borrow.{follows, MutBor, Fml}
use mir.Syntax.{named}
use Rattle.finder.specs.declared.terms.Terms.{Terms}
use Rattle.finder.specs.declared.trial.Trial.{Trial}
use Rattle.finder.specs.contracts.terms.Terms as terms
use Rattle.finder.specs.contracts.trial.Trial as trial

-- a trial with other terms behind it
abbrev pub with_terms : Trial → Terms → Trial
with_terms t terms = record t { terms = record t.terms { now = terms } }

-- the outer trial ends with the terms that the inner one leaves
abbrev pub LendsTerms : MutBor Trial → Trial → Fml
LendsTerms outer inner = follows (trial.the_row (record { mir = named 1; lft = [] })) terms.the_row outer.ghost_name inner.terms.ghost_name (with_terms outer.now)
