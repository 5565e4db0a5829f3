use Rattle.std.proofs.Common.{◌≡◌, ℕ, Some, None, Option, is_some, MatchOption, sym, ap, ◌∙◌, w32, ℤ}
use Rattle.std.proofs.lemmas.Int.{to_z-of_z}
use Rattle.notation.specs.Kind.{Kind, Lawful}
use Rattle.search.specs.Queries.{reaches}
use Rattle.search.proofs.Intervals.{reached, unreached}
use Rattle.search.proofs.transposing.has_transposed.Goals as goal

-- what is told of the transposed symbol tells whether there is one
told : {S : Type 0} (byte : S → ℕ) (k : Kind) → Lawful k → (by : ℤ) (a : ℕ) (o : Option S) → MatchOption o ((b : ℕ) → k.interval a b ≡ Some by → ⊥) (λ s. k.interval a (byte s) ≡ Some by) → is_some o ≡ reaches k by a
told byte k laws by a None h = sym (unreached k laws by a h)
told byte k laws by a (Some s) h = sym (reached k laws by a (byte s) h)

pub returns : goal.returns
returns g c =
    let k = g.S.Symbol.kind in
    let a = g.S.Symbol.byte c.args.s in
    c.is_some.ensures ∙ told g.S.Symbol.byte k g.met.S.Symbol.lawful _ a c.transposed.result c.transposed.ensures ∙ ap (λ z. reaches k z a) (to_z-of_z w32 c.args.by c.ranges.by)
