use Rattle.std.proofs.Common.{subst}
use Rattle.search.specs.Candidates.{Among}
use Rattle.search.proofs.Preferring.{parted, swapped, deep, wins, behind}
use Rattle.search.proofs.candidates.preferred.Goals as goal

pub returns-in_default-clause-best : goal.returns-in_default-clause-best
returns-in_default-clause-best g c =
    λ ask tracks low mid high covered some one other.
    let m = g.P.Price.pricing in
    let meaning = g.P.Price.meaning in
    behind m g.met.P.Price.lawful meaning ask covered tracks some low mid high c.args.other (subst (Among m meaning ask tracks low mid) c.in_default.is one) other

pub returns-then-comes_first-clause-best : goal.returns-then-comes_first-clause-best
returns-then-comes_first-clause-best g c =
    λ ask tracks low mid high covered some one other.
    let m = g.P.Price.pricing in
    let meaning = g.P.Price.meaning in
    let laws = g.met.P.Price.lawful in
    let a = c.in-Some.a in
    let b = c.in-Some-other.b in
    let h = subst (Among m meaning ask tracks low mid) c.in-Some.is one in
    let k = subst (Among m meaning ask tracks mid high) c.in-Some-other.is other in
    let first = c.if-comes_first.ensures (deep m laws meaning ask covered tracks some a h.stands) (deep m laws meaning ask covered tracks some b k.stands) in
    wins m laws meaning ask covered tracks some low mid mid high low high (parted ask low mid high) a b h k first

pub returns-else-comes_first-clause-best : goal.returns-else-comes_first-clause-best
returns-else-comes_first-clause-best g c =
    λ ask tracks low mid high covered some one other.
    let m = g.P.Price.pricing in
    let meaning = g.P.Price.meaning in
    let laws = g.met.P.Price.lawful in
    let a = c.in-Some.a in
    let b = c.in-Some-other.b in
    let h = subst (Among m meaning ask tracks low mid) c.in-Some.is one in
    let k = subst (Among m meaning ask tracks mid high) c.in-Some-other.is other in
    let first = c.if-comes_first.ensures (deep m laws meaning ask covered tracks some a h.stands) (deep m laws meaning ask covered tracks some b k.stands) in
    wins m laws meaning ask covered tracks some mid high low mid low high (λ e led. swapped (parted ask low mid high e led)) b a k h first
