use Rattle.std.proofs.Common.{◌≡◌, ℕ, map, Some, sym, ap, ◌∙◌, subst, w32}
use Rattle.std.proofs.lemmas.Int.{to_z-of_z}
use Rattle.search.proofs.Counts.{matching_byte, matching_none}
use Rattle.search.proofs.tally.Tally.matching.Goals as goal

pub returns-in-Some-clause-is : goal.returns-in-Some-clause-is
returns-in-Some-clause-is g c =
    let k = g.S.Symbol.kind in
    let byte = g.S.Symbol.byte in
    let cells = map byte c.args.self.now.cells.now in
    let a = byte c.args.note in
    let b = c.write.result in
    let at : k.interval a b ≡ Some c.args.by = ap (k.interval a) c.write.ensures ∙ subst (λ z. k.interval a (byte c.in-Some.s) ≡ Some z) (to_z-of_z w32 c.args.by c.ranges.by) c.in-Some.ensures in
    c.count.ensures.is ∙ sym (matching_byte k g.met.S.Symbol.lawful c.args.by a b at cells)

pub returns-in-None-clause-is : goal.returns-in-None-clause-is
returns-in-None-clause-is g c =
    let k = g.S.Symbol.kind in
    let a = g.S.Symbol.byte c.args.note in
    sym (matching_none k g.met.S.Symbol.lawful c.args.by a (subst (λ z. (b : ℕ) → k.interval a b ≡ Some z → ⊥) (to_z-of_z w32 c.args.by c.ranges.by) c.in-None.ensures) (map g.S.Symbol.byte c.args.self.now.cells.now))
