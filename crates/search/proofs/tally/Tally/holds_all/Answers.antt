use Rattle.std.proofs.Common.{◌≡◌, ◌<◌, eqb, map, count_by, arith, rules, tests}
use Rattle.std.proofs.lemmas.Bool.{MatchBool-at_true}
use Rattle.std.proofs.lemmas.Iterator.{YieldsList-from_slice, cases_from_all}
use Rattle.search.proofs.tally.Tally.holds_all.Goals as goal

pub returns-clause-each : goal.returns-clause-each
returns-clause-each g c =
    let cells = map g.S.Symbol.byte c.args.self.now.cells.now in
    λ e k l. MatchBool-at_true _ _ e (cases_from_all _ _ c.all.result (λ b. 0 < count_by (eqb b) cells) (λ b. count_by (eqb b) cells ≡ 0) c.all.ensures.ran (YieldsList-from_slice c.args.want.now cc) (λ x q h. search (rules, tests)) (λ x q h. search (rules, tests))) k 0 (omega arith) l
