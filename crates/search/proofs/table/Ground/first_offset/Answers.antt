use Rattle.std.proofs.Common.{◌≡◌, ◌-◌, eqb, map, length, take, drop, sum_by, count_by, ap, ◌∙◌, arith, rules}
use Rattle.std.proofs.lemmas.List.{take_all, length-drop}
use Rattle.search.proofs.table.Ground.first_offset.Goals as goal

pub returns : goal.returns
returns g c =
    let bytes = map g.S.Symbol.byte c.args.self.now.tally.cells.now in
    let want = c.args.want.bytes.now in
    let is : c.sum.result ≡ sum_by (λ b. count_by (eqb b) bytes) (take (length want - 1) (drop 1 want)) = search rules in
    is ∙ ap (sum_by (λ b. count_by (eqb b) bytes)) (take_all (length want - 1) (drop 1 want) (omega (arith, length-drop 1 want)))
