use Rattle.std.proofs.Common.{◌≡◌, ◌-◌, ◌++◌, [], map, take, replicate, vec_items, ap, ◌∙◌, arith}
use lib.LanesLaws.{map-replicate}
use Rattle.std.proofs.Math.Seq.{take-nil}
use Rattle.finder.proofs.questioning.rests.Goals as goal

pub returns : goal.returns
returns g c =
    let byte = g.S.Symbol.byte in
    let n = c.args.count in
    let x = c.rest.result in
    let none : n - c.new-list.result.len ≡ n = omega (arith, c.new-list.ensures.len) in
    let cut : take n (vec_items c.new-list.result) ≡ [] = ap (take n) c.new-list.ensures.items ∙ take-nil n in
    let made : vec_items c.resize.new.self ≡ replicate n x = c.in_ok-resize.ensures.items ∙ (λ j. cut j ++ replicate (none j) x) in
    ap (map byte) made ∙ map-replicate byte n x ∙ ap (replicate n) c.rest.ensures
