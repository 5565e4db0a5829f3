use Rattle.std.proofs.Common.{◌≡◌, ◌+◌, ◌-◌, ◌<◌, map, length, get_or, set, sym, ◌∙◌, subst, arith}
use Rattle.std.proofs.lemmas.List.{length-map, length-set, get_or-set_same}
use Rattle.notation.specs.Kind.{rest}
use Rattle.search.specs.Tables.{Ranked}
use Rattle.search.proofs.Refusing.{byte_at}
use Rattle.search.proofs.Linking.{one_left, counted_less, ranked_more}
use Rattle.search.proofs.table.count_later.Goals as goal

pub overflow_sub-left : goal.overflow_sub-left
overflow_sub-left g c =
    let byte = g.S.Symbol.byte in
    let xs = c.args.tally.now.cells.now in
    let p = c.loop-p.p in
    let b = c.write-b.result in
    let old = c.loop-p.invariant in
    let holds : get_or (map byte xs) p rest ≡ b = byte_at byte xs p c.s-item.result rest c.loop-p-test.true c.s-item.is ∙ sym c.write-b.ensures in
    omega (arith, one_left (map byte xs) p b (omega (arith, length-map xs byte)) holds c.write-b.type_inv c.loop-p.left old.0 old.1)

pub loop-p-preserved : goal.loop-p-preserved
loop-p-preserved g c =
    let byte = g.S.Symbol.byte in
    let xs = c.args.tally.now.cells.now in
    let bytes = map byte xs in
    let p = c.loop-p.p in
    let b = c.write-b.result in
    let left = c.loop-p.left in
    let fewer = get_or left b 0 - 1 in
    let old = c.loop-p.invariant in
    let within : p < length bytes = omega (arith, length-map xs byte) in
    let holds : get_or bytes p rest ≡ b = byte_at byte xs p c.s-item.result rest c.loop-p-test.true c.s-item.is ∙ sym c.write-b.ensures in
    let kept : length c.loop-p.after ≡ length c.args.after.now = c.loop-p.auto.after in
    let room : p < length c.loop-p.after = omega (arith, c.requires) in (
      length-set left b fewer ∙ old.0,
      counted_less bytes p b within holds c.write-b.type_inv left old.0 old.1,
      subst (λ z. Ranked bytes (set c.loop-p.after p z) (p + 1)) (sym (get_or-set_same left b fewer 0 (omega (arith, c.write-b.type_inv)))) (ranked_more bytes p b within holds c.write-b.type_inv left old.0 old.1 c.loop-p.after room old.2),
    )
