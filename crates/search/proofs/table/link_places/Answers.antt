use Rattle.std.proofs.Common.{◌≡◌, ◌+◌, map, length, get_or, sym, refl, ◌∙◌, arith}
use Rattle.std.proofs.lemmas.List.{length-set}
use Rattle.notation.specs.Kind.{rest}
use Rattle.search.proofs.Refusing.{byte_at}
use Rattle.search.proofs.Linking.{marks_none, marks_more, linked_none, linked_more}
use Rattle.search.proofs.table.link_places.Goals as goal

pub loop-p-init : goal.loop-p-init
loop-p-init g c = let bytes = map g.S.Symbol.byte c.args.tally.now.cells.now in (refl, marks_none bytes, linked_none bytes c.args.previous.now)

pub loop-p-preserved : goal.loop-p-preserved
loop-p-preserved g c =
    let byte = g.S.Symbol.byte in
    let xs = c.args.tally.now.cells.now in
    let bytes = map byte xs in
    let p = c.loop-p.p in
    let b = c.write-b.result in
    let holds : get_or bytes p rest ≡ b = byte_at byte xs p c.s-item.result rest c.loop-p-test.true c.s-item.is ∙ sym c.write-b.ensures in
    let old = c.loop-p.invariant in
    let kept : length c.loop-p.previous ≡ length c.args.previous.now = c.loop-p.auto.previous in (
      length-set c.loop-p.last b (p + 1) ∙ old.0,
      marks_more bytes c.loop-p.previous c.loop-p.last p b holds c.write-b.type_inv old.0 old.1,
      linked_more bytes c.loop-p.previous c.loop-p.last p b holds c.write-b.type_inv (omega (arith, c.requires)) old.1 old.2,
    )
