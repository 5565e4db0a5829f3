use Rattle.std.proofs.Common.{◌≡◌, ◌+◌, map, get_or, sym, ap, ◌∙◌, arith, w32, to_z, of_z}
use Rattle.std.proofs.lemmas.List.{length-map, take_all}
use Rattle.std.proofs.lemmas.List.Sums.{sum_by_more}
use Rattle.std.proofs.lemmas.Int.{to_z-of_z}
use Rattle.search.specs.Workspace.{matching, triples}
use Rattle.search.proofs.Refusing.{byte_at}
use Rattle.search.proofs.tally.Tally.triples.Goals as goal

pub loop-s-preserved : goal.loop-s-preserved
loop-s-preserved g c =
    let byte = g.S.Symbol.byte in
    let matched = matching g.S.Symbol.kind (to_z w32 (of_z w32 c.args.by)) (map byte c.args.self.now.cells.now) in
    let xs = c.args.query.now.notes.now in
    let i = c.loop-s.s-index in
    let n = length-map xs byte in
    let one : c.matching-sum.result ≡ matched (get_or (map byte xs) i 0) = c.matching-sum.ensures.is ∙ ap matched (sym (byte_at byte xs i c.s-item.result 0 c.loop-s-test.true c.s-item.is)) in (
      omega (arith, c.loop-s.invariant.0, c.matching-sum.ensures.few),
      (λ j. c.loop-s.invariant.1 j + one j) ∙ sym (sum_by_more matched (map byte xs) i 0 (omega arith)),
    )

pub returns : goal.returns
returns g c =
    let byte = g.S.Symbol.byte in
    let n = length-map c.args.query.now.notes.now byte in
    let e = to_z-of_z w32 c.args.by c.ranges.by in
    c.loop-s.invariant.1 ∙ (λ j. triples g.S.Symbol.kind (e j) (map byte c.args.self.now.cells.now) (take_all c.loop-s.s-index (map byte c.args.query.now.notes.now) (omega arith) j))
