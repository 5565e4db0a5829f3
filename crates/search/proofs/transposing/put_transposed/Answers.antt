use Rattle.std.proofs.Common.{◌≡◌, ◌+◌, map, length, Some, sym, ap, ◌∙◌, subst, arith, w32, to_z, of_z}
use Rattle.std.proofs.lemmas.Int.{to_z-of_z}
use Rattle.std.proofs.lemmas.List.Sums.{prefix_len_passes}
use Rattle.search.specs.Queries.{reaches}
use Rattle.search.proofs.Intervals.{reached_at}
use Rattle.search.proofs.Refusing.{byte_at}
use Rattle.search.proofs.Moving.{Moved, moved_more, moved_all}
use Rattle.search.proofs.transposing.put_transposed.Goals as goal
use Rattle.search.proofs.transposing.put_transposed.Goals.{in-Some, in_default}

pub loop-i-preserved : goal.loop-i-preserved
loop-i-preserved g c =
    let k = g.S.Symbol.kind in
    let byte = g.S.Symbol.byte in
    let by = to_z w32 (of_z w32 c.args.by) in
    let xs = c.args.query.now in
    let x = c.index-query-i.result in
    let i = c.loop-i.i in
    let kept : length c.loop-i.out ≡ length c.args.out.now = c.loop-i.auto.out in
    let e = to_z-of_z w32 c.args.by c.ranges.by in
    elim c.match-transposed.branch [
      | in-Some w ↦
          subst (λ o. Moved byte k by xs c.args.out.now o (i + 1)) (sym w.out-is)
          (moved_more byte k by xs c.args.out.now c.loop-i.out i x w.in-Some.moved c.loop-i-test.true (omega (arith, c.requires.room)) c.index-query-i.is w.in-Some.ensures c.loop-i.invariant)
      | in_default w ↦
          let b = reached_at k g.met.S.Symbol.lawful c.args.by (byte x) (ap (reaches k c.args.by) (sym (byte_at byte xs i x 0 c.loop-i-test.true c.index-query-i.is)) ∙ prefix_len_passes (reaches k c.args.by) (map byte xs) i 0 (omega (arith, c.requires.reached))) in
          absurd (w.in_default.ensures b.0 (subst (λ z. k.interval (byte x) b.0 ≡ Some z) (sym e) b.1))
    ]

pub returns-clause-moved : goal.returns-clause-moved
returns-clause-moved g c =
    let k = g.S.Symbol.kind in
    let byte = g.S.Symbol.byte in
    let xs = c.args.query.now in
    let e = to_z-of_z w32 c.args.by c.ranges.by in
    let done : c.loop-i.i ≡ length xs = omega arith in
    let h = subst (λ n. Moved byte k c.args.by xs c.args.out.now c.loop-i.out n) done (subst (λ z. Moved byte k z xs c.args.out.now c.loop-i.out c.loop-i.i) e c.loop-i.invariant) in
    let kept : length c.loop-i.out ≡ length c.args.out.now = c.loop-i.auto.out in
    moved_all byte k c.args.by xs c.args.out.now c.loop-i.out (omega (arith, c.requires.room)) h
