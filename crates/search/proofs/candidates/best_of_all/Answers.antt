use Rattle.std.proofs.Common.{◌≡◌, ◌+◌, map, ◌∙◌, subst, arith}
use Rattle.splitting.specs.Score.{note}
use Rattle.search.specs.Candidates.{Among}
use Rattle.search.proofs.Leading.{of_all}
use Rattle.search.proofs.candidates.best_of_all.Goals as goal

pub loop-b-preserved : goal.loop-b-preserved
loop-b-preserved g c =
    let b = c.loop-b.b in
    let x = c.args.ground.now in
    let first = note (map g.S.Symbol.byte c.args.asking.now.query.notes.now) 1 in
    let long = c.best_to-here.ensures.as_long in
    let old = c.loop-b.invariant.0 in (
      record { prices = long.prices ∙ old.prices; steps = long.steps ∙ old.steps; window = long.window ∙ old.window },
      c.preferred-best.ensures.under g.S.Symbol.kind c.args.asking.now.mode (map g.S.Symbol.byte x.tally.cells.now) first c.loop-b.invariant.1 c.best_to-here.ensures.under,
      λ ask asked. c.preferred-best.ensures.best ask x.tracks 0 b (b + 1) asked.posed.covered x.some_track (c.loop-b.invariant.2 ask asked) (c.best_to-here.ensures.best ask asked),
    )

pub returns-2 : goal.returns-2
returns-2 g c =
    let m = g.P.Price.pricing in
    let meaning = g.P.Price.meaning in
    let b = c.loop-b.b in
    let x = c.args.ground.now in
    let bytes = map g.S.Symbol.byte x.tally.cells.now in
    let first = note (map g.S.Symbol.byte c.args.asking.now.query.notes.now) 1 in
    let long = c.best_to-here.ensures.as_long in
    let old = c.loop-b.invariant.0 in
    let last : b + 1 ≡ 256 = omega arith in
    record {
      as_long = record { prices = long.prices ∙ old.prices; steps = long.steps ∙ old.steps; window = long.window ∙ old.window };
      under = c.preferred-best.ensures.under g.S.Symbol.kind c.args.asking.now.mode bytes first c.loop-b.invariant.1 c.best_to-here.ensures.under;
      best =
          λ ask asked.
          of_all ask bytes x.tracks x.some_track asked.posed m meaning c.preferred-best.result
          (subst (λ z. Among m meaning ask x.tracks 0 z c.preferred-best.result) last (c.preferred-best.ensures.best ask x.tracks 0 b (b + 1) asked.posed.covered x.some_track (c.loop-b.invariant.2 ask asked) (c.best_to-here.ensures.best ask asked)));
    }
