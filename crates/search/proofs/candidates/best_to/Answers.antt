use Rattle.std.proofs.Common.{◌≡◌, ℕ, ◌+◌, ◌≤◌, eqb, List, map, length, ℤ, sum_by, count_by, sym, subst, arith, w32, SFits, to_z, of_z, rules}
use Rattle.std.proofs.lemmas.List.{length-map}
use Rattle.std.proofs.lemmas.Int.{to_z-of_z}
use Rattle.notation.specs.Kind.{Kind}
use Rattle.notation.specs.declared.mode.Mode.{Mode}
use Rattle.splitting.specs.Score.{note}
use Rattle.search.specs.Workspace.{workspace}
use Rattle.search.specs.Candidates.{Candidate, Among}
use Rattle.search.proofs.Leading.{no_candidate, unmatched, unheld, wanted, none_under, some_under, room}
use Rattle.search.proofs.candidates.best_to.Goals as goal

-- a candidate that was carried in 32 bits
carried : (k : Kind) (mode : Mode) (counts : List ℕ) (first b : ℕ) (by : ℤ) → SFits w32 by → Candidate k mode counts first b by → Candidate k mode counts first b (to_z w32 (of_z w32 by))
carried k mode counts first b by fit candidate = subst (Candidate k mode counts first b) (sym (to_z-of_z w32 by fit)) candidate

pub returns-in_err-by-clause-best : goal.returns-in_err-by-clause-best
returns-in_err-by-clause-best g c =
    let k = g.S.Symbol.kind in
    let mode = c.args.asking.now.mode in
    let x = c.args.ground.now in
    let bytes = map g.S.Symbol.byte x.tally.cells.now in
    let query = map g.S.Symbol.byte c.args.asking.now.query.notes.now in
    λ ask asked. subst (Among g.P.Price.pricing g.P.Price.meaning ask x.tracks c.args.b (c.args.b + 1)) (sym c.from_residual.ensures) (no_candidate bytes query k mode c.args.asking.now.limit x.tracks c.args.b x.some_track g.P.Price.pricing g.P.Price.meaning ask asked c.in_err-by.ensures)

pub returns-then-not-want_bytes-clause-best : goal.returns-then-not-want_bytes-clause-best
returns-then-not-want_bytes-clause-best g c =
    let k = g.S.Symbol.kind in
    let mode = c.args.asking.now.mode in
    let x = c.args.ground.now in
    let bytes = map g.S.Symbol.byte x.tally.cells.now in
    let query = map g.S.Symbol.byte c.args.asking.now.query.notes.now in
    let n = length-map c.args.asking.now.query.notes.now g.S.Symbol.byte in
    let by = to_z w32 (of_z w32 c.in_ok-by.by) in
    let candidate = carried k mode bytes (note query 1) c.args.b c.in_ok-by.by (search rules) c.in_ok-by.ensures in
    let lacking = c.want_bytes.ensures.lacking c.if-not-want_bytes.true in
    λ ask asked. unmatched bytes query k mode c.args.asking.now.limit x.tracks c.args.b x.some_track g.P.Price.pricing g.P.Price.meaning ask asked by candidate lacking.0 (omega (arith, lacking.1)) lacking.2

pub returns-then-not-holds_all-clause-best : goal.returns-then-not-holds_all-clause-best
returns-then-not-holds_all-clause-best g c =
    let k = g.S.Symbol.kind in
    let mode = c.args.asking.now.mode in
    let x = c.args.ground.now in
    let bytes = map g.S.Symbol.byte x.tally.cells.now in
    let query = map g.S.Symbol.byte c.args.asking.now.query.notes.now in
    let n = length-map c.args.asking.now.query.notes.now g.S.Symbol.byte in
    let by = to_z w32 (of_z w32 c.in_ok-by.by) in
    let candidate = carried k mode bytes (note query 1) c.args.b c.in_ok-by.by (search rules) c.in_ok-by.ensures in
    let want = c.want_bytes.new.want in
    let as_long : length want ≡ length query = omega (arith, c.want_bytes.auto.want, c.requires.as_long) in
    let lacking = c.holds_all.ensures.lacking c.if-not-holds_all.true in
    λ ask asked. unheld bytes query k mode c.args.asking.now.limit x.tracks c.args.b x.some_track g.P.Price.pricing g.P.Price.meaning ask asked by candidate want as_long (λ i l. c.want_bytes.ensures.each c.if-not-want_bytes.false i (omega arith)) lacking.0 lacking.1 lacking.2

pub best_under-requires : goal.best_under-requires
best_under-requires g c =
    let k = g.S.Symbol.kind in
    let mode = c.args.asking.now.mode in
    let x = c.args.ground.now in
    let bytes = map g.S.Symbol.byte x.tally.cells.now in
    let query = map g.S.Symbol.byte c.args.asking.now.query.notes.now in
    let n = length-map c.args.asking.now.query.notes.now g.S.Symbol.byte in
    let by = to_z w32 (of_z w32 c.in_ok-by.by) in
    let candidate = carried k mode bytes (note query 1) c.args.b c.in_ok-by.by (search rules) c.in_ok-by.ensures in
    let want = c.want_bytes.new.want in
    let as_long : length want ≡ length query = omega (arith, c.want_bytes.auto.want, c.requires.as_long) in
    let fits : sum_by (λ d. count_by (eqb d) bytes) want ≤ workspace k mode bytes query = room k g.met.S.Symbol.lawful mode bytes query want c.args.b by as_long candidate (λ i l. c.want_bytes.ensures.each c.if-not-want_bytes.false i (omega arith)) in
    record { prices = omega (arith, c.requires.room.prices); steps = omega (arith, c.requires.room.steps); window = omega (arith, c.requires.room.window) }

pub returns-in_err-best-clause-best : goal.returns-in_err-best-clause-best
returns-in_err-best-clause-best g c =
    let k = g.S.Symbol.kind in
    let mode = c.args.asking.now.mode in
    let x = c.args.ground.now in
    let bytes = map g.S.Symbol.byte x.tally.cells.now in
    let query = map g.S.Symbol.byte c.args.asking.now.query.notes.now in
    let n = length-map c.args.asking.now.query.notes.now g.S.Symbol.byte in
    let by = to_z w32 (of_z w32 c.in_ok-by.by) in
    let candidate = carried k mode bytes (note query 1) c.args.b c.in_ok-by.by (search rules) c.in_ok-by.ensures in
    let want = c.want_bytes.new.want in
    let as_long : length want ≡ length query = omega (arith, c.want_bytes.auto.want, c.requires.as_long) in
    λ ask asked.
    let wants = wanted bytes query k mode c.args.asking.now.limit x.tracks c.args.b x.some_track g.P.Price.pricing g.P.Price.meaning ask asked by candidate want as_long (λ i l. c.want_bytes.ensures.each c.if-not-want_bytes.false i (omega arith)) in
    subst (Among g.P.Price.pricing g.P.Price.meaning ask x.tracks c.args.b (c.args.b + 1)) (sym c.from_residual-in_err-best.ensures) (none_under bytes query k mode c.args.asking.now.limit x.tracks c.args.b x.some_track g.P.Price.pricing g.P.Price.meaning ask asked by candidate (c.in_err-best.ensures.best ask by asked.posed asked.limit_is wants))

pub returns-clause-best : goal.returns-clause-best
returns-clause-best g c =
    let k = g.S.Symbol.kind in
    let mode = c.args.asking.now.mode in
    let x = c.args.ground.now in
    let bytes = map g.S.Symbol.byte x.tally.cells.now in
    let query = map g.S.Symbol.byte c.args.asking.now.query.notes.now in
    let n = length-map c.args.asking.now.query.notes.now g.S.Symbol.byte in
    let by = to_z w32 (of_z w32 c.in_ok-by.by) in
    let candidate = carried k mode bytes (note query 1) c.args.b c.in_ok-by.by (search rules) c.in_ok-by.ensures in
    let want = c.want_bytes.new.want in
    let as_long : length want ≡ length query = omega (arith, c.want_bytes.auto.want, c.requires.as_long) in
    λ ask asked.
    let wants = wanted bytes query k mode c.args.asking.now.limit x.tracks c.args.b x.some_track g.P.Price.pricing g.P.Price.meaning ask asked by candidate want as_long (λ i l. c.want_bytes.ensures.each c.if-not-want_bytes.false i (omega arith)) in
    some_under bytes query k mode c.args.asking.now.limit x.tracks c.args.b x.some_track g.P.Price.pricing g.P.Price.meaning ask asked by candidate c.in_ok-best.best (c.in_ok-best.ensures.best ask by asked.posed asked.limit_is wants)
