use Rattle.std.proofs.Common.{◌≡◌, ℕ, ◌+◌, ◌-◌, ◌<◌, eqb, List, map, length, get_or, take, drop, count_by, sym, ap, ◌∙◌, subst, arith}
use Rattle.search.specs.Resting.{offset_of}
use Rattle.std.proofs.lemmas.Grind.{get_or_after_one}
use Rattle.std.proofs.lemmas.List.{length-map, length-drop, take_all}
use Rattle.search.proofs.Rowing.{offset_next}
use Rattle.search.proofs.Trailing.{Following, lone_at, inside, following_none, following_on, following_over, following_ends, over_in, stays, step_in, step_is}
use Rattle.search.proofs.pieces.write_pieces.Goals as goal
use Rattle.search.proofs.pieces.write_pieces.Goals.{then-step, else-step}

pub lone-open-requires : goal.lone-open-requires
lone-open-requires g c =
    let x = c.args.ground.now in
    let bytes = map g.S.Symbol.byte x.tally.cells.now in
    let n = length-map x.tally.cells.now g.S.Symbol.byte in
    let t = c.requires.leading in
    let s = inside g.P.Price.pricing g.P.Price.meaning bytes x.tracks c.args.want.bytes.now c.args.steps.now c.args.start t.0 t.1 t.2 t.3 x.some_track (omega (arith, x.tally.few)) t.4 0 c.args.start t.3 t.4.stands in
    omega (arith, s.0, x.tally.few)

pub loop-byte-init : goal.loop-byte-init
loop-byte-init g c =
    let m = g.P.Price.pricing in
    let meaning = g.P.Price.meaning in
    let x = c.args.ground.now in
    let bytes = map g.S.Symbol.byte x.tally.cells.now in
    let n = length-map x.tally.cells.now g.S.Symbol.byte in
    (c.args.want.some, omega arith, c.first_offset-offset.ensures, λ ask d prices a trail. subst (λ o. Following m meaning bytes x.tracks c.args.want.bytes.now c.args.steps.now c.args.start ask d prices a 0 c.args.start 0 o c.args.list.now c.args.list.now) (sym c.lone-open.ensures) (following_none m meaning bytes x.tracks c.args.want.bytes.now c.args.steps.now c.args.start ask d prices a x.some_track (omega (arith, x.tally.few)) trail c.args.list.now c.args.want.some))

-- the byte of the next note
turn : (want : List ℕ) (k : ℕ) → get_or (take (length want - 1) (drop 1 want)) k 0 ≡ get_or want (k + 1) 0
turn want k = ap (λ z. get_or z k 0) (take_all (length want - 1) (drop 1 want) (omega (arith, length-drop 1 want))) ∙ get_or_after_one want k 0 ∙ ap (λ z. get_or want z 0) (let e : 1 + k ≡ k + 1 = omega arith in e)

-- there is one
more_in : (want : List ℕ) (k : ℕ) → k < length (take (length want - 1) (drop 1 want)) → k + 1 < length want
more_in want k l = omega (arith, ap length (take_all (length want - 1) (drop 1 want) (omega (arith, length-drop 1 want))), length-drop 1 want)

-- and its row stands before
offset_lower : (bytes want : List ℕ) (k offset size : ℕ) → k < length (take (length want - 1) (drop 1 want)) → offset ≡ offset_of bytes want k → size ≡ count_by (eqb (get_or (take (length want - 1) (drop 1 want)) k 0)) bytes → offset ≡ offset_of bytes want (k + 1) + size
offset_lower bytes want k offset size l is e = let f = e ∙ ap (λ z. count_by (eqb z) bytes) (turn want k) in omega (arith, offset_next bytes want k (more_in want k l))

pub offset_bounds-ground-place : goal.offset_bounds-ground-place
offset_bounds-ground-place g c =
    let x = c.args.ground.now in
    let bytes = map g.S.Symbol.byte x.tally.cells.now in
    let n = length-map x.tally.cells.now g.S.Symbol.byte in
    let k = c.loop-byte.byte-index in
    let t = c.requires.leading in
    let at = stays (c.loop-byte.invariant.3 t.0 t.1 t.2 t.3 t.4) in
    omega (arith, at.0, x.tally.few)

pub bounds-ground-place : goal.bounds-ground-place
bounds-ground-place g c =
    let x = c.args.ground.now in
    let bytes = map g.S.Symbol.byte x.tally.cells.now in
    let n = length-map x.tally.cells.now g.S.Symbol.byte in
    let k = c.loop-byte.byte-index in
    let t = c.requires.leading in
    let at = stays (c.loop-byte.invariant.3 t.0 t.1 t.2 t.3 t.4) in
    omega (arith, at.0, x.long_after)

pub overflow_add-step : goal.overflow_add-step
overflow_add-step g c =
    let x = c.args.ground.now in
    let bytes = map g.S.Symbol.byte x.tally.cells.now in
    let n = length-map x.tally.cells.now g.S.Symbol.byte in
    let k = c.loop-byte.byte-index in
    let t = c.requires.leading in
    let at = stays (c.loop-byte.invariant.3 t.0 t.1 t.2 t.3 t.4) in
    omega (arith, c.well_formed, step_in bytes x.after.now x.ranked c.args.want.bytes.now c.args.steps.now k c.loop-byte.place c.loop-byte.offset c.loop-byte.invariant.0 c.requires.room_steps c.loop-byte.invariant.2 at.0 at.1)

pub offset_bounds-steps-offset : goal.offset_bounds-steps-offset
offset_bounds-steps-offset g c =
    let x = c.args.ground.now in
    let bytes = map g.S.Symbol.byte x.tally.cells.now in
    let n = length-map x.tally.cells.now g.S.Symbol.byte in
    let k = c.loop-byte.byte-index in
    let t = c.requires.leading in
    let at = stays (c.loop-byte.invariant.3 t.0 t.1 t.2 t.3 t.4) in
    omega (arith, c.well_formed, step_in bytes x.after.now x.ranked c.args.want.bytes.now c.args.steps.now k c.loop-byte.place c.loop-byte.offset c.loop-byte.invariant.0 c.requires.room_steps c.loop-byte.invariant.2 at.0 at.1)

pub bounds-steps-offset : goal.bounds-steps-offset
bounds-steps-offset g c =
    let x = c.args.ground.now in
    let bytes = map g.S.Symbol.byte x.tally.cells.now in
    let n = length-map x.tally.cells.now g.S.Symbol.byte in
    let k = c.loop-byte.byte-index in
    let t = c.requires.leading in
    let at = stays (c.loop-byte.invariant.3 t.0 t.1 t.2 t.3 t.4) in
    step_in bytes x.after.now x.ranked c.args.want.bytes.now c.args.steps.now k c.loop-byte.place c.loop-byte.offset c.loop-byte.invariant.0 c.requires.room_steps c.loop-byte.invariant.2 at.0 at.1

pub overflow_sub-offset : goal.overflow_sub-offset
overflow_sub-offset g c = omega (arith, offset_lower (map g.S.Symbol.byte c.args.ground.now.tally.cells.now) c.args.want.bytes.now c.loop-byte.byte-index c.loop-byte.offset c.count-offset.result c.loop-byte-test.true c.loop-byte.invariant.2 c.count-offset.ensures.is)

pub overflow_add-place : goal.overflow_add-place
overflow_add-place g c =
    let x = c.args.ground.now in
    let bytes = map g.S.Symbol.byte x.tally.cells.now in
    let n = length-map x.tally.cells.now g.S.Symbol.byte in
    let k = c.loop-byte.byte-index in
    let t = c.requires.leading in
    let at = stays (c.loop-byte.invariant.3 t.0 t.1 t.2 t.3 t.4) in
    omega (arith, at.0, x.tally.few, x.few_tracks)

pub overflow_add-open : goal.overflow_add-open
overflow_add-open g c =
    let t = c.requires.leading in
    omega (arith, c.well_formed, (c.loop-byte.invariant.3 t.0 t.1 t.2 t.3 t.4).note_is)

pub overflow_add-open-else-step : goal.overflow_add-open-else-step
overflow_add-open-else-step g c =
    let t = c.requires.leading in
    omega (arith, c.well_formed, (c.loop-byte.invariant.3 t.0 t.1 t.2 t.3 t.4).note_is)

pub lone-open-requires-else-step : goal.lone-open-requires-else-step
lone-open-requires-else-step g c =
    let x = c.args.ground.now in
    let bytes = map g.S.Symbol.byte x.tally.cells.now in
    let n = length-map x.tally.cells.now g.S.Symbol.byte in
    let k = c.loop-byte.byte-index in
    let t = c.requires.leading in
    let at = stays (c.loop-byte.invariant.3 t.0 t.1 t.2 t.3 t.4) in
    let s = get_or c.args.steps.now (c.loop-byte.offset + get_or x.after.now c.loop-byte.place 0) 0 in
    let is = step_is bytes x.after.now x.ranked c.args.want.bytes.now c.args.steps.now k c.loop-byte.place c.loop-byte.offset c.loop-byte.invariant.0 c.requires.room_steps c.loop-byte.invariant.2 at.0 at.1 in
    let within = over_in g.P.Price.pricing g.P.Price.meaning bytes x.tracks c.args.want.bytes.now c.args.steps.now c.args.start t.0 t.1 t.2 t.3 x.some_track (omega (arith, x.tally.few)) t.4 k c.loop-byte.place c.loop-byte.count c.loop-byte.open c.args.list.now c.loop-byte.list (c.loop-byte.invariant.3 t.0 t.1 t.2 t.3 t.4) s (more_in c.args.want.bytes.now k c.loop-byte-test.true) is c.if-step.false in
    omega (arith, within, x.tally.few)

pub loop-byte-preserved : goal.loop-byte-preserved
loop-byte-preserved g c =
    let m = g.P.Price.pricing in
    let meaning = g.P.Price.meaning in
    let x = c.args.ground.now in
    let bytes = map g.S.Symbol.byte x.tally.cells.now in
    let want = c.args.want.bytes.now in
    let steps = c.args.steps.now in
    let n = length-map x.tally.cells.now g.S.Symbol.byte in
    let k = c.loop-byte.byte-index in
    let q = c.loop-byte.place in
    let o = c.loop-byte.open in
    let t = c.requires.leading in
    let at = stays (c.loop-byte.invariant.3 t.0 t.1 t.2 t.3 t.4) in
    let s = get_or steps (c.loop-byte.offset + get_or x.after.now q 0) 0 in
    let is = step_is bytes x.after.now x.ranked want steps k q c.loop-byte.offset c.loop-byte.invariant.0 c.requires.room_steps c.loop-byte.invariant.2 at.0 at.1 in
    let more = more_in want k c.loop-byte-test.true in
    let lower = offset_lower bytes want k c.loop-byte.offset c.count-offset.result c.loop-byte-test.true c.loop-byte.invariant.2 c.count-offset.ensures.is in (
      more,
      elim c.if-step.branch [ then-step w ↦ omega (arith, w.count-is, c.loop-byte.invariant.1) | else-step w ↦ omega (arith, w.count-is, c.loop-byte.invariant.1) ],
      omega arith,
      λ ask d prices a trail.
          let f = c.loop-byte.invariant.3 ask d prices a trail in
          elim c.if-step.branch [
            | then-step w ↦
                subst (λ i. i) (λ j. Following m meaning bytes x.tracks want steps c.args.start ask d prices a (k + 1) (sym w.place-is j) (sym w.count-is j) (sym w.open-is j) c.args.list.now (sym w.list-is j))
                (following_on m meaning bytes x.tracks want steps c.args.start ask d prices a x.some_track (omega (arith, x.tally.few)) trail k q c.loop-byte.count o c.args.list.now c.loop-byte.list f s more is w.if-step.true)
            | else-step w ↦
                let made = w.lone-open-else-step.ensures ∙ ap (λ z. lone_at x.tracks z s) (let e : o.first + o.len ≡ k + 1 + 1 = omega (arith, f.note_is) in e) in
                subst (λ i. i) (λ j. Following m meaning bytes x.tracks want steps c.args.start ask d prices a (k + 1) (sym w.place-is j) (sym w.count-is j) (sym (w.open-is ∙ made) j) c.args.list.now (sym w.list-is j))
                (following_over m meaning bytes x.tracks want steps c.args.start ask d prices a x.some_track (omega (arith, x.tally.few)) trail k q c.loop-byte.count o c.args.list.now c.loop-byte.list f s more is w.if-step.false (omega (arith, c.loop-byte.invariant.0, c.loop-byte.invariant.1, c.requires.room_list)))
          ],
    )

pub returns : goal.returns
returns g c =
    let m = g.P.Price.pricing in
    let meaning = g.P.Price.meaning in
    let x = c.args.ground.now in
    let bytes = map g.S.Symbol.byte x.tally.cells.now in
    let n = length-map x.tally.cells.now g.S.Symbol.byte in
    let want = c.args.want.bytes.now in
    let k = c.loop-byte.byte-index in
    λ ask d prices a trail. following_ends m meaning bytes x.tracks want c.args.steps.now c.args.start ask d prices a x.some_track (omega (arith, x.tally.few)) trail k c.loop-byte.place c.loop-byte.count c.loop-byte.open c.args.list.now c.loop-byte.list (c.loop-byte.invariant.3 ask d prices a trail) (omega (arith, c.loop-byte.invariant.0, c.loop-byte-test.false, ap length (take_all (length want - 1) (drop 1 want) (omega (arith, length-drop 1 want))), length-drop 1 want)) (omega (arith, c.loop-byte.invariant.0, c.loop-byte.invariant.1, c.requires.room_list))
