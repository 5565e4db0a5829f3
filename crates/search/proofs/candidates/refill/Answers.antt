use Rattle.std.proofs.Common.{◌≡◌, ℕ, ◌+◌, ◌<◌, ◌≤◌, eqb, map, length, get_or, Some, None, count_by, Option, sym, ap, ◌∙◌, subst, arith, w32, SFits, rules}
use Rattle.std.proofs.lemmas.List.{length-map}
use Rattle.std.proofs.lemmas.Int.{to_z-of_z}
use Rattle.notation.specs.Kind.{rest}
use Rattle.search.specs.Candidates.{Settled}
use Rattle.search.specs.Rows.{value}
use Rattle.search.specs.declared.row.Row.{Row}
use Rattle.search.proofs.Leading.{all_matched, refilled, room, settled}
use Rattle.search.proofs.Rowing.{offset_all}
use Rattle.search.proofs.candidates.refill.Goals as goal

pub returns-then-not-want_bytes-clause-settles : goal.returns-then-not-want_bytes-clause-settles
returns-then-not-want_bytes-clause-settles g c =
    let k = g.S.Symbol.kind in
    let mode = c.args.asking.now.mode in
    let x = c.args.ground.now in
    let bytes = map g.S.Symbol.byte x.tally.cells.now in
    let query = map g.S.Symbol.byte c.args.asking.now.query.notes.now in
    let n = length-map c.args.asking.now.query.notes.now g.S.Symbol.byte in
    let o = c.args.choice in
    let fit : SFits w32 o.shift = search rules in
    let same = to_z-of_z w32 o.shift fit in
    let lacking = c.want_bytes.ensures.lacking c.if-not-want_bytes.true in
    λ ask asked best y a begun.
    all_matched bytes query k mode c.args.asking.now.limit x.tracks g.P.Price.pricing g.met.P.Price.lawful g.P.Price.meaning ask asked o best.stands lacking.0 (omega (arith, lacking.1)) (subst (λ z. (d : ℕ) → k.interval (get_or query lacking.0 rest) d ≡ Some z → ⊥) same lacking.2)

pub fill_rows-row-requires : goal.fill_rows-row-requires
fill_rows-row-requires g c =
    let k = g.S.Symbol.kind in
    let mode = c.args.asking.now.mode in
    let x = c.args.ground.now in
    let bytes = map g.S.Symbol.byte x.tally.cells.now in
    let query = map g.S.Symbol.byte c.args.asking.now.query.notes.now in
    let n = length-map c.args.asking.now.query.notes.now g.S.Symbol.byte in
    let o = c.args.choice in
    let fit : SFits w32 o.shift = search rules in
    let same = to_z-of_z w32 o.shift fit in
    let want = c.want_bytes.new.want in
    let as_long : length want ≡ length query = omega (arith, c.want_bytes.auto.want, c.requires.ready.as_long) in
    let each : (i : ℕ) → i < length query → k.interval (get_or query i rest) (get_or want i 0) ≡ Some o.shift = λ i l. c.want_bytes.ensures.each c.if-not-want_bytes.false i (omega arith) ∙ ap Some same in
    let u = c.requires.under in
    let fits = room k g.met.S.Symbol.lawful mode bytes query want u.0 o.shift as_long u.1 each in
    let all = c.requires.ready.room in
    record { prices = omega (arith, fits, all.prices); steps = omega (arith, fits, all.steps); window = omega (arith, fits, all.window) }

pub price_at-requires : goal.price_at-requires
price_at-requires g c =
    let k = g.S.Symbol.kind in
    let mode = c.args.asking.now.mode in
    let x = c.args.ground.now in
    let bytes = map g.S.Symbol.byte x.tally.cells.now in
    let query = map g.S.Symbol.byte c.args.asking.now.query.notes.now in
    let n = length-map c.args.asking.now.query.notes.now g.S.Symbol.byte in
    let o = c.args.choice in
    let fit : SFits w32 o.shift = search rules in
    let same = to_z-of_z w32 o.shift fit in
    let want = c.want_bytes.new.want in
    let as_long : length want ≡ length query = omega (arith, c.want_bytes.auto.want, c.requires.ready.as_long) in
    let each : (i : ℕ) → i < length query → k.interval (get_or query i rest) (get_or want i 0) ≡ Some o.shift = λ i l. c.want_bytes.ensures.each c.if-not-want_bytes.false i (omega arith) ∙ ap Some same in
    let u = c.requires.under in
    let fits = room k g.met.S.Symbol.lawful mode bytes query want u.0 o.shift as_long u.1 each in
    subst (λ (r : Row). r.offset + count_by (eqb r.byte) bytes ≤ length c.fill_rows-row.new.sheets.prices.now) (sym c.fill_rows-row.ensures.first) (omega (arith, offset_all bytes want 0 (omega (arith, c.args.asking.now.query.some, n)), fits, c.requires.ready.room.prices, c.fill_rows-row.ensures.as_long.prices))

none_some : {P : Type 0} (x : Option P) (a : P) → x ≡ None → x ≡ Some a → ⊥
none_some x a none some = cc

pub returns-in_err-price-clause-settles : goal.returns-in_err-price-clause-settles
returns-in_err-price-clause-settles g c =
    let k = g.S.Symbol.kind in
    let mode = c.args.asking.now.mode in
    let x = c.args.ground.now in
    let bytes = map g.S.Symbol.byte x.tally.cells.now in
    let query = map g.S.Symbol.byte c.args.asking.now.query.notes.now in
    let n = length-map c.args.asking.now.query.notes.now g.S.Symbol.byte in
    let o = c.args.choice in
    let fit : SFits w32 o.shift = search rules in
    let same = to_z-of_z w32 o.shift fit in
    let want = c.want_bytes.new.want in
    let as_long : length want ≡ length query = omega (arith, c.want_bytes.auto.want, c.requires.ready.as_long) in
    let each : (i : ℕ) → i < length query → k.interval (get_or query i rest) (get_or want i 0) ≡ Some o.shift = λ i l. c.want_bytes.ensures.each c.if-not-want_bytes.false i (omega arith) ∙ ap Some same in
    let sheets = c.fill_rows-row.new.sheets in
    λ ask asked best.
    let h =
    refilled bytes query k mode c.args.asking.now.limit x.tracks g.P.Price.pricing g.met.P.Price.lawful g.P.Price.meaning ask asked o best.stands want as_long each x.some_track (omega (arith, c.args.asking.now.query.some, n)) sheets.prices.now sheets.steps.now c.fill_rows-row.ensures.rows c.price_at.result
    (c.price_at.ensures ∙ ap (λ (r : Row). value bytes r.byte r.offset sheets.prices.now o.place) c.fill_rows-row.ensures.first) in
    absurd (none_some c.price_at.result h.price c.in_err-price.was h.told_is)

pub returns-clause-settles : goal.returns-clause-settles
returns-clause-settles g c =
    let k = g.S.Symbol.kind in
    let mode = c.args.asking.now.mode in
    let x = c.args.ground.now in
    let bytes = map g.S.Symbol.byte x.tally.cells.now in
    let query = map g.S.Symbol.byte c.args.asking.now.query.notes.now in
    let n = length-map c.args.asking.now.query.notes.now g.S.Symbol.byte in
    let o = c.args.choice in
    let fit : SFits w32 o.shift = search rules in
    let same = to_z-of_z w32 o.shift fit in
    let want = c.want_bytes.new.want in
    let as_long : length want ≡ length query = omega (arith, c.want_bytes.auto.want, c.requires.ready.as_long) in
    let each : (i : ℕ) → i < length query → k.interval (get_or query i rest) (get_or want i 0) ≡ Some o.shift = λ i l. c.want_bytes.ensures.each c.if-not-want_bytes.false i (omega arith) ∙ ap Some same in
    let sheets = c.fill_rows-row.new.sheets in
    λ ask asked best.
    let h =
    refilled bytes query k mode c.args.asking.now.limit x.tracks g.P.Price.pricing g.met.P.Price.lawful g.P.Price.meaning ask asked o best.stands want as_long each x.some_track (omega (arith, c.args.asking.now.query.some, n)) sheets.prices.now sheets.steps.now c.fill_rows-row.ensures.rows c.price_at.result
    (c.price_at.ensures ∙ ap (λ (r : Row). value bytes r.byte r.offset sheets.prices.now o.place) c.fill_rows-row.ensures.first) in
    let m = g.P.Price.pricing in
    let meaning = g.P.Price.meaning in
    subst (λ z. Settled m meaning ask x.tracks bytes c.args.asking.now.limit want sheets.prices.now sheets.steps.now (record { price = c.in_ok-price.price; place = o.place; shift = z })) (sym same)
    (settled bytes c.args.asking.now.limit x.tracks m g.met.P.Price.lawful meaning ask asked.posed.covered want sheets.prices.now sheets.steps.now o best c.price_at.result c.in_ok-price.price c.in_ok-price.was h)
