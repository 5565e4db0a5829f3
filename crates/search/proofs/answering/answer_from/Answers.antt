use Rattle.std.proofs.Common.{map, sym, refl, subst, arith, w32, SFits, rules}
use Rattle.std.proofs.lemmas.List.{length-map}
use Rattle.std.proofs.lemmas.Int.{to_z-of_z}
use Rattle.splitting.specs.Answer.{Right}
use Rattle.search.proofs.Telling.{none_told, settled_trail, settled_room, settled_place, found_told}
use Rattle.search.proofs.answering.answer_from.Goals as goal

pub returns-in_default : goal.returns-in_default
returns-in_default g c =
    let k = g.S.Symbol.kind in
    let mode = c.args.asking.now.mode in
    let limit = c.args.asking.now.limit in
    let x = c.args.ground.now in
    let bytes = map g.S.Symbol.byte x.tally.cells.now in
    let query = map g.S.Symbol.byte c.args.asking.now.query.notes.now in
    let m = g.P.Price.pricing in
    let meaning = g.P.Price.meaning in
    λ ask asked. (none_told bytes query k mode limit x.tracks m g.met.P.Price.lawful meaning ask asked (c.in_default.ensures.settles ask asked), refl)

pub write_pieces-count-requires : goal.write_pieces-count-requires
write_pieces-count-requires g c =
    let k = g.S.Symbol.kind in
    let mode = c.args.asking.now.mode in
    let limit = c.args.asking.now.limit in
    let x = c.args.ground.now in
    let bytes = map g.S.Symbol.byte x.tally.cells.now in
    let query = map g.S.Symbol.byte c.args.asking.now.query.notes.now in
    let m = g.P.Price.pricing in
    let meaning = g.P.Price.meaning in
    let granted = c.requires.granted in
    let want = c.settle.new.want in
    let prices = c.settle.new.sheets.prices.now in
    let steps = c.settle.new.sheets.steps.now in
    let o = c.in-Some.best in
    let settled = c.in-Some.ensures.settles granted.ask granted.asked in
    let long = c.in-Some.ensures.as_long in
    let n = length-map c.args.asking.now.query.notes.now g.S.Symbol.byte in
    let room = settled_room bytes query k mode limit x.tracks m g.met.P.Price.lawful meaning granted.ask granted.asked want prices steps o settled x.some_track g.met.S.Symbol.lawful (omega (arith, c.args.asking.now.query.some)) in
    record {
      room_list = omega (arith, c.settle.auto.want, c.requires.as_long, granted.room_list);
      room_steps = omega (arith, long.steps, granted.room.steps, room);
      leading = (granted.ask, o.shift, prices, o.price, settled_trail bytes query k mode limit x.tracks m g.met.P.Price.lawful meaning granted.ask granted.asked want prices steps o settled);
    }

pub place_of-requires : goal.place_of-requires
place_of-requires g c =
    let k = g.S.Symbol.kind in
    let mode = c.args.asking.now.mode in
    let limit = c.args.asking.now.limit in
    let x = c.args.ground.now in
    let bytes = map g.S.Symbol.byte x.tally.cells.now in
    let query = map g.S.Symbol.byte c.args.asking.now.query.notes.now in
    let m = g.P.Price.pricing in
    let meaning = g.P.Price.meaning in
    let granted = c.requires.granted in
    let want = c.settle.new.want in
    let prices = c.settle.new.sheets.prices.now in
    let steps = c.settle.new.sheets.steps.now in
    let o = c.in-Some.best in
    let settled = c.in-Some.ensures.settles granted.ask granted.asked in
    omega (arith, settled_place bytes query k mode limit x.tracks m g.met.P.Price.lawful meaning granted.ask granted.asked want prices steps o settled, x.tally.few, length-map x.tally.cells.now g.S.Symbol.byte)

pub returns : goal.returns
returns g c =
    let k = g.S.Symbol.kind in
    let mode = c.args.asking.now.mode in
    let limit = c.args.asking.now.limit in
    let x = c.args.ground.now in
    let bytes = map g.S.Symbol.byte x.tally.cells.now in
    let query = map g.S.Symbol.byte c.args.asking.now.query.notes.now in
    let m = g.P.Price.pricing in
    let meaning = g.P.Price.meaning in
    let want = c.settle.new.want in
    let prices = c.settle.new.sheets.prices.now in
    let steps = c.settle.new.sheets.steps.now in
    let o = c.in-Some.best in
    let fit : SFits w32 o.shift = search rules in
    λ ask asked.
    let settled = c.in-Some.ensures.settles ask asked in
    let written = c.write_pieces-count.ensures ask o.shift prices o.price (settled_trail bytes query k mode limit x.tracks m g.met.P.Price.lawful meaning ask asked want prices steps o settled) in
    let right = found_told bytes query k mode limit x.tracks m g.met.P.Price.lawful meaning ask asked want prices steps o settled c.write_pieces-count.result c.args.list.now c.write_pieces-count.new.list written in
    subst (λ z. z) (λ j. Right ask m (record { price = meaning o.price; count = c.write_pieces-count.result; shift = sym (to_z-of_z w32 o.shift fit) j; place = sym c.place_of.ensures j }) c.args.list.now c.write_pieces-count.new.list) right
