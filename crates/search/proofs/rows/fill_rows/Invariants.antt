use Rattle.std.proofs.Common.{◌≡◌, ◌<◌, map, length, take}
use Rattle.search.specs.Resting.{RowsRight}
use Rattle.search.specs.Sheets.{AsLong}
use Rattle.search.proofs.Rowing.{standing}
use Rattle.search.proofs.rows.fill_rows.Given as goal

abbrev pub invariant-loop-byte : goal.invariant-loop-byte
invariant-loop-byte g l =
    (l.byte-iterator.iter.rest.now ≡ take (length l.byte-iterator.iter.rest.now) l.want.bytes.now)
    × (length l.byte-iterator.iter.rest.now < length l.want.bytes.now)
    × (l.row ≡ standing (map g.S.Symbol.byte l.ground.tally.cells.now) l.want.bytes.now (length l.byte-iterator.iter.rest.now))
    × AsLong l.initial.sheets l.sheets
    × RowsRight g.P.Price.pricing g.P.Price.meaning (map g.S.Symbol.byte l.ground.tally.cells.now) l.ground.tracks l.limit l.want.bytes.now l.sheets.prices.now l.sheets.steps.now (length l.byte-iterator.iter.rest.now)
