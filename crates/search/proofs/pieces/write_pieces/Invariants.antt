use Rattle.std.proofs.Common.{◌≡◌, ◌<◌, ◌≤◌, List, map, length, ℤ, Option}
use Rattle.splitting.specs.Score.{Question}
use Rattle.search.specs.Resting.{offset_of}
use Rattle.search.specs.Trails.{Trail}
use Rattle.search.proofs.Trailing.{Following}
use Rattle.search.proofs.pieces.write_pieces.Given as goal

abbrev pub invariant-loop-byte : goal.invariant-loop-byte
invariant-loop-byte g l =
    (l.byte-index < length l.want.bytes.now)
    × (l.count ≤ l.byte-index)
    × (l.offset ≡ offset_of (map g.S.Symbol.byte l.ground.tally.cells.now) l.want.bytes.now l.byte-index)
    × ((ask : Question) (c : ℤ) (prices : List (Option g.row.P.Denot)) (a : g.row.P.Denot) → Trail g.P.Price.pricing g.P.Price.meaning (map g.S.Symbol.byte l.ground.tally.cells.now) l.ground.tracks l.want.bytes.now l.steps l.start ask c prices a → Following g.P.Price.pricing g.P.Price.meaning (map g.S.Symbol.byte l.ground.tally.cells.now) l.ground.tracks l.want.bytes.now l.steps l.start ask c prices a l.byte-index l.place l.count l.open l.initial.list l.list)
