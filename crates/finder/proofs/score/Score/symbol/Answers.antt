use Rattle.std.proofs.Common.{◌*◌, ◌≤◌, length, vec_items, arith, rules}
use Rattle.std.proofs.lemmas.Nat.{mul-le}
use Rattle.finder.proofs.ColumnEdits.{symbol_read}
use Rattle.finder.proofs.score.Score.symbol.Goals as goal

pub returns : goal.returns
returns g c =
    let s = c.args.self.now in
    let column = c.args.column in
    let track = c.args.track in
    let room : s.columns * s.tracks ≤ length (vec_items s.memory) = omega (arith, mul-le s.columns s.tracks s.capacity s.tracks s.held (omega arith), s.room, s.memory.ok.0) in
    let read = symbol_read g.S.Symbol.byte s.tracks s.columns column track (vec_items s.memory) c.index.result.now c.if-column-lt1.false c.if-column-self.false c.if-track-lt1.false c.if-track-self.false room c.index.ensures in
    search rules
