use Rattle.std.proofs.Common.{◌*◌, ◌≤◌, map, length, vec_items, arith}
use Rattle.std.proofs.lemmas.Nat.{mul-le}
use Rattle.finder.proofs.ColumnEdits.{columns_front}
use Rattle.finder.proofs.Filled.{score_spelled}
use Rattle.finder.proofs.score.Score.write.Goals as goal

pub returns-clause-spelled : goal.returns-clause-spelled
returns-clause-spelled g c =
    let s = c.args.self.now in
    let byte = g.S.Symbol.byte in
    let items = vec_items s.memory in
    let room : s.columns * s.tracks ≤ length items = omega (arith, mul-le s.columns s.tracks s.capacity s.tracks s.held (omega arith), s.room, s.memory.ok.0) in
    (score_spelled g.S.Symbol.kind byte g.met.S.Symbol.bytes s.tracks s.columns items s.some_track s.few_tracks (omega (arith, s.held, s.few_columns)) room, columns_front s.tracks s.columns (map byte items))
