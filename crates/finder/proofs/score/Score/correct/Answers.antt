use Rattle.std.proofs.Common.{vec_items, rules}
use Rattle.finder.proofs.ColumnEdits.{symbol_corrected}
use Rattle.finder.proofs.score.Score.correct.Goals as goal

pub returns : goal.returns
returns g c =
    let s = c.args.self.now in
    let corrected = symbol_corrected g.S.Symbol.byte s.tracks s.columns c.args.column c.args.track (vec_items s.memory) c.args.symbol c.if-column-lt1.false c.if-column-self.false c.if-track-lt1.false c.if-track-self.false in
    search rules
