use Rattle.std.proofs.Common.{map, vec_items, arith, rules}
use Rattle.finder.proofs.ColumnEdits.{columns_kept}
use Rattle.finder.proofs.score.Score.cut.Goals as goal

pub returns : goal.returns
returns g c =
    let s = c.args.self.now in
    let kept = columns_kept s.tracks s.columns c.args.columns (map g.S.Symbol.byte (vec_items s.memory)) (omega arith) in
    search rules
