use Rattle.std.proofs.Common.{map, vec_items, rules}
use Rattle.std.proofs.lemmas.List.{length-map}
use Rattle.search.proofs.Columns.{length_columns}
use Rattle.finder.proofs.session.Session.perform_call.Goals as goal

pub returns-in-Append : goal.returns-in-Append
returns-in-Append g c =
    let s = c.args.self.now.score in
    let columns = length_columns s.tracks s.columns (map g.S.Symbol.byte (vec_items s.memory)) in
    let handed = length-map c.in-Append.column.now g.S.Symbol.byte in
    search rules

pub returns-in-Correct : goal.returns-in-Correct
returns-in-Correct g c =
    let s = c.args.self.now.score in
    let columns = length_columns s.tracks s.columns (map g.S.Symbol.byte (vec_items s.memory)) in
    search rules

pub returns-in-Cut : goal.returns-in-Cut
returns-in-Cut g c =
    let s = c.args.self.now.score in
    let columns = length_columns s.tracks s.columns (map g.S.Symbol.byte (vec_items s.memory)) in
    search rules
