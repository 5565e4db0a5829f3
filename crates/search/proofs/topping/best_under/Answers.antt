use Rattle.std.proofs.Common.{map, get_or, subst, arith}
use Rattle.search.specs.Rows.{value}
use Rattle.search.specs.Topmost.{Shallow, Topmost}
use Rattle.search.specs.declared.row.Row.{Row}
use Rattle.search.proofs.Concluding.{row_shallow, best_under}
use Rattle.search.proofs.Rowing.{standing}
use Rattle.search.proofs.topping.best_under.Goals as goal

pub returns-clause-best : goal.returns-clause-best
returns-clause-best g c =
    let m = g.P.Price.pricing in
    let meaning = g.P.Price.meaning in
    let x = c.args.ground.now in
    let bytes = map g.S.Symbol.byte x.tally.cells.now in
    let want = c.args.want.bytes.now in
    let sheet = c.fill_rows-row.new.sheets.prices.now in
    let is = c.fill_rows-row.ensures.first in
    let first = standing bytes want 0 in
    let tops = subst (λ (r : Row). Shallow m meaning (value bytes r.byte r.offset sheet) → Topmost m meaning (value bytes r.byte r.offset sheet) c.best_of.result 0) is c.best_of.ensures in
    λ ask k posed limit_is wanted.
    let right = (c.fill_rows-row.ensures.rows ask k posed limit_is wanted 0 (omega arith) c.args.want.some).least in
    let wants = wanted.each 0 c.args.want.some in
    best_under ask bytes x.tracks x.some_track posed m g.met.P.Price.lawful meaning k (get_or want 0 0) first.offset sheet wants right c.best_of.result
    (tops (row_shallow ask bytes x.tracks x.some_track posed m g.met.P.Price.lawful meaning k (get_or want 0 0) first.offset sheet wants right))
