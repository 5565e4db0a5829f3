use Rattle.std.proofs.Common.{◌≡◌, ◌+◌, map, ap, ◌∙◌, arith}
use Rattle.search.proofs.Counts.{top, top_more, sized, workspace_top, bytes_small}
use Rattle.search.proofs.tally.Tally.workspace.Goals as goal

pub loop-b-preserved : goal.loop-b-preserved
loop-b-preserved g c =
    let size = sized g.S.Symbol.kind c.args.mode (map g.S.Symbol.byte c.args.self.now.cells.now) (map g.S.Symbol.byte c.args.query.now.notes.now) in
    omega (arith, c.max-size.ensures, c.size_to.ensures, c.loop-b.invariant, top_more size c.loop-b.b)

pub returns-2 : goal.returns-2
returns-2 g c =
    let k = g.S.Symbol.kind in
    let byte = g.S.Symbol.byte in
    let xs = c.args.self.now.cells.now in
    let query = map byte c.args.query.now.notes.now in
    let size = sized k c.args.mode (map byte xs) query in
    let all : c.max-size.result ≡ top size (c.loop-b.b + 1) = omega (arith, c.max-size.ensures, c.size_to.ensures, c.loop-b.invariant, top_more size c.loop-b.b) in
    all ∙ ap (top size) (let e : c.loop-b.b + 1 ≡ 256 = omega arith in e) ∙ workspace_top k c.args.mode (map byte xs) query (bytes_small byte k g.met.S.Symbol.lawful g.met.S.Symbol.bytes xs)
