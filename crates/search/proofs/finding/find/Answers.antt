use Rattle.std.proofs.Common.{◌≡◌, map, length, None, sym, subst, arith}
use Rattle.search.specs.Questions.{grid_question, question_refusal}
use Rattle.search.specs.Queries.{list_refusal}
use Rattle.search.specs.Workspace.{workspace, workspace_of}
use Rattle.search.proofs.Asking.{same_workspace, asked, granted}
use Rattle.search.proofs.finding.find.Goals as goal

pub answer-requires-clause-granted : goal.answer-requires-clause-granted
answer-requires-clause-granted g c =
    let k = g.S.Symbol.kind in
    let byte = g.S.Symbol.byte in
    let grid = c.args.grid.now in
    let mode = c.args.mode in
    let query = c.in_ok-query.query in
    let notes = query.notes.now in
    let are = c.in_ok-query.ensures.1 in
    let ask = grid_question k byte grid c.args.limit mode notes in
    let listed = subst (λ z. list_refusal (map byte z) (length c.args.list.now) ≡ None) (sym are) c.in_ok-query.ensures.0 in
    let h = granted ask _ _ _ _ (c.in_ok-check_sheets.ensures grid c.new-tally.ensures (length c.args.list.now) listed) in
    let size : workspace k mode (map byte grid.symbols.now) (map byte notes) ≡ workspace_of ask = same_workspace k byte grid mode notes in
    record {
      ask = grid_question k byte grid c.args.limit mode c.args.query.now;
      asked = asked k byte grid mode c.args.query.now g.met.S.Symbol.lawful notes are query.few c.args.limit;
      room_list = h.0.1;
      room = record { prices = omega (arith, size, h.1); steps = omega (arith, size, h.3); window = omega (arith, size, h.2) };
    }

pub returns : goal.returns
returns g c =
    let k = g.S.Symbol.kind in
    let byte = g.S.Symbol.byte in
    let grid = c.args.grid.now in
    let mode = c.args.mode in
    let query = c.in_ok-query.query in
    let are = c.in_ok-query.ensures.1 in
    let list = length c.args.list.now in
    let listed = subst (λ z. list_refusal (map byte z) list ≡ None) (sym are) c.in_ok-query.ensures.0 in (
      subst (λ z. question_refusal (grid_question k byte grid c.args.limit mode z) list (length c.args.prices.now) (length c.args.window.now) (length c.args.steps.now) ≡ None) are (c.in_ok-check_sheets.ensures grid c.new-tally.ensures list listed),
      c.answer.ensures (grid_question k byte grid c.args.limit mode c.args.query.now) (asked k byte grid mode c.args.query.now g.met.S.Symbol.lawful query.notes.now are query.few c.args.limit),
    )
