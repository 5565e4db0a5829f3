use Rattle.std.proofs.Common.{◌≡◌, ℕ, true, false, map, refl, ap, ◌∙◌}
use Rattle.book.specs.declared.grid.Grid.{Grid}
use Rattle.search.specs.Questions.{grid_question}
use Rattle.search.specs.Workspace.{workspace}
use Rattle.search.proofs.Asking.{same_workspace, sheets_kept, sheets_short}
use Rattle.search.proofs.finding.check_sheets.Goals as goal

pub returns-then-not-hold : goal.returns-then-not-hold
returns-then-not-hold g c =
    let k = g.S.Symbol.kind in
    let byte = g.S.Symbol.byte in
    let mode = c.args.asking.now.mode in
    let query = c.args.asking.now.query.notes.now in
    let lengths = c.args.lengths in
    λ grid are list granted.
    let size_is = c.workspace-size.ensures ∙ ap (λ z. workspace k mode (map byte z) (map byte query)) are ∙ same_workspace k byte grid mode query in
    sheets_short (grid_question k byte grid 0 mode query) list lengths.prices lengths.window lengths.steps granted c.workspace-size.result size_is false c.if-not-hold.ensures refl

pub returns : goal.returns
returns g c =
    let k = g.S.Symbol.kind in
    let byte = g.S.Symbol.byte in
    let mode = c.args.asking.now.mode in
    let query = c.args.asking.now.query.notes.now in
    let lengths = c.args.lengths in
    λ grid are list granted.
    let size_is = c.workspace-size.ensures ∙ ap (λ z. workspace k mode (map byte z) (map byte query)) are ∙ same_workspace k byte grid mode query in
    sheets_kept (grid_question k byte grid 0 mode query) list lengths.prices lengths.window lengths.steps granted c.workspace-size.result size_is true c.if-not-hold.ensures refl
