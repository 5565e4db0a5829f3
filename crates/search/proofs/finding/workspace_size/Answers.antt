use Rattle.std.proofs.Common.{map, ◌∙◌}
use Rattle.search.specs.Workspace.{workspace}
use Rattle.search.proofs.Asking.{same_workspace}
use Rattle.search.proofs.finding.workspace_size.Goals as goal

pub returns : goal.returns
returns g c =
    let k = g.S.Symbol.kind in
    let byte = g.S.Symbol.byte in
    let mode = c.args.mode in
    λ limit. (c.in_ok-query.ensures.0, c.workspace.ensures ∙ (λ j. workspace k mode (map byte (c.new.ensures j)) (map byte (c.in_ok-query.ensures.1 j))) ∙ same_workspace k byte c.args.grid.now mode c.args.query.now)
