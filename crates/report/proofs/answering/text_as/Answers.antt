use Rattle.std.proofs.Common.{Some, IfOk, string_bytes, sym, ap, ◌∙◌, subst}
use Rattle.std.proofs.lemmas.Result.{IfOk-weaker}
use Rattle.slip.specs.Slips.{asked}
use Rattle.report.specs.Reports.{PartsTold}
use Rattle.report.proofs.Calls.{slip_granted, slip_refused}
use Rattle.report.proofs.answering.text_as.Goals as goal

pub returns-in-Ok : goal.returns-in-Ok
returns-in-Ok g c =
    let k = g.S.Symbol.kind in
    let slip = c.args.slip.now in
    let book = c.args.book.now in
    let t = c.in_ok-memory.memory.tracks in
    let read = c.in-Ok.ensures in
    subst (λ n. IfOk c.answered.result (λ x. PartsTold k n book slip (string_bytes x))) c.in_ok-memory.ensures
    (IfOk-weaker c.answered.result _ _
    (λ s h. slip_granted k t book slip (string_bytes s) read.by_rules (h (asked slip) read.granted.1))
    c.answered.ensures)

pub returns-in-Err : goal.returns-in-Err
returns-in-Err g c =
    let k = g.S.Symbol.kind in
    let slip = c.args.slip.now in
    let book = c.args.book.now in
    let t = c.in_ok-memory.memory.tracks in
    subst (λ n. IfOk c.turned_away.result (λ x. PartsTold k n book slip (string_bytes x))) c.in_ok-memory.ensures
    (IfOk-weaker c.turned_away.result _ _
    (λ s h. slip_refused k t book slip (string_bytes s) _ (c.in-Err.ensures.by_rules ∙ ap Some (sym c.refusal.ensures)) h)
    c.turned_away.ensures)
