use Rattle.std.proofs.Common.{◌≡◌, length, replicate, Some, sym, refl, ap, ◌∙◌}
use Rattle.std.specs.Vec.{with_items}
use Rattle.std.proofs.lemmas.List.{with_items_is}
use Rattle.finder.specs.Outcomes.{blank, blanks}
use Rattle.finder.specs.Questions.{question}
use Rattle.finder.proofs.Lending.{told_of_blanks, rule_of_made}
use Rattle.finder.proofs.questioning.ask.Goals as goal

pub returns-in-Ok : goal.returns-in-Ok
returns-in-Ok g c =
    let byte = g.S.Symbol.byte in
    let score = c.args.score.now in
    let room = c.args.room in
    let question-asked = question g.S.Symbol.kind byte score c.args.terms.now c.args.query.now in
    let list = c.in_ok-list.list in
    let given = c.deref_mut.result.now in
    let after = c.find.new.list in
    let items : given ≡ blanks room.list = c.deref_mut.ensures.value ∙ (c.in_ok-list.ensures.items_if_clones_equal (λ x e. e)) ∙ ap (λ n. replicate n blank) c.min.ensures in
    let wrote : length after ≡ list.len = c.find.auto.list ∙ c.deref_mut.ensures.len in
    let rule = rule_of_made byte score question-asked room.list room.prices room.window room.steps (length given) (length c.deref_mut-2.result.now) (length c.deref_mut-3.result.now) (length c.deref_mut-4.result.now) refl
    (c.deref_mut.ensures.len ∙ c.in_ok-list.ensures.len ∙ c.min.ensures)
    (c.deref_mut-2.ensures.len ∙ c.in_ok-prices.ensures.len ∙ c.min-2.ensures)
    (c.deref_mut-3.ensures.len ∙ c.in_ok-window.ensures.len ∙ c.min-3.ensures)
    (c.deref_mut-4.ensures.len ∙ c.in_ok-steps.ensures.len ∙ c.min-4.ensures) in
    let told = c.in-Ok.ensures in
    (rule ∙ told.0, told_of_blanks g.P.Price.pricing g.P.Price.meaning question-asked room.list c.in-Ok.answer given after (with_items list after).items items (with_items_is list after wrote) told.1)

pub returns-in-Err : goal.returns-in-Err
returns-in-Err g c =
    let byte = g.S.Symbol.byte in
    let score = c.args.score.now in
    let room = c.args.room in
    let question-asked = question g.S.Symbol.kind byte score c.args.terms.now c.args.query.now in
    let rule = rule_of_made byte score question-asked room.list room.prices room.window room.steps (length c.deref_mut.result.now) (length c.deref_mut-2.result.now) (length c.deref_mut-3.result.now) (length c.deref_mut-4.result.now) refl
    (c.deref_mut.ensures.len ∙ c.in_ok-list.ensures.len ∙ c.min.ensures)
    (c.deref_mut-2.ensures.len ∙ c.in_ok-prices.ensures.len ∙ c.min-2.ensures)
    (c.deref_mut-3.ensures.len ∙ c.in_ok-window.ensures.len ∙ c.min-3.ensures)
    (c.deref_mut-4.ensures.len ∙ c.in_ok-steps.ensures.len ∙ c.min-4.ensures) in
    rule ∙ c.in-Err.ensures.0 ∙ ap Some (sym c.refusal.ensures)
