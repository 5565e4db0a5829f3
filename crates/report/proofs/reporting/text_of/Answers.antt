use Rattle.std.proofs.Common.{string_bytes, sym, refl, ◌∙◌}
use Rattle.std.proofs.lemmas.Result.{IfOk-weaker}
use Rattle.report.proofs.Inputs.{by_parts}
use Rattle.report.proofs.reporting.text_of.Goals as goal

pub returns-in-Pitch : goal.returns-in-Pitch
returns-in-Pitch c =
    let input = c.args.input.now in
    IfOk-weaker c.text_as.result _ _
    (λ s h. by_parts input (string_bytes s) _ _ _ _ (sym c.is_whole.ensures ∙ c.if-not-is_whole.false) (sym c.in-Pitch.ensures) refl (sym c.split_at.ensures.front) (sym c.split_at.ensures.back) h)
    c.text_as.ensures

pub returns-in-PitchClass : goal.returns-in-PitchClass
returns-in-PitchClass c =
    let input = c.args.input.now in
    IfOk-weaker c.text_as-in-PitchClass.result _ _
    (λ s h. by_parts input (string_bytes s) _ _ _ _ (sym c.is_whole.ensures ∙ c.if-not-is_whole.false) (sym c.in-PitchClass.ensures) refl (sym c.split_at.ensures.front) (sym c.split_at.ensures.back) h)
    c.text_as-in-PitchClass.ensures

pub returns-in-Stroke : goal.returns-in-Stroke
returns-in-Stroke c =
    let input = c.args.input.now in
    IfOk-weaker c.text_as-in-Stroke.result _ _
    (λ s h. by_parts input (string_bytes s) _ _ _ _ (sym c.is_whole.ensures ∙ c.if-not-is_whole.false) (sym c.in-Stroke.ensures) refl (sym c.split_at.ensures.front) (sym c.split_at.ensures.back) h)
    c.text_as-in-Stroke.ensures
