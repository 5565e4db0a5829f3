use Rattle.std.proofs.Common.{◌≡◌, ℕ, length, take, ℤ, refl, ap, ◌∙◌, w32}
use Rattle.std.proofs.lemmas.Result.{IfOk-weaker}
use Rattle.std.proofs.lemmas.Int.{to_z-of_z}
use Rattle.report.specs.Wording.{found_text}
use Rattle.report.proofs.Fronts.{take_min}
use Rattle.report.proofs.telling.front_text.Goals as goal

pub returns : goal.returns
returns c =
    let list = c.args.list.now in
    let front : take (c.min.result) list ≡ take c.args.count list = ap (λ (n : ℕ). take n list) c.min.ensures ∙ take_min c.args.count (length list) list refl in
    IfOk-weaker c.found_text.result _ _
    (λ t h score. h score ∙ ap (λ (z : ℤ). found_text score z (take (c.min.result) list)) (to_z-of_z w32 c.args.shift c.ranges.shift) ∙ ap (found_text score c.args.shift) front)
    c.found_text.ensures
