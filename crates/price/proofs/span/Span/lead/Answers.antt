use Rattle.std.proofs.Common.{◌≡◌, ◌+◌, ◌<◌, ◌≤◌, length, Some, sym, ◌∙◌, refl, subst, inl, inr, arith}
use Rattle.std.specs.List.{slice_get}
use Rattle.std.proofs.lemmas.Bool.{cases_lt}
use Rattle.price.specs.History.{moved, gap}
use Rattle.price.proofs.Spots.{nowhere, found, part_has, part_long, part_from, copied_at}
use Rattle.price.proofs.Keeps.{kept_moved, kept_passed, told_first}
use Rattle.price.proofs.Spanned.{spans_moved}
use Rattle.price.proofs.span.Span.lead.Goals as goal

pub returns-clause-tells : goal.returns-clause-tells
returns-clause-tells g c =
    λ h onward old.
    let p = g.P.Price.pricing in
    let meaning = g.P.Price.meaning in
    let laws = g.met.P.Price.lawful in
    let xs = c.args.entries.now in
    let s = c.args.self in
    let from = c.args.from in
    let here = moved h from in
    let kept = c.kept-kept.result.now in
    let is = c.kept-kept.ensures.part old.kept.ordered old.kept.inside in
    let over = c.passed_over-past in
    let past = over.result in
    let front = s.front + past in
    let long : s.front + length kept ≡ s.back = part_long xs s.front s.back kept is old.kept.ordered old.kept.inside in
    let stands = part_has xs s.front s.back kept is in
    let back_in = part_from xs s.front s.back kept is old.kept.ordered old.kept.inside in
    let low : front ≤ s.back = omega (arith, over.ensures.high) in
    let told : c.copied.result ≡ slice_get kept past = c.copied.ensures ∙ copied_at kept past c.get.result c.get.ensures.lookup.3 in
    let k = kept_passed p meaning laws xs s.front s.back here (kept_moved p meaning xs s.front s.back from h onward old.kept) past low
    (λ a e l n. elim (over.ensures.over a e l (stands a (s.front + a) e refl (omega arith) n)) [
      | inl far ↦ inl (subst (λ limit. limit < gap from e) old.limit far)
      | inr d ↦ let at = back_in (a + 1) d.0 d.1 in inr (d.0, omega arith, subst (λ i. slice_get xs i ≡ Some d.0) (omega arith) at.1, d.2)
    ]) in (
      spans_moved p meaning xs s h old from _ refl refl refl k,
      told_first p meaning laws xs front s.back here k c.copied.result
          (λ none. elim (cases_lt past (length kept)) [ inl l ↦ let e = found kept past l in absurd (nowhere e.0 (sym none ∙ told ∙ e.1)) | inr l ↦ omega arith ])
          (λ e is_e. let at = back_in past e (sym told ∙ is_e) in (at.0, at.1, subst (λ limit. gap from e ≤ limit) old.limit (over.ensures.within e (sym told ∙ is_e))))
          (λ e d n l m. over.ensures.dearer e d (stands past front e refl (omega arith) n) (stands (past + 1) (front + 1) d (omega arith) l m)),
    )
