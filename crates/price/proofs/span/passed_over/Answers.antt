use Rattle.std.proofs.Common.{◌≡◌, ◌+◌, ◌<◌, length, Some, refl, sym, subst, inl, inr, arith}
use Rattle.std.specs.List.{slice_get, slice_range}
use Rattle.std.proofs.lemmas.Bool.{cases_lt, both_ways}
use Rattle.std.proofs.lemmas.Option.{slice_get_within}
use Rattle.std.proofs.lemmas.List.{length-take, length-drop}
use Rattle.price.specs.History.{gap}
use Rattle.price.specs.Keeping.{Judged}
use Rattle.price.proofs.Spots.{found, part_has, read_is}
use Rattle.price.proofs.span.passed_over.Goals as goal
use Rattle.price.proofs.span.passed_over.Goals.{else-within-via-then-within+else-not-tied, else-within-via-else-within}

pub loop-i-preserved : goal.loop-i-preserved
loop-i-preserved g c =
    λ a e l n.
    elim (cases_lt a c.loop-i.i) [
      | inl q ↦ c.loop-i.invariant a e q n
      | inr q ↦
          let xs = c.args.kept.now in
          let i = c.loop-i.i in
          let same : a ≡ i = omega arith in
          let here : slice_get xs i ≡ Some e = subst (λ k. slice_get xs k ≡ Some e) same n in
          elim c.else-within.branch [
            | else-within-via-then-within+else-not-tied w ↦
                let more = w.tied.ensures.next w.if-not-tied.false in
                let last : i + 1 < length xs = omega (arith, simp (length-take, length-drop) at more) in
                let next = found xs (i + 1) last in
                let judged = w.tied.ensures.judged e next.0 (part_has xs i (length xs) (slice_range xs i (length xs)) refl 0 i e (omega arith) (omega arith) here) (part_has xs i (length xs) (slice_range xs i (length xs)) refl 1 (i + 1) next.0 refl last next.1) in
                inr (next.0, subst (λ k. slice_get xs (k + 1) ≡ Some next.0) (sym same) next.1, subst (Judged g.P.Price.pricing g.P.Price.meaning c.args.from next.0 e) w.if-not-tied.false judged)
            | else-within-via-else-within w ↦
                let x = c.index-kept-i.result in
                let is : x ≡ e = read_is xs i x e (omega arith) c.index-kept-i.is here in
                inl (subst (λ y. c.args.limit < gap c.args.from y) is
                (elim (cases_lt c.args.limit (gap c.args.from x)) [ inl far ↦ far | inr near ↦ absurd (both_ways c.within.result w.if-within.false (c.within.ensures.1 near)) ]))
          ]
    ]

pub returns-clause-within : goal.returns-clause-within
returns-clause-within g c e n = let l : length c.args.kept.now < length c.args.kept.now = slice_get_within _ _ e n in absurd (omega arith)

pub returns-clause-dearer : goal.returns-clause-dearer
returns-clause-dearer g c e d n m = let l : length c.args.kept.now < length c.args.kept.now = slice_get_within _ _ e n in absurd (omega arith)
