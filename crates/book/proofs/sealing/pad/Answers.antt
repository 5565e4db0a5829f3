use Rattle.std.proofs.Common.{rules, ◌≡◌, ℕ, ◌+◌, ◌-◌, ◌++◌, length, take, drop, replicate, sym, refl, ap, ◌∙◌, arith}
use Rattle.std.proofs.lemmas.List.{take_all, length-replicate, length-drop, length-take-le}
use Rattle.std.proofs.lemmas.Slice.{put_mid-paste}
use Rattle.book.proofs.sealing.pad.Goals as goal

pub returns : goal.returns
returns c =
    let d = c.args.out.now in
    let from = c.args.from in
    let n = 508 - from in
    let zeros = replicate {A = ℕ} n 0 in
    let long = length-replicate {A = ℕ} n 0 in
    let part : length (take n (drop from d)) ≡ n = length-take-le n (drop from d) (omega (arith, length-drop from d)) in
    let filled : c.fill.new.self ≡ zeros = c.fill.ensures.after (λ y h. search rules) ∙ ap (λ m. replicate {A = ℕ} m 0) part in
    put_mid-paste from n d c.fill.new.self zeros n filled refl (sym long)
    ∙ ap (λ x. take from d ++ x ++ drop (from + n) d) (take_all n zeros (omega (arith, long)))
    ∙ ap (λ m. take from d ++ zeros ++ drop m d) (let e : from + n ≡ 508 = omega arith in e)
