use Rattle.std.proofs.Common.{◌≡◌, ℕ, eqb, List, length, Some, arith, subst}
use Rattle.std.proofs.lemmas.Bool.{cond-false, ne_eqb}
use Rattle.std.proofs.lemmas.Result.{err_from_is_err_and}
use Rattle.notation.specs.Kind.{Kind}
use Rattle.book.specs.Refusals.{refusal}
use Rattle.book.specs.declared.refusal.Layer.TheVariants.{File}
use Rattle.slip.specs.Slips.{slip_refusal}
use Rattle.slip.specs.SlipReading.{Checked}
use Rattle.slip.proofs.Asking.{slip_reading}
use Rattle.slip.proofs.view.Slip.read.Goals as goal

-- bytes that are not one block long
misfit : (k : Kind) (b : List ℕ) → (length b ≡ 512 → ⊥) → slip_refusal k b ≡ Some (refusal 1 (length b) File)
misfit k b h = cond-false (eqb (length b) 512) _ (Some (refusal 1 (length b) File)) (ne_eqb (length b) 512 h)

pub returns-in_err-whole_block : goal.returns-in_err-whole_block
returns-in_err-whole_block g c =
    let p = err_from_is_err_and c.from_residual.result c.from_residual.ensures.1 in
    let h = c.in_err-whole_block.ensures in
    let k = g.S.Symbol.kind in
    let b = c.args.input.now in
    slip_reading k b (λ i. omega (arith, c.type_inv.input i)) c.from_residual.result (rw (p.1, p.2, h.1) (misfit k b h.0))

pub returns : goal.returns
returns g c =
    let b = c.args.input.now in
    slip_reading g.S.Symbol.kind b (λ i. omega (arith, c.type_inv.input i)) c.of_block.result (subst (λ x. Checked g.S.Symbol.kind x c.of_block.result) c.in_ok-whole_block.ensures c.of_block.ensures)
