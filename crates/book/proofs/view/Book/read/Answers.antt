use Rattle.std.proofs.Common.{◌∙◌, refl, ap, arith}
use Rattle.std.proofs.lemmas.Result.{err_from_is_err_and}
use Rattle.book.proofs.Promises.{reading_ok, reading_err}
use Rattle.book.proofs.view.Book.read.Goals as goal

pub returns-in_err-shape : goal.returns-in_err-shape
returns-in_err-shape g c =
    let p = err_from_is_err_and c.from_residual.result c.from_residual.ensures.1 in
    rw (p.1, p.2) (reading_err {S = g.row.S.Denot} g.S.Symbol.kind c.args.input.now c.in_err-shape.field-0.0 c.in_err-shape.ensures)

pub returns : goal.returns
returns g c =
    let h = c.in_ok-shape.ensures in
    let shape = c.shape.view_is ∙ h.1 in
    reading_ok g.S.Symbol.kind c.args.input.now (λ i. omega (arith, c.type_inv.input i)) h.0 (record { input = c.args.input; tracks = c.shape.inside.tracks; columns = c.shape.inside.columns; kind = record {} }) refl (ap (λ s. s.tracks) shape) (ap (λ s. s.columns) shape)
