use Rattle.std.proofs.Common.{T, get_or, sym, refl, ◌∙◌, subst}
use Rattle.notation.specs.Kind.{readable}
use Rattle.book.specs.Reading.{has_place, byte_place, cell_number}
use Rattle.book.proofs.Promises.{place_told, told_there, nowhere}
use Rattle.book.proofs.view.Book.symbol.Goals as goal

pub returns-in_err-cell : goal.returns-in_err-cell
returns-in_err-cell g c =
    λ grid holds.
    rw c.from_residual.ensures (nowhere g.S.Symbol.kind c.args.self.now grid holds c.args.column c.args.track c.in_err-cell.ensures)

pub returns : goal.returns
returns g c =
    λ grid holds.
    let h = c.in_ok-cell.ensures in
    let k = g.S.Symbol.kind in
    let b = c.args.self.now in
    let column = c.args.column in
    let track = c.args.track in
    let p = place_told k b grid holds column track (byte_place b.tracks column track) h.0 refl in
    let e = h.1 ∙ p.2 in
    told_there g.S.Symbol.byte c.read.result (T (readable k c.in_ok-cell.field-0)) c.in_ok-cell.field-0 (get_or grid.cells (cell_number grid.tracks column track) 0) (has_place grid.tracks grid.columns column track) c.read.ensures (subst (λ x. T (readable k x)) (sym e) p.3) p.0 e
