use Rattle.std.proofs.Common.{◌≡◌, ◌-◌, true, T, leb, length, get_or, sym, ap, ◌∙◌, subst, arith}
use Rattle.std.proofs.ByRecursion.{All-get_or}
use Rattle.std.proofs.lemmas.Bool.{and_parts, leb-true}
use Rattle.notation.specs.Kind.{readable}
use Rattle.slip.specs.SlipReading.{has_note}
use Rattle.book.proofs.Promises.{told_there}
use Rattle.slip.proofs.view.Slip.note.Goals as goal

pub returns-in_err-note_byte : goal.returns-in_err-note_byte
returns-in_err-note_byte g c = λ q asks. rw c.from_residual.ensures (ap (λ x. has_note x c.args.n) (sym asks.query) ∙ c.in_err-note_byte.ensures)

pub returns : goal.returns
returns g c =
    λ q asks.
    let h = c.in_ok-note_byte.ensures in
    let k = g.S.Symbol.kind in
    let n = c.args.n in
    let there : has_note q.query n ≡ true = ap (λ x. has_note x n) (sym asks.query) ∙ h.0 in
    let bounds = and_parts (leb 1 n) (leb n (length q.query)) there in
    let e = h.1 ∙ ap (λ x. get_or x (n - 1) 0) asks.query in
    let reads = All-get_or (λ x. T (readable k x)) q.query (n - 1) 0 (omega (arith, leb-true 1 n bounds.0, leb-true n (length q.query) bounds.1)) asks.question.symbols in
    told_there g.S.Symbol.byte c.read.result (T (readable k c.in_ok-note_byte.field-0)) c.in_ok-note_byte.field-0 (get_or q.query (n - 1) 0) (has_note q.query n) c.read.ensures (subst (λ x. T (readable k x)) (sym e) reads) there e
