use Rattle.std.proofs.Common.{ℕ, List, Ok, Err, string_bytes, subst}
use Rattle.std.proofs.lemmas.Result.{err_from_is_err_and}
use Rattle.book.specs.Writing.{Written}
use Rattle.report.proofs.reporting.report.Goals as goal

pub returns-in_err-length : goal.returns-in_err-length
returns-in_err-length c =
    let p = err_from_is_err_and c.from_residual-in_err-length.result c.from_residual-in_err-length.ensures.1 in
    rw (p.1, p.2) (record { text = string_bytes c.in_ok-text.text; acceptable = c.in_ok-text.ensures; written = subst (λ (bs : List ℕ). Written bs c.args.out.now c.put_text.new.out (Err c.in_err-length.field-0.0)) c.as_bytes.ensures.value c.in_err-length.ensures })

pub returns : goal.returns
returns c = record { text = string_bytes c.in_ok-text.text; acceptable = c.in_ok-text.ensures; written = subst (λ (bs : List ℕ). Written bs c.args.out.now c.put_text.new.out (Ok c.in_ok-length.length)) c.as_bytes.ensures.value c.in_ok-length.ensures }
