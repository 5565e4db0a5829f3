-- The text on the outcomes of filling a score and of a question.
use Rattle.std.specs.Option.{unwrap_or}
use Rattle.std.specs.Prelude.{ℕ, List, [], take, Some, None, vec_items, Option}
use Rattle.book.specs.Describing.{refused_line}
use Rattle.book.specs.declared.refusal.Refusal.{Refusal}
use Rattle.slip.specs.declared.price_kind.PriceKind as slip
use Rattle.slip.specs.declared.price_kind.PriceKind.TheVariants.{Changes, ChangesThenSilence}
use Rattle.splitting.specs.Score.{Score}
use Rattle.splitting.specs.declared.Answer.{Answer}
use Rattle.splitting.specs.declared.Answer.TheVariants.{None as none, Found as found}
use Rattle.splitting.specs.declared.Piece.{Piece}
use Rattle.finder.specs.declared.call.PriceKind.{PriceKind}
use Rattle.finder.specs.declared.call.PriceKind.TheVariants.{First as at-first-kind, Second as at-second-kind}
use Rattle.finder.specs.declared.outcome.Outcome.{Outcome}
use Rattle.finder.specs.declared.outcome.Outcome.TheVariants.{NoCall, Refused, Done, Size, Transposed, First, Second}
use Rattle.report.specs.Wording.{none_line, found_text}

-- the price kind of a slip, as the first or the second of two
abbrev pub kind_at : slip.PriceKind → PriceKind
kind_at Changes = at-first-kind
kind_at ChangesThenSilence = at-second-kind

-- the refusal in an outcome
abbrev pub refused_by : {S P R : Type 0} → Outcome S P R → Option Refusal
refused_by NoCall = None
refused_by (Refused r) = Some r
refused_by Done = None
refused_by (Size n) = None
refused_by (Transposed v) = None
refused_by (First t) = None
refused_by (Second t) = None

-- a refusal that comes before another
abbrev pub first_of : Option Refusal → Refusal → Refusal
first_of before r = unwrap_or before r

-- the text on an answer, whose pieces are the front of a list
abbrev pub answer_text : {P : Type 0} → Score → Answer P → List Piece → List ℕ
answer_text score none list = none_line
answer_text score (found f) list = found_text score f.shift (take f.count list)

-- the text on a question's outcome; what comes of another call has none
abbrev pub outcome_text : {S P R : Type 0} → Score → Outcome S P R → List ℕ
outcome_text score NoCall = []
outcome_text score (Refused r) = refused_line r
outcome_text score Done = []
outcome_text score (Size n) = []
outcome_text score (Transposed v) = []
outcome_text score (First t) = answer_text score t.answer (vec_items t.list)
outcome_text score (Second t) = answer_text score t.answer (vec_items t.list)

-- the text on both outcomes: a refused filling comes first
abbrev pub text_by : {S P R : Type 0} → Score → Option Refusal → Outcome S P R → List ℕ
text_by score None ask = outcome_text score ask
text_by score (Some r) ask = refused_line r
