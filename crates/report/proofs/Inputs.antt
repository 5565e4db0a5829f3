-- The report on an input by its parts.
use Rattle.std.proofs.Common.{◌≡◌, ℕ, min, Bool, true, List, length, Option, sym, subst, MatchOption}
use Rattle.notation.specs.Kind.{Kind}
use Rattle.book.specs.Describing.{named_kind, refused_line}
use Rattle.book.specs.Refusals.{refusal, unless}
use Rattle.slip.specs.Slips.{asked}
use Rattle.book.specs.declared.refusal.Layer.TheVariants.{File}
use Rattle.book.specs.declared.refusal.Refusal.{Refusal}
use Rattle.report.specs.Reports.{whole_blocks, book_part, slip_part, named_tracks, question_of, parts_refusal, AnswerTold, PartsTold, Acceptable}

under : (b : Bool) (r : Refusal) (rule : Option Refusal) (A : Type 0) (text : List ℕ) → b ≡ true → MatchOption rule A (λ x. text ≡ refused_line x) → MatchOption (unless b r rule) A (λ x. text ≡ refused_line x)
under b r rule A text e h = subst (λ (x : Bool). MatchOption (unless x r rule) A (λ y. text ≡ refused_line y)) (sym e) h

-- whole blocks are reported on by book and slip
pub by_parts : (input text : List ℕ) (k : Kind) (t : ℕ) (book slip : List ℕ) → whole_blocks (length input) ≡ true → named_kind input ≡ k → named_tracks input ≡ t → book_part input ≡ book → slip_part input ≡ slip → PartsTold k t book slip text → Acceptable input text
by_parts input text k t book slip whole kind_is tracks-are book-is slip_is h =
    let moved : PartsTold (named_kind input) (named_tracks input) (book_part input) (slip_part input) text =
    subst (λ (x : Kind). PartsTold x (named_tracks input) (book_part input) (slip_part input) text) (sym kind_is)
    (subst (λ (n : ℕ). PartsTold k n (book_part input) (slip_part input) text) (sym tracks-are)
    (subst (λ (b : List ℕ). PartsTold k t b (slip_part input) text) (sym book-is)
    (subst (λ (s : List ℕ). PartsTold k t book s text) (sym slip_is) h))) in
    under (whole_blocks (length input)) (refusal 1 (min (length input) 32769) File) (parts_refusal (named_kind input) (named_tracks input) (book_part input) (slip_part input)) (AnswerTold (question_of (named_kind input) (book_part input) (asked (slip_part input))) (asked (slip_part input)).price text) text whole moved
