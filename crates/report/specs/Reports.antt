-- What a report on some input says.
use Rattle.std.specs.Prelude.{◌≡◌, ℕ, ◌-◌, ◌%◌, ◌≤◌, min, Bool, cond, ◌&&◌, ◌⊎◌, List, length, take, drop, Ok, Err, MatchBool, Option, Result, MatchOption, ◌==◌, nat_le, slice_index}
use Rattle.notation.specs.declared.mode.Mode.{Mode}
use Rattle.notation.specs.declared.mode.Mode.TheVariants.{Untransposed, AnyTransposition}
use Rattle.notation.specs.Kind.{Kind}
use Rattle.book.specs.Describing.{named_kind, refused_line}
use Rattle.book.specs.Refusals.{refusal, unless, then}
use Rattle.notation.specs.Modes.{mode_number}
use Rattle.slip.specs.Prices.{price_number}
use Rattle.slip.specs.Slips.{Inquiry, slip_refusal, asked}
use Rattle.book.specs.Writing.{Written}
use Rattle.book.specs.declared.fault.TooShort.{TooShort}
use Rattle.book.specs.declared.refusal.Layer.TheVariants.{File}
use Rattle.book.specs.declared.refusal.Refusal.{Refusal}
use Rattle.slip.specs.declared.price_kind.PriceKind.{PriceKind}
use Rattle.price.specs.Pricing.{Pricing}
use Rattle.price.specs.Prices.{by_changes, by_changes_then_silence}
use Rattle.splitting.specs.Answer.{NoWay, Right}
use Rattle.splitting.specs.Minimum.{Minimum}
use Rattle.splitting.specs.Score.{Question}
use Rattle.splitting.specs.declared.Found.{Found}
use Rattle.splitting.specs.declared.Piece.{Piece}
use Rattle.search.specs.Questions.{question_refusal}
use Rattle.finder.specs.Edits.{book_columns}
use Rattle.finder.specs.ScoreRules.{fill_refusal}
use Rattle.report.specs.Tracks.{lawful_tracks, room_for}
use Rattle.report.specs.Wording.{none_line, found_text}
use Rattle.report.specs.declared.fault.ReportFault.{ReportFault}
use Rattle.report.specs.declared.fault.ReportFault.TheVariants.{Memory, OfOutput}

-- 2 to 64 whole blocks
abbrev pub whole_blocks : ℕ → Bool
whole_blocks n = nat_le 1024 n && nat_le n 32768 && n % 512 == 0

-- the last block is the slip, and what stands before it the book
abbrev pub book_part : List ℕ → List ℕ
book_part input = take (length input - 512) input

abbrev pub slip_part : List ℕ → List ℕ
slip_part input = drop (length input - 512) input

-- the track count that a book names: byte 6 of its first block, or 1 in the place of an unlawful one
abbrev pub named_tracks : List ℕ → ℕ
named_tracks input = lawful_tracks (slice_index input 6)

abbrev pub mode_of : ℕ → Mode
mode_of n = cond (n == 0) Untransposed AnyTransposition

-- a limit in range, a mode, a price and a query are those of an inquiry
pub record Poses (limit : ℕ) (mode : Mode) (price : PriceKind) (query : List ℕ) (q : Inquiry) : Type 0 where
  pub small : limit ≤ 4095
  pub limit_is : limit ≡ q.limit
  pub mode_is : mode_number mode ≡ q.mode
  pub price_is : price_number price ≡ q.price
  pub query_is : query ≡ q.query

-- what is asked about a book of the kind
abbrev pub question_of : Kind → (book : List ℕ) → Inquiry → Question
question_of k book q = record { kind = k; score = book_columns book; limit = q.limit; mode = mode_of q.mode; query = q.query }

-- a list of 64 pieces, and sheets of 4,096 entries
abbrev pub asking_refusal : Kind → (book : List ℕ) → Inquiry → Option Refusal
asking_refusal k book q = question_refusal (question_of k book q) 64 4096 4096 4096

-- the refusal of a book and a slip, if any: the fill's, then the slip's, then the question's
abbrev pub parts_refusal : Kind → (tracks : ℕ) → (book slip : List ℕ) → Option Refusal
parts_refusal k tracks book slip =
    then (fill_refusal k tracks (room_for tracks) book)
    (then (slip_refusal k slip)
    (asking_refusal k book (asked slip)))

-- the refusal of some input, if any: the input's own, then that of its parts
abbrev pub report_refusal : List ℕ → Option Refusal
report_refusal input =
    unless (whole_blocks (length input)) (refusal 1 (min (length input) 32769) File)
    (parts_refusal (named_kind input) (named_tracks input) (book_part input) (slip_part input))

-- The text of a right answer at some price: its pieces, its transposition, and the silence of these pieces. No splitting
-- of the query has fewer pieces.
pub record FoundTold (ask : Question) (m : Pricing) (text : List ℕ) : Type 0 where
  pub found : Found m.Meaning
  pub before : List Piece
  pub after : List Piece
  pub right : Right ask m found before after
  pub text_is : text ≡ found_text ask.score found.shift right.pieces
  pub fewest : Minimum ask (length right.pieces)

-- what is told at a price, numbered as in slips: none exactly where there is no way
abbrev pub AnswerTold : Question → (price : ℕ) → List ℕ → Type 0
AnswerTold ask price text =
    (NoWay ask × (text ≡ none_line))
    ⊎ MatchBool (price == 1) (FoundTold ask by_changes text) (FoundTold ask by_changes_then_silence text)

-- the report on a book and what is asked about it: refused by the rules alone, else answered
abbrev pub InquiryTold : Kind → (tracks : ℕ) → (book : List ℕ) → Inquiry → List ℕ → Type 0
InquiryTold k tracks book q text =
    MatchOption (then (fill_refusal k tracks (room_for tracks) book) (asking_refusal k book q))
    (AnswerTold (question_of k book q) q.price text)
    (λ r. text ≡ refused_line r)

-- the report on a book and a slip
abbrev pub PartsTold : Kind → (tracks : ℕ) → (book slip : List ℕ) → List ℕ → Type 0
PartsTold k tracks book slip text =
    MatchOption (parts_refusal k tracks book slip)
    (AnswerTold (question_of k book (asked slip)) (asked slip).price text)
    (λ r. text ≡ refused_line r)

-- the report on some input
abbrev pub Acceptable : (input text : List ℕ) → Type 0
Acceptable input text =
    MatchOption (report_refusal input)
    (AnswerTold (question_of (named_kind input) (book_part input) (asked (slip_part input))) (asked (slip_part input)).price text)
    (λ r. text ≡ refused_line r)

-- an acceptable report is written to the front of an output, and what lies past it is as it was; or the output is too short for it
pub record ReportWritten (input before after : List ℕ) (r : Result ℕ TooShort) : Type 0 where
  pub text : List ℕ
  pub acceptable : Acceptable input text
  pub written : Written text before after r

-- what reporting promises: a refusal, and want of memory, leave the output as it was
abbrev pub Reported : (input before after : List ℕ) → Result ℕ ReportFault → Type 0
Reported input before after (Ok n) = ReportWritten input before after (Ok n)
Reported input before after (Err (OfOutput f)) = ReportWritten input before after (Err f)
Reported input before after (Err Memory) = after ≡ before
