-- The letters of blocks, and which of them a byte is.
use Rattle.std.specs.Prelude.{◌≡◌, ℕ, false, Result, MatchResult}
use Rattle.book.specs.Blocks.{title_letter, columns_letter, slip_letter, known_letter}
use Rattle.book.specs.declared.letter.Letter.{Letter}
use Rattle.book.specs.declared.letter.Letter.TheVariants.{Title, Columns, Slip}
use Rattle.book.specs.declared.letter.UnknownLetter.{UnknownLetter}

abbrev pub letter_byte : Letter → ℕ
letter_byte Title = title_letter
letter_byte Columns = columns_letter
letter_byte Slip = slip_letter

-- the letter that a byte is, or the byte where it is none
abbrev pub LetterRead : ℕ → Result Letter UnknownLetter → Type 0
LetterRead b r = MatchResult r (λ l. letter_byte l ≡ b) (λ e. (e.0 ≡ b) × (known_letter b ≡ false))
