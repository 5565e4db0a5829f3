-- Blocks of 512 bytes: their layout, their check, and when one is refused.
use Rattle.std.specs.Prelude.{ℕ, suc, ◌+◌, ◌-◌, ◌*◌, ◌/◌, ◌%◌, Bool, ◌&&◌, ◌||◌, List, [], ◌∷◌, ◌++◌, length, take, drop, replicate, None, Option, ◌==◌, nat_le, slice_index}
use Rattle.std.specs.List.{list_all}
use Rattle.notation.specs.Known.{known}
use Rattle.book.specs.Refusals.{refusal, unless}
use Rattle.book.specs.declared.refusal.Layer.TheVariants.{Block}
use Rattle.book.specs.declared.refusal.Refusal.{Refusal}

-- the sum of each byte times its position, the first position being `from`
abbrev pub weighted : ℕ → List ℕ → ℕ
weighted from [] = 0
weighted from (b ∷ bs) = from * b + weighted (suc from) bs

-- a number in two bytes and in four, the high byte first
abbrev pub two : ℕ → List ℕ
two n = n / 256 ∷ n % 256 ∷ []

abbrev pub four : ℕ → List ℕ
four n = n / 16777216 ∷ n / 65536 % 256 ∷ n / 256 % 256 ∷ n % 256 ∷ []

-- the letters: a title, columns, a slip
abbrev pub title_letter : ℕ
title_letter = 72

abbrev pub columns_letter : ℕ
columns_letter = 67

abbrev pub slip_letter : ℕ
slip_letter = 81

-- the first 508 bytes of a block: letter, kind, number, payload length, payload, zeros
abbrev pub body : ℕ → ℕ → ℕ → List ℕ → List ℕ
body letter kind number payload = letter ∷ kind ∷ two number ++ two (length payload) ++ payload ++ replicate (502 - length payload) 0

-- and the check
abbrev pub block_bytes : ℕ → ℕ → ℕ → List ℕ → List ℕ
block_bytes letter kind number payload = body letter kind number payload ++ four (weighted 1 (body letter kind number payload))

-- the fields of a block
abbrev pub letter : List ℕ → ℕ
letter b = slice_index b 0

abbrev pub kind_number : List ℕ → ℕ
kind_number b = slice_index b 1

abbrev pub number : List ℕ → ℕ
number b = slice_index b 2 * 256 + slice_index b 3

abbrev pub payload_length : List ℕ → ℕ
payload_length b = slice_index b 4 * 256 + slice_index b 5

abbrev pub payload : List ℕ → List ℕ
payload b = take (payload_length b) (drop 6 b)

-- what follows the payload up to the check
abbrev pub padding : List ℕ → List ℕ
padding b = drop (6 + payload_length b) (take 508 b)

abbrev pub stored_check : List ℕ → ℕ
stored_check b = ((slice_index b 508 * 256 + slice_index b 509) * 256 + slice_index b 510) * 256 + slice_index b 511

abbrev pub blank : List ℕ → Bool
blank bs = list_all (λ b. b == 0) bs

-- the payload fits, and zeros follow it up to the check
abbrev pub padded : List ℕ → Bool
padded b = nat_le (payload_length b) 502 && blank (padding b)

abbrev pub known_letter : ℕ → Bool
known_letter l = l == title_letter || (l == columns_letter || l == slip_letter)

-- the check that is stored is the one worked out
abbrev pub sound : List ℕ → Bool
sound b = stored_check b == weighted 1 (take 508 b)

-- the refusal of block n with the bytes b: its check differs; its letter or kind is unknown; its payload is too long, or what follows it is not zero
abbrev pub block_refusal : ℕ → List ℕ → Option Refusal
block_refusal n b =
    unless (sound b) (refusal 2 n Block)
    (unless (known_letter (letter b) && known (kind_number b)) (refusal 3 n Block)
    (unless (padded b) (refusal 4 n Block) None))
