-- Slips: one question as one block. Their bytes, and which bytes are refused.
use Rattle.std.specs.Prelude.{◌≡◌, ℕ, ◌+◌, ◌*◌, Bool, true, ◌&&◌, T, List, ◌∷◌, ◌++◌, map, length, take, drop, Option, ◌==◌, nat_le, slice_index}
use Rattle.std.specs.List.{AllByRecursion}
use Rattle.notation.specs.Kind.{Kind, readable}
use Rattle.book.specs.Refusals.{refusal, unless, then}
use Rattle.book.specs.Blocks.{block_bytes, two, letter, payload_length, slip_letter, block_refusal}
use Rattle.book.specs.Books.{expected, symbols_refusal}
use Rattle.book.specs.declared.refusal.Layer.TheVariants.{File, Slip}
use Rattle.book.specs.declared.refusal.Refusal.{Refusal}

-- a question: the limit, the mode, the price, and the byte of each note of the query
pub record Inquiry : Type 0 where
  pub limit : ℕ
  pub mode : ℕ
  pub price : ℕ
  pub query : List ℕ

-- the question that plain numbers and symbols pose
abbrev pub posed : {S : Type 0} → (S → ℕ) → ℕ → ℕ → ℕ → List S → Inquiry
posed byte limit mode price query = record { limit = limit; mode = mode; price = price; query = map byte query }

-- limit 0 to 4,095, mode 0 or 1, price 1 or 2, a query of 1 to 64 notes
abbrev pub in_range : ℕ → ℕ → ℕ → ℕ → Bool
in_range limit mode price notes = nat_le limit 4095 && nat_le mode 1 && (nat_le 1 price && nat_le price 2) && (nat_le 1 notes && nat_le notes 64)

-- a question of the kind: its fields in range, its query read by the kind
pub record InquiryOf (k : Kind) (q : Inquiry) : Type 0 where
  pub fields : in_range q.limit q.mode q.price (length q.query) ≡ true
  pub symbols : AllByRecursion (λ b. T (readable k b)) q.query

-- the bytes of a question: one slip block numbered 0
abbrev pub slip_payload : Inquiry → List ℕ
slip_payload q = two q.limit ++ (q.mode ∷ q.price ∷ length q.query ∷ q.query)

unfoldable pub slip_bytes : Kind → Inquiry → List ℕ
slip_bytes k q = block_bytes slip_letter k.number 0 (slip_payload q)

-- the question that a slip asks
abbrev pub asked : List ℕ → Inquiry
asked b = record { limit = slice_index b 6 * 256 + slice_index b 7; mode = slice_index b 8; price = slice_index b 9; query = take (slice_index b 10) (drop 11 b) }

-- the payload is as long as its query asks, and its fields are in range
abbrev pub slip_fields : List ℕ → Bool
slip_fields b = payload_length b == 5 + slice_index b 10 && in_range (asked b).limit (asked b).mode (asked b).price (slice_index b 10)

-- the refusal of some bytes as a slip of the kind: their length; the block by itself; no slip; another number or kind; another length or a field out of range; a byte that the kind cannot read
abbrev pub slip_refusal : Kind → List ℕ → Option Refusal
slip_refusal k input =
    unless (length input == 512) (refusal 1 (length input) File)
    (then (block_refusal 0 input)
    (unless (letter input == slip_letter) (refusal 5 0 Slip)
    (unless (expected k 0 input) (refusal 6 0 Slip)
    (unless (slip_fields input) (refusal 11 0 Slip)
    (symbols_refusal k Slip 11 (asked input).query)))))
