-- What reading and writing a slip promise.
use Rattle.std.specs.Prelude.{◌≡◌, ℕ, ◌-◌, Bool, true, false, ◌&&◌, T, List, length, is_ok, IfOk, Some, None, Ok, Err, Option, Result, MatchOption, MatchResult, nat_le, slice_index}
use Rattle.notation.specs.Kind.{Kind}
use Rattle.notation.specs.Known.{known}
use Rattle.notation.specs.Modes.{mode_number}
use Rattle.slip.specs.Prices.{price_number}
use Rattle.slip.specs.Faults.{slip_told}
use Rattle.slip.specs.Slips.{Inquiry, InquiryOf, slip_bytes, slip_refusal, asked, in_range}
use Rattle.book.specs.Writing.{Written}
use Rattle.slip.specs.declared.fault.SlipFault.{SlipFault}
use Rattle.slip.specs.declared.fault.SlipWriteFault.{SlipWriteFault}
use Rattle.slip.specs.declared.fault.SlipWriteFault.TheVariants.{OutOfRange, OfOutput}
use Rattle.slip.specs.declared.view.Slip.{Slip}

-- a slip with the fields of the question that a block asks
pub record Spells {S : Type 0} (b : List ℕ) (s : Slip S) : Type 0 where
  pub limit : s.limit ≡ (asked b).limit
  pub mode : mode_number s.mode ≡ (asked b).mode
  pub price : price_number s.price ≡ (asked b).price
  pub query : s.query.now ≡ (asked b).query

-- checking some bytes as a slip of the kind, by the rules
abbrev pub Checked : {S : Type 0} → Kind → List ℕ → Result (Slip S) SlipFault → Type 0
Checked k b r = MatchResult r (λ s. (slip_refusal k b ≡ None) × Spells b s) (λ f. slip_refusal k b ≡ Some (slip_told f))

-- a slip that was read asks a question of the kind
pub record Asks {S : Type 0} (k : Kind) (s : Slip S) (q : Inquiry) : Type 0 where
  pub question : InquiryOf k q
  pub limit : s.limit ≡ q.limit
  pub mode : mode_number s.mode ≡ q.mode
  pub price : price_number s.price ≡ q.price
  pub query : s.query.now ≡ q.query

-- reading some bytes as a slip of the kind
pub record SlipReading {S : Type 0} (k : Kind) (input : List ℕ) (r : Result (Slip S) SlipFault) : Type 0 where
  -- it is refused by the rules alone, with number, place and layer
  pub by_rules : MatchResult r (λ s. slip_refusal k input ≡ None) (λ f. slip_refusal k input ≡ Some (slip_told f))
  -- what is granted is of a known kind, and asks a question of which the input is the bytes
  pub granted : IfOk r (λ s. T (known k.number) × Asks k s (asked input) × (input ≡ slip_bytes k (asked input)))
  -- the bytes of every question of a known kind are granted, and ask that question
  pub every : (q : Inquiry) → T (known k.number) → InquiryOf k q → input ≡ slip_bytes k q → (is_ok r ≡ true) × (asked input ≡ q)

-- there is that note, counted from 1
abbrev pub has_note : List ℕ → ℕ → Bool
has_note query n = nat_le 1 n && nat_le n (length query)

-- a note of the query, told exactly where there is one
abbrev pub NoteTold : {S : Type 0} → (S → ℕ) → Inquiry → ℕ → Option S → Type 0
NoteTold byte q n r = MatchOption r (has_note q.query n ≡ false) (λ s. (has_note q.query n ≡ true) × (byte s ≡ slice_index q.query (n - 1)))

-- writing a question as a slip: refused where a field is out of range, then where the output is too short; a refusal leaves the output as it was
abbrev pub SlipWritten : Kind → Inquiry → List ℕ → List ℕ → Result ℕ SlipWriteFault → Type 0
SlipWritten k q before after (Ok n) = (in_range q.limit q.mode q.price (length q.query) ≡ true) × Written (slip_bytes k q) before after (Ok n)
SlipWritten k q before after (Err (OfOutput f)) = (in_range q.limit q.mode q.price (length q.query) ≡ true) × Written (slip_bytes k q) before after (Err f)
SlipWritten k q before after (Err OutOfRange) = (in_range q.limit q.mode q.price (length q.query) ≡ false) × (after ≡ before)
