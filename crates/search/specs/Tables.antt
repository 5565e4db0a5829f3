-- Where the places that hold one byte lie. Places count from 0: column after column, track after track.
use Rattle.std.specs.Prelude.{◌≡◌, ℕ, ◌+◌, ◌-◌, ◌<◌, ◌≤◌, List, drop, count_by, ◌≢◌, nat_eq, slice_index, slice_index_or}
use Rattle.notation.specs.Kind.{rest}

-- how many later places hold the byte of a place
abbrev pub later : List ℕ → ℕ → ℕ
later bytes p = count_by (nat_eq (slice_index_or bytes p rest)) (drop (p + 1) bytes)

-- The mark w of a byte below u: one more than the last place before u that holds the byte, or 0 where
-- none does.
pub record Mark (bytes : List ℕ) (b u w : ℕ) : Type 0 where
  pub low : w ≤ u
  pub holds : 0 < w → slice_index_or bytes (w - 1) rest ≡ b
  pub none : (q : ℕ) → w ≤ q → q < u → slice_index_or bytes q rest ≢ b

-- each place below n has the mark of its byte below it
abbrev pub Linked : List ℕ → List ℕ → ℕ → Type 0
Linked bytes previous n = (p : ℕ) → p < n → Mark bytes (slice_index_or bytes p rest) p (slice_index previous p)

-- the marks of all bytes below u
abbrev pub Marks : List ℕ → List ℕ → ℕ → Type 0
Marks bytes last u = (b : ℕ) → b < 256 → Mark bytes b u (slice_index last b)

-- each place below n has the number of later places with its byte
abbrev pub Ranked : List ℕ → List ℕ → ℕ → Type 0
Ranked bytes after n = (q : ℕ) → q < n → slice_index after q ≡ later bytes q
