-- What a writing promises.
use Rattle.std.specs.Prelude.{◌≡◌, ℕ, ◌<◌, ◌≤◌, List, ◌++◌, length, drop, Ok, Err, Result}
use Rattle.book.specs.declared.fault.TooShort.{TooShort}

-- some bytes written to the front of an output: what lies past them is as it was; too short an output is as it was, and the bytes needed are told
abbrev pub Written : List ℕ → List ℕ → List ℕ → Result ℕ TooShort → Type 0
Written bytes before after (Ok n) = (n ≡ length bytes) × (n ≤ length before) × (after ≡ bytes ++ drop n before)
Written bytes before after (Err f) = (length before < length bytes) × (f.needed ≡ length bytes) × (after ≡ before)
