-- What the calls of a window answer, and what they leave of it.
use Rattle.std.specs.Prelude.{◌≡◌, ℕ, ◌<◌, ◌≤◌, length, Option}
use Rattle.price.specs.Pricing.{Pricing}
use Rattle.price.specs.History.{History, moved, put_in, Accepts, Told}
use Rattle.price.specs.Spanning.{Spans}
use Rattle.price.specs.declared.entry.Entry.{Entry}
use Rattle.price.specs.declared.window.Window.{Window}

-- no place is left behind the entries kept
abbrev pub Full : {P : Type 0} → Window P → Type 0
Full w = length w.entries.now ≤ w.span.back

module _ {P : Type 0} (p : Pricing) (meaning : P → p.Meaning) where
  -- a window that has been through a history
  pub record Holds (w : Window P) (h : History P) : Type 0 where
    pub memory : length w.entries.now ≡ h.memory
    pub spans : Spans p meaning w.entries.now w.span h

  -- an entry was put in, whatever the window has been through
  pub record Taken (before after : Window P) (from : ℕ) (entry : Entry P) : Type 0 where
    pub accepted : (h : History P) → Holds before h → Accepts h from entry
    pub room : Full before → ⊥
    pub holds : (h : History P) → Holds before h → Holds after (put_in h from entry)

  -- it was not: it may not be put in, or the memory is full, which a memory for one more than all put in never is
  pub record Returned (before after : Window P) (from : ℕ) (entry back : Entry P) : Type 0 where
    pub same : back ≡ entry
    pub unchanged : after ≡ before
    pub full : (h : History P) → Holds before h → Accepts h from entry → Full before × (h.memory ≤ length h.puts)

  -- an entry or absence was told
  pub record Answered (before after : Window P) (from : ℕ) (told : Option (Entry P)) : Type 0 where
    pub onward : (h : History P) → Holds before h → from ≤ h.position
    pub holds : (h : History P) → Holds before h → Holds after (moved h from)
    pub tells : (h : History P) → Holds before h → Told p meaning (moved h from) told

  -- neither was, since the window has moved on to an earlier position
  pub record Left (before after : Window P) (from : ℕ) : Type 0 where
    pub unchanged : after ≡ before
    pub later : (h : History P) → Holds before h → h.position < from
