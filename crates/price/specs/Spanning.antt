-- How the part of a window's memory that is in use stands to what the window has been through.
use Rattle.std.specs.Prelude.{◌≡◌, ℕ, ◌<◌, ◌≤◌, ◌⊎◌, List, Some}
use Rattle.std.specs.List.{slice_get}
use Rattle.price.specs.Pricing.{Pricing}
use Rattle.price.specs.History.{History}
use Rattle.price.specs.Keeping.{Kept}
use Rattle.price.specs.declared.entry.Entry.{Entry}
use Rattle.price.specs.declared.span.Span.{Span}

-- nothing is kept, and every position is still to come
pub record Starts (s : Span) (widest : ℕ) : Type 0 where
  pub front : s.front ≡ 0
  pub back : s.back ≡ 0
  pub position : s.position ≡ 4294967295
  pub last : s.last ≡ 4294967295
  pub limit : s.limit ≡ widest

-- an entry at a position may be put in
pub record Takes (s : Span) (from position memory : ℕ) : Type 0 where
  pub onward : from ≤ s.position
  pub ahead : from < position
  pub nearest : position ≤ s.last
  pub room : s.back < memory

module _ {P : Type 0} (p : Pricing) (meaning : P → p.Meaning) where
  pub record Spans (xs : List (Entry P)) (s : Span) (h : History P) : Type 0 where
    pub limit : s.limit ≡ h.limit
    pub position : s.position ≡ h.position
    -- the position of the last entry put in
    pub lowest : (i : ℕ) (d : Entry P) → slice_get h.puts i ≡ Some d → s.last ≤ d.position
    pub reached : (s.last ≡ 4294967295) ⊎ ((i : ℕ) × (d : Entry P) × (slice_get h.puts i ≡ Some d) × (s.last ≡ d.position))
    pub kept : Kept p meaning xs s.front s.back h
