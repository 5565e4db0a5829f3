-- How a window keeps its entries: which of those put in stand in its memory, and why the others are not missed.
use Rattle.std.specs.Prelude.{◌≡◌, ℕ, ◌+◌, ◌<◌, ◌≤◌, Bool, ◌⊎◌, List, length, Some}
use Rattle.std.specs.List.{slice_get}
use Rattle.price.specs.Pricing.{Pricing}
use Rattle.price.specs.History.{History, gap, cost, NoDearer, Shallow}
use Rattle.price.specs.declared.entry.Entry.{Entry}

-- past the limit, and so from every earlier position
abbrev pub Gone : {P : Type 0} → History P → Entry P → Type 0
Gone h d = h.position + h.limit + 1 < d.position

module _ {P : Type 0} (p : Pricing) (meaning : P → p.Meaning) where
  -- the answer of a comparison from a position, as far as the laws reach
  abbrev pub Judged : ℕ → Entry P → Entry P → Bool → Type 0
  Judged from e d b = p.depth (meaning e.price) ≤ 62 → p.depth (meaning d.price) ≤ 62 → gap from e ≤ 4094 → gap from d ≤ 4094 → b ≡ p.not_above (cost p meaning from e) (cost p meaning from d)

  -- no dearer from a position and from every earlier one
  abbrev pub StaysNoDearer : ℕ → Entry P → Entry P → Type 0
  StaysNoDearer at e d = (from : ℕ) → from ≤ at → gap from e ≤ 4094 → gap from d ≤ 4094 → NoDearer p meaning from e d

  -- an entry put in that is not missed: one that was put in no earlier is kept and no dearer
  pub record Covered (xs : List (Entry P)) (front back : ℕ) (index : ℕ → ℕ) (h : History P) (i : ℕ) (d : Entry P) : Type 0 where
    pub spot : ℕ
    pub cover : Entry P
    pub from_front : front ≤ spot
    pub to_back : spot < back
    pub stands : slice_get xs spot ≡ Some cover
    pub later : i ≤ index spot
    pub cheap : Shallow p meaning h → StaysNoDearer h.position cover d

  -- the entries from `front` up to `back` are kept
  pub record Kept (xs : List (Entry P)) (front back : ℕ) (h : History P) : Type 0 where
    pub ordered : front ≤ back
    pub inside : back ≤ length xs
    pub few : back ≤ length h.puts
    -- all that was put in lies ahead, from far to near
    pub ahead : (i : ℕ) (d : Entry P) → slice_get h.puts i ≡ Some d → h.position < d.position
    pub nearing : (i j : ℕ) (d e : Entry P) → i ≤ j → slice_get h.puts i ≡ Some d → slice_get h.puts j ≡ Some e → e.position ≤ d.position
    -- which of the entries put in a kept one is
    pub index : ℕ → ℕ
    pub rising : (a b : ℕ) → front ≤ a → a < b → b < back → index a < index b
    pub stands : (a : ℕ) (e : Entry P) → front ≤ a → a < back → slice_get xs a ≡ Some e → slice_get h.puts (index a) ≡ Some e
    pub covered : (i : ℕ) (d : Entry P) → slice_get h.puts i ≡ Some d → Gone h d ⊎ Covered xs front back index h i d
    -- prices rise from front to back
    pub sorted : Shallow p meaning h → (a b : ℕ) (d e : Entry P) → front ≤ a → a < b → b < back → slice_get xs a ≡ Some d → slice_get xs b ≡ Some e → StaysNoDearer h.position d e
