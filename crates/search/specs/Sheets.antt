-- What the sheets have room for.
use Rattle.std.specs.Prelude.{◌≡◌, ℕ, ◌≤◌, length}
use Rattle.search.specs.declared.sheets.Sheets.{Sheets}

-- each has room for so many entries
pub record Room {P : Type 0} (need : ℕ) (s : Sheets P) : Type 0 where
  pub prices : need ≤ length s.prices.now
  pub steps : need ≤ length s.steps.now
  pub window : need ≤ length s.window.now

-- each is as long as it was
pub record AsLong {P : Type 0} (before after : Sheets P) : Type 0 where
  pub prices : length after.prices.now ≡ length before.prices.now
  pub steps : length after.steps.now ≡ length before.steps.now
  pub window : length after.window.now ≡ length before.window.now
