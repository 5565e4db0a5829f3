-- The numbers of the prices in slips.
use Rattle.std.specs.Prelude.{◌≡◌, ℕ, ◌≤◌, Result, MatchResult}
use Rattle.slip.specs.declared.price_kind.PriceKind.{PriceKind}
use Rattle.slip.specs.declared.price_kind.PriceKind.TheVariants.{Changes, ChangesThenSilence}
use Rattle.slip.specs.declared.price_kind.UnknownPrice.{UnknownPrice}

-- the byte that names a price
abbrev pub price_number : PriceKind → ℕ
price_number Changes = 1
price_number ChangesThenSilence = 2

-- the price that a byte names, or the byte where it names none
abbrev pub PriceRead : ℕ → Result PriceKind UnknownPrice → Type 0
PriceRead b r = MatchResult r (λ price. price_number price ≡ b) (λ e. (e.0 ≡ b) × ((1 ≤ b) × (b ≤ 2) → ⊥))
