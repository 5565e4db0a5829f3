-- The numbers of the modes in slips.
use Rattle.std.specs.Prelude.{◌≡◌, ℕ, ◌<◌, Result, MatchResult}
use Rattle.notation.specs.declared.mode.Mode.{Mode}
use Rattle.notation.specs.declared.mode.Mode.TheVariants.{Untransposed, AnyTransposition}
use Rattle.notation.specs.declared.mode.UnknownMode.{UnknownMode}

-- the byte that names a mode
abbrev pub mode_number : Mode → ℕ
mode_number Untransposed = 0
mode_number AnyTransposition = 1

-- the mode that a byte names, or the byte where it names none
abbrev pub ModeRead : ℕ → Result Mode UnknownMode → Type 0
ModeRead b r = MatchResult r (λ mode. mode_number mode ≡ b) (λ e. (e.0 ≡ b) × (1 < b))
