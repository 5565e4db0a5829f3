-- Which kind of symbols a byte of a book or a slip names.
use Rattle.std.specs.Prelude.{◌≡◌, ℕ, false, Result, MatchResult}
use Rattle.notation.specs.Kind.{Kind}
use Rattle.notation.specs.Known.{pitch, pitch_class, stroke, known}
use Rattle.notation.specs.declared.symbol_kind.SymbolKind.{SymbolKind}
use Rattle.notation.specs.declared.symbol_kind.SymbolKind.TheVariants.{Pitch, PitchClass, Stroke}
use Rattle.notation.specs.declared.symbol_kind.UnknownKind.{UnknownKind}

-- what symbols of a kind mean
abbrev pub kind_of : SymbolKind → Kind
kind_of Pitch = pitch
kind_of PitchClass = pitch_class
kind_of Stroke = stroke

-- the kind that a byte names, or the byte where it names none
abbrev pub KindRead : ℕ → Result SymbolKind UnknownKind → Type 0
KindRead b r = MatchResult r (λ k. (kind_of k).number ≡ b) (λ e. (e.0 ≡ b) × (known b ≡ false))
