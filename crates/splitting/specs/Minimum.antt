-- The minimum splitting problem in its own terms: into how few parts can the query be cut, each of which
-- occurs on one track, one after another?
use Rattle.std.specs.Prelude.{◌≡◌, ℕ, ◌+◌, ◌-◌, ◌<◌, ◌≤◌, List, [], ◌∷◌, length, ℤ, Some, slice_index_or}
use Rattle.std.specs.List.{flat_map}
use Rattle.notation.specs.Kind.{rest, Lawful as KindLaws}
use Rattle.price.specs.Pricing.{Pricing}
use Rattle.price.specs.Prices.{by_changes, by_changes_then_silence}
use Rattle.splitting.specs.declared.Found.{Found}
use Rattle.splitting.specs.declared.Piece.{Piece}
use Rattle.splitting.specs.Score.{Score, Question, symbol, Admits}
use Rattle.splitting.specs.Splitting.{last, gap, price_of, silence}
use Rattle.splitting.specs.Answer.{Way, Right}

-- a part of the query, with the track on which it occurs and the column in which it ends there
pub record Part : Type 0 where
  pub notes : List ℕ
  pub track : ℕ
  pub end : ℕ

-- the column in which a part begins
abbrev pub start : Part → ℕ
start p = p.end + 1 - length p.notes

-- a part that is not empty occurs in columns of the score: each of its notes, moved by the interval c, is
-- the symbol in its column
pub record Occurs (ask : Question) (c : ℤ) (p : Part) : Type 0 where
  pub some : 0 < length p.notes
  pub in_front : length p.notes ≤ p.end
  pub inside : p.end ≤ length ask.score
  pub each : (i : ℕ) → i < length p.notes → ask.kind.interval (slice_index_or p.notes i rest) (symbol ask.score (start p + i) p.track) ≡ Some c

abbrev pub AllOccur : Question → ℤ → List Part → Type 0
AllOccur ask c [] = Unit {0}
AllOccur ask c (p ∷ ps) = Occurs ask c p × AllOccur ask c ps

-- each part ends before the next begins, with at most `limit` columns, their gap, strictly between
abbrev pub InOrder : Question → List Part → Type 0
InOrder ask [] = Unit {0}
InOrder ask (p ∷ []) = Unit {0}
InOrder ask (p ∷ q ∷ ps) = (p.end < start q) × (gap ask.score p.end (start q) ≤ ask.limit) × InOrder ask (q ∷ ps)

-- the query is these parts one after another
pub record Parted (ask : Question) (c : ℤ) (parts : List Part) : Type 0 where
  pub admitted : Admits ask.mode c
  pub one_or_more : 0 < length parts
  pub whole : flat_map (λ p. p.notes) parts ≡ ask.query
  pub occur : AllOccur ask c parts
  pub in_order : InOrder ask parts

-- κ is the smallest number of parts
pub record Minimum (ask : Question) (κ : ℕ) : Type 0 where
  pub shift : ℤ
  pub parts : List Part
  pub parted : Parted ask shift parts
  pub number_is : length parts ≡ κ
  pub smallest : (c : ℤ) (ps : List Part) → Parted ask c ps → κ ≤ length ps

-- parts and pieces are the same: as long, on the same tracks, and ending in the same columns
abbrev pub SameParts : List Part → List Piece → Type 0
SameParts [] [] = Unit {0}
SameParts [] (p ∷ ps) = ⊥
SameParts (q ∷ qs) [] = ⊥
SameParts (q ∷ qs) (p ∷ ps) = (length q.notes ≡ p.len) × (q.track ≡ p.track) × (q.end ≡ last p) × SameParts qs ps

-- ways and parted queries are the same
pub record Ways (ask : Question) : Type 0 where
  pub parts_of : (c : ℤ) (ps : List Piece) → Way ask c ps → (qs : List Part) × Parted ask c qs × SameParts qs ps
  pub pieces_of : (c : ℤ) (qs : List Part) → Parted ask c qs → (ps : List Piece) × Way ask c ps × SameParts qs ps

-- the number of pieces told is the smallest
abbrev pub Fewest : Pricing → Type 0
Fewest m = (ask : Question) → KindLaws ask.kind → (f : Found m.Meaning) (before after : List Piece) → Right ask m f before after → Minimum ask f.count

-- at the price by changes, and at that by changes and then silence
pub record FewestPieces : Type 0 where
  pub same_ways : (ask : Question) → KindLaws ask.kind → Ways ask
  pub at_changes : Fewest by_changes
  pub at_changes_then_silence : Fewest by_changes_then_silence

-- the price by changes is the number of hand-overs, and the other price adds the silence to it
pub record ChangesCounted : Type 0 where
  pub changes_are : (score : Score) (p : Piece) (ps : List Piece) → price_of by_changes score (p ∷ ps) ≡ length ps
  pub tally_is : (score : Score) (p : Piece) (ps : List Piece) → price_of by_changes_then_silence score (p ∷ ps) ≡ record { changes = length ps; silence = silence score (p ∷ ps) }
