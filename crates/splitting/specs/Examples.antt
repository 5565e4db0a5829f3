-- Nine examples, each with its whole answer.
use Rattle.std.specs.Prelude.{◌≡◌, ℕ, ◌≤◌, true, List, [], ◌∷◌, ◌++◌, length, drop, ℤ, pos, negsuc}
use Rattle.notation.specs.Kind.{Kind}
use Rattle.notation.specs.Known.{pitch, pitch_class, stroke}
use Rattle.price.specs.Pricing.{Pricing}
use Rattle.price.specs.Prices.{by_changes, by_changes_then_silence}
use Rattle.splitting.specs.declared.Answer.TheVariants.{None as none, Found as found}
use Rattle.splitting.specs.declared.Found.{Found}
use Rattle.notation.specs.declared.mode.Mode.{Mode}
use Rattle.notation.specs.declared.mode.Mode.TheVariants.{Untransposed, AnyTransposition}
use Rattle.splitting.specs.declared.Piece.{Piece}
use Rattle.splitting.specs.Score.{Score, Question}
use Rattle.splitting.specs.Splitting.{price_of}
use Rattle.splitting.specs.Answer.{Answers}

-- these pieces and what is told of them are an answer, whatever the list held before
pub record Tells (ask : Question) (m : Pricing) (f : Found m.Meaning) (pieces : List Piece) : Type 0 where
  pub answers : (before : List Piece) → length pieces ≤ length before → Answers ask m (found f) before (pieces ++ drop (length pieces) before)

-- none is an answer, and the list is as it was
pub record TellsNone (ask : Question) (m : Pricing) : Type 0 where
  pub answers : (before : List Piece) → Answers ask m none before before

-- a question by its kind, score, limit, mode and query
abbrev pub asked : Kind → Score → ℕ → Mode → List ℕ → Question
asked k score limit mode query = record { kind = k; score = score; limit = limit; mode = mode; query = query }

-- a piece by its first note, its length, its track and its first column
abbrev pub piece : ℕ → ℕ → ℕ → ℕ → Piece
piece first len track column = record { first = first; len = len; track = track; column = column }

-- what is told of a way by its price, its number of pieces, its shift, and the column and the track
-- where it begins
abbrev pub told : (m : Pricing) → m.Meaning → ℕ → ℤ → ℕ → ℕ → Found m.Meaning
told m price count shift column track = record { price = price; count = count; shift = shift; place = record { column = column; track = track } }

-- track 1: 60 62 64 65 and two rests; track 2: two rests and 48 50 72 74
abbrev pub two_tracks : Score
two_tracks = (60 ∷ 255 ∷ []) ∷ (62 ∷ 255 ∷ []) ∷ (64 ∷ 48 ∷ []) ∷ (65 ∷ 50 ∷ []) ∷ (255 ∷ 72 ∷ []) ∷ (255 ∷ 74 ∷ []) ∷ []

-- track 1: 60, a rest, 64; track 2: a rest, 64, a rest
abbrev pub three_columns : Score
three_columns = (60 ∷ 255 ∷ []) ∷ (255 ∷ 64 ∷ []) ∷ (64 ∷ 255 ∷ []) ∷ []

-- a price that only keeps the gaps in the order in which they were charged, the last one first
abbrev pub by_order : Pricing
by_order = record { Meaning = List ℕ; depth = length; nothing = []; charged = λ gs g. g ∷ gs; not_above = λ a b. true }

-- gaps of 0 and 1, of which the first is charged last
abbrev pub FirstChargedLast : Type 0
FirstChargedLast = price_of by_order two_tracks (piece 1 1 1 1 ∷ piece 2 1 1 2 ∷ piece 3 1 1 4 ∷ []) ≡ 0 ∷ 1 ∷ []

pub record Examples : Type 0 where
  -- a run of three notes, and the last note on the other track in the next column
  pub handed_over : Tells (asked pitch two_tracks 0 Untransposed (62 ∷ 64 ∷ 65 ∷ 72 ∷ [])) by_changes (told by_changes 1 2 (pos 0) 2 1) (piece 1 3 1 2 ∷ piece 4 1 2 5 ∷ [])
  -- over one column, which a limit of 0 does not allow
  pub over_a_column : Tells (asked pitch two_tracks 1 Untransposed (65 ∷ 74 ∷ [])) by_changes (told by_changes 1 2 (pos 0) 4 1) (piece 1 1 1 4 ∷ piece 2 1 2 6 ∷ [])
  pub over_no_column : TellsNone (asked pitch two_tracks 0 Untransposed (65 ∷ 74 ∷ [])) by_changes
  -- notes of one column do not follow each other
  pub same_column : TellsNone (asked pitch two_tracks 4095 Untransposed (64 ∷ 48 ∷ [])) by_changes
  -- one note lies wherever one sounds, the first place first
  pub one_note : Tells (asked pitch two_tracks 0 AnyTransposition (61 ∷ [])) by_changes (told by_changes 0 1 (negsuc 0) 1 1) (piece 1 1 1 1 ∷ [])
  pub one_note_untransposed : TellsNone (asked pitch two_tracks 0 Untransposed (61 ∷ [])) by_changes
  -- an octave lower
  pub octave : Tells (asked pitch two_tracks 0 AnyTransposition (72 ∷ 74 ∷ [])) by_changes (told by_changes 0 1 (negsuc 11) 1 1) (piece 1 2 1 1 ∷ [])
  -- pitch classes go round
  pub round : Tells (asked pitch_class ((11 ∷ []) ∷ (0 ∷ []) ∷ []) 0 AnyTransposition (0 ∷ 1 ∷ [])) by_changes (told by_changes 0 1 (pos 11) 1 1) (piece 1 2 1 1 ∷ [])
  -- no columns
  pub empty : TellsNone (asked pitch [] 0 AnyTransposition (60 ∷ [])) by_changes
  -- strokes cannot be transposed
  pub strokes : TellsNone (asked stroke ((5 ∷ []) ∷ (6 ∷ []) ∷ []) 0 AnyTransposition (6 ∷ 7 ∷ [])) by_changes
  -- of two hand-overs the one without silence
  pub no_silence : Tells (asked pitch three_columns 1 Untransposed (60 ∷ 64 ∷ [])) by_changes_then_silence (told by_changes_then_silence (record { changes = 1; silence = 0 }) 2 (pos 0) 1 1) (piece 1 1 1 1 ∷ piece 2 1 2 2 ∷ [])
  -- the order of charging
  pub charged_last : FirstChargedLast
