-- Where a call on a score is turned away: one rule for each call, by the score's shape and the call's arguments.
use Rattle.std.specs.Prelude.{ℕ, ◌/◌, ◌%◌, Bool, ◌&&◌, List, None, Option, ◌==◌, nat_le, nat_lt}
use Rattle.notation.specs.Kind.{Kind}
use Rattle.book.specs.Books.{book_refusal, held}
use Rattle.book.specs.Faults.{book_told}
use Rattle.book.specs.Refusals.{refusal, unless, then}
use Rattle.book.specs.declared.refusal.Layer.TheVariants.{Score}
use Rattle.book.specs.declared.refusal.Refusal.{Refusal}
use Rattle.finder.specs.declared.score_fault.ScoreFault.{ScoreFault}
use Rattle.finder.specs.declared.score_fault.ScoreFault.TheVariants.{Misshapen, OtherTracks, NoRoom, NoColumn, NoTrack, TooFew, OfBook}

-- what each fault tells: its number, its place and its layer
abbrev pub score_told : ScoreFault → Refusal
score_told (Misshapen length) = refusal 12 length Score
score_told (OtherTracks tracks) = refusal 13 tracks Score
score_told (NoRoom capacity) = refusal 14 capacity Score
score_told (NoColumn column) = refusal 15 column Score
score_told (NoTrack track) = refusal 15 track Score
score_told (TooFew columns) = refusal 22 columns Score
score_told (OfBook f) = book_told f

-- memory of so many symbols is 1 to 4,096 columns of 1 to 16 tracks
abbrev pub in_score : ℕ → ℕ → Bool
in_score tracks length = nat_le 1 tracks && nat_le tracks 16 && length % tracks == 0 && nat_le 1 (length / tracks) && nat_le (length / tracks) 4096

-- the refusal of memory
abbrev pub memory_refusal : ℕ → ℕ → Option Refusal
memory_refusal tracks length = unless (in_score tracks length) (refusal 12 length Score) None

-- of a column of `handed` symbols to be put last: of another track count; at capacity
abbrev pub append_refusal : ℕ → ℕ → ℕ → ℕ → Option Refusal
append_refusal tracks capacity columns handed =
    unless (handed == tracks) (refusal 13 handed Score)
    (unless (nat_lt columns capacity) (refusal 14 capacity Score) None)

-- of a place to be corrected, counted from 1: no such column, else no such track
abbrev pub correct_refusal : ℕ → ℕ → ℕ → ℕ → Option Refusal
correct_refusal tracks columns column track =
    unless (nat_le 1 column && nat_le column columns) (refusal 15 column Score)
    (unless (nat_le 1 track && nat_le track tracks) (refusal 15 track Score) None)

-- of a number of columns to be kept: there are not so many
abbrev pub cut_refusal : ℕ → ℕ → Option Refusal
cut_refusal columns kept = unless (nat_le kept columns) (refusal 22 kept Score) None

-- of bytes to be put in place of all columns: no book of the kind; one of another track count; one above the capacity
abbrev pub fill_refusal : Kind → ℕ → ℕ → List ℕ → Option Refusal
fill_refusal k tracks capacity input =
    then (book_refusal k input)
    (unless ((held input).tracks == tracks) (refusal 13 (held input).tracks Score)
    (unless (nat_le (held input).columns capacity) (refusal 14 capacity Score) None))
