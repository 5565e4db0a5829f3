-- Which queries, lists and transpositions are refused.
use Rattle.std.specs.Prelude.{ℕ, zero, suc, ◌+◌, Bool, false, not, ◌&&◌, ◌||◌, List, length, ℤ, pos, negsuc, Some, None, Option, ◌==◌, nat_le}
use Rattle.std.specs.List.{prefix_len}
use Rattle.notation.specs.Kind.{Kind, rest}
use Rattle.book.specs.Refusals.{refusal, unless, then}
use Rattle.book.specs.declared.refusal.Layer.TheVariants.{Query, Question, Transposing}
use Rattle.book.specs.declared.refusal.Refusal.{Refusal}

-- a byte of a symbol that is no rest
abbrev pub sounds : ℕ → Bool
sounds b = not (b == rest)

-- a query of no notes or of more than 64; one with a rest, of which the first is told, counted from 1
abbrev pub query_refusal : List ℕ → Option Refusal
query_refusal query =
    unless (nat_le 1 (length query) && nat_le (length query) 64) (refusal 17 (length query) Query)
    (unless (nat_le (length query) (prefix_len sounds query)) (refusal 18 (prefix_len sounds query + 1) Query) None)

-- then a list with room for fewer entries than the query has notes
abbrev pub list_refusal : List ℕ → ℕ → Option Refusal
list_refusal query room = then (query_refusal query) (unless (nat_le (length query) room) (refusal 19 (length query) Question) None)

-- two intervals are the same
abbrev pub same_interval : ℤ → ℤ → Bool
same_interval (pos a) (pos b) = a == b
same_interval (pos a) (negsuc b) = false
same_interval (negsuc a) (pos b) = false
same_interval (negsuc a) (negsuc b) = a == b

-- an interval is told, and it is c
abbrev pub tells : Option ℤ → ℤ → Bool
tells None c = false
tells (Some e) c = same_interval e c

-- one of the first n bytes passes a test
abbrev pub some_byte : (ℕ → Bool) → ℕ → Bool
some_byte test zero = false
some_byte test (suc n) = test n || some_byte test n

-- there is a symbol at an interval from a symbol: every sounding one has a byte below that of a rest
unfoldable pub reaches : Kind → ℤ → ℕ → Bool
reaches k by a = some_byte (λ b. tells (k.interval a b) by) rest

-- then a note that has no transposed one, of which the first is told, counted from 1
abbrev pub transpose_refusal : Kind → ℤ → List ℕ → ℕ → Option Refusal
transpose_refusal k by query room =
    then (list_refusal query room)
    (unless (nat_le (length query) (prefix_len (reaches k by) query)) (refusal 21 (prefix_len (reaches k by) query + 1) Transposing) None)
