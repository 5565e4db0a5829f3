-- Refusals: each has a number, a place and a layer, and of several rules the first that fits is given.
use Rattle.std.specs.Prelude.{ℕ, Bool, cond, Some, None, Option}
use Rattle.book.specs.declared.refusal.Layer.{Layer}
use Rattle.book.specs.declared.refusal.Refusal.{Refusal}

abbrev pub refusal : ℕ → ℕ → Layer → Refusal
refusal n p l = record { number = n; place = p; layer = l }

-- a rule before other rules: its refusal unless its condition is kept, else what the others say
abbrev pub unless : Bool → Refusal → Option Refusal → Option Refusal
unless kept r others = cond kept others (Some r)

-- what some rules say, and others after them
abbrev pub then : Option Refusal → Option Refusal → Option Refusal
then None others = others
then (Some r) others = Some r
