-- Refusals by the first symbol of a list that fails a test.
use Rattle.std.proofs.Common.{◌≡◌, ℕ, ◌+◌, ◌<◌, ◌≤◌, Bool, true, false, cond, ◌&&◌, leb, List, [], ◌∷◌, map, length, get_or, Some, None, Option, sym, refl, ap, ◌∙◌, arith}
use Rattle.std.specs.List.{prefix_len}
use Rattle.std.proofs.lemmas.List.{get_or-map}
use Rattle.std.proofs.lemmas.Bool.{leb-true, and_parts}
use Rattle.book.specs.Refusals.{refusal, unless, then}
use Rattle.book.specs.declared.refusal.Layer.TheVariants.{Question}
use Rattle.book.specs.declared.refusal.Refusal.{Refusal}
use Rattle.search.specs.Queries.{sounds, query_refusal, list_refusal}

-- the byte of the symbol at a place
pub byte_at : {S : Type 0} (byte : S → ℕ) (xs : List S) (i : ℕ) (x : S) (d : ℕ) → i < length xs → x ≡ get_or xs i x → get_or (map byte xs) i d ≡ byte x
byte_at byte xs i x d l is = get_or-map byte xs i x d l ∙ sym (ap byte is)

-- how many symbols in front pass a test on their bytes
pub front_of_map : {S : Type 0} (byte : S → ℕ) (test : ℕ → Bool) (xs : List S) → prefix_len (λ s. test (byte s)) xs ≡ prefix_len test (map byte xs)
front_of_map byte test [] = refl
front_of_map byte test (x ∷ xs) = ap (λ n. cond (test (byte x)) (1 + n) 0) (front_of_map byte test xs)

-- rules after others
pub then_kept : (a b : Option Refusal) → a ≡ None → then a b ≡ b
then_kept a b e = ap (λ x. then x b) e

-- and no rule fits where what comes first and what follows are kept
pub then_none : (a b : Option Refusal) → then a b ≡ None → (a ≡ None) × (b ≡ None)
then_none None b e = (refl, e)
then_none (Some r) b e = let z : ◌≡◌ {A = ℕ} 0 1 = cc in absurd (omega arith)

pub unless_none : (kept : Bool) (r : Refusal) (others : Option Refusal) → unless kept r others ≡ None → (kept ≡ true) × (others ≡ None)
unless_none true r others e = (refl, e)
unless_none false r others e = let z : ◌≡◌ {A = ℕ} 0 1 = cc in absurd (omega arith)

-- what a query that is not refused is like
pub record Sound (query : List ℕ) : Type 0 where
  pub some : 1 ≤ length query
  pub few : length query ≤ 64
  pub sounding : length query ≤ prefix_len sounds query

pub sound : (query : List ℕ) → query_refusal query ≡ None → Sound query
sound query e =
    let a = unless_none (leb 1 (length query) && leb (length query) 64) _ _ e in
    let b = unless_none (leb (length query) (prefix_len sounds query)) _ _ a.1 in
    let h = and_parts (leb 1 (length query)) (leb (length query) 64) a.0 in
    record { some = leb-true 1 (length query) h.0; few = leb-true (length query) 64 h.1; sounding = leb-true (length query) (prefix_len sounds query) b.0 }

-- a list that is not refused has room, and its query is sound
pub listed : (query : List ℕ) (room : ℕ) → list_refusal query room ≡ None → Sound query × (length query ≤ room)
listed query room e =
    let a = then_none (query_refusal query) (unless (leb (length query) room) (refusal 19 (length query) Question) None) e in
    let b = unless_none (leb (length query) room) (refusal 19 (length query) Question) None a.1 in
    (sound query a.0, leb-true (length query) room b.0)
