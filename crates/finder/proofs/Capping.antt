-- Lists beyond 64 and sheets beyond 64 times 65,536 change no refusal.
use Rattle.std.proofs.Common.{◌≡◌, ℕ, ◌+◌, ◌*◌, ◌≤◌, min, Bool, ◌&&◌, leb, List, [], ◌∷◌, length, ℤ, Some, None, Option, refl, ap, ◌∙◌, arith}
use Rattle.std.specs.List.{prefix_len, AllByRecursion}
use Rattle.std.proofs.lemmas.Nat.{mul-le}
use Rattle.std.proofs.lemmas.List.Sums.{count_by-le-length}
use Rattle.std.proofs.ByRecursion.{sum_by_le}
use Rattle.std.proofs.lemmas.Bool.{cond_both}
use Rattle.notation.specs.Kind.{Kind}
use Rattle.notation.specs.declared.mode.Mode.{Mode}
use Rattle.book.specs.Refusals.{refusal, unless, then}
use Rattle.book.specs.declared.refusal.Layer.TheVariants.{Question as of-question, Transposing}
use Rattle.book.specs.declared.refusal.Refusal.{Refusal}
use Rattle.splitting.specs.Score.{Question}
use Rattle.search.specs.Queries.{query_refusal, list_refusal, tells, reaches, transpose_refusal}
use Rattle.search.specs.Questions.{question_refusal}
use Rattle.search.specs.Workspace.{symbols, admits, matching, triples, candidate_size, greatest, workspace, workspace_of}
use Rattle.search.proofs.Refusing.{sound, listed}

-- a cap at least as high as what is wanted is as good as none
pub cap_harmless : (want room cap : ℕ) → want ≤ cap → leb want (min room cap) ≡ leb want room
cap_harmless want room cap enough = grind arith

all_le : (f : ℕ → ℕ) (m : ℕ) → ((x : ℕ) → f x ≤ m) → (xs : List ℕ) → AllByRecursion (λ x. f x ≤ m) xs
all_le f m small [] = tt
all_le f m small (x ∷ xs) = (small x, all_le f m small xs)

triples_few : (k : Kind) (c : ℤ) (cells query : List ℕ) → triples k c cells query ≤ length query * length cells
triples_few k c cells query = sum_by_le (matching k c cells) (length cells) query (all_le (matching k c cells) (length cells) (λ n. count_by-le-length (λ b. tells (k.interval n b) c) cells) query)

candidate_few : (k : Kind) (mode : Mode) (cells query : List ℕ) (c : Option ℤ) → candidate_size k mode cells query c ≤ length query * length cells
candidate_few k mode cells query None = omega arith
candidate_few k mode cells query (Some c) = cond_both (admits mode c) (triples k c cells query) 0 (λ n. n ≤ length query * length cells) (λ e. triples_few k c cells query) (λ e. omega arith)

greatest_few : (size : ℕ → ℕ) (m : ℕ) → ((b : ℕ) → size b ≤ m) → (cells : List ℕ) → greatest size cells ≤ m
greatest_few size m small [] = omega arith
greatest_few size m small (b ∷ bs) = omega (arith, small b, greatest_few size m small bs)

-- no workspace is above the notes times the symbols
pub workspace_few : (k : Kind) (mode : Mode) (cells query : List ℕ) → workspace k mode cells query ≤ length query * length cells
unfolding workspace
workspace_few k mode cells query = greatest_few _ (length query * length cells) (λ b. candidate_few k mode cells query _) cells

list_capped : (rule : Option Refusal) (query : List ℕ) (room : ℕ) → query_refusal query ≡ rule → then rule (unless (leb (length query) (min room 64)) (refusal 19 (length query) of-question) None) ≡ then rule (unless (leb (length query) room) (refusal 19 (length query) of-question) None)
list_capped (Some r) query room e = refl
list_capped None query room e = ap (λ (b : Bool). unless b (refusal 19 (length query) of-question) None) (cap_harmless (length query) room 64 (sound query e).few)

pub list_cap : (query : List ℕ) (room : ℕ) → list_refusal query (min room 64) ≡ list_refusal query room
list_cap query room = list_capped (query_refusal query) query room refl

pub transpose_cap : (k : Kind) (by : ℤ) (query : List ℕ) (room : ℕ) → transpose_refusal k by query (min room 64) ≡ transpose_refusal k by query room
transpose_cap k by query room = ap (λ (x : Option Refusal). then x (unless (leb (length query) (prefix_len (reaches k by) query)) (refusal 21 (prefix_len (reaches k by) query + 1) Transposing) None)) (list_cap query room)

sheets_capped : (rule : Option Refusal) (size prices window steps : ℕ) → (rule ≡ None → size ≤ 4194304) → then rule (unless (leb size (min prices 4194304) && leb size (min window 4194304) && leb size (min steps 4194304)) (refusal 20 size of-question) None) ≡ then rule (unless (leb size prices && leb size window && leb size steps) (refusal 20 size of-question) None)
sheets_capped (Some r) size prices window steps few = refl
sheets_capped None size prices window steps few =
    let harmless : (room : ℕ) → leb size (min room 4194304) ≡ leb size room = λ room. cap_harmless size room 4194304 (few refl) in
    λ j. unless (harmless prices j && harmless window j && harmless steps j) (refusal 20 size of-question) None

-- a question about at most 65,536 symbols meets the same refusal
pub question_cap : (ask : Question) → length (symbols ask.score) ≤ 65536 → (list prices window steps : ℕ) → question_refusal ask (min list 64) (min prices 4194304) (min window 4194304) (min steps 4194304) ≡ question_refusal ask list prices window steps
question_cap ask short list prices window steps =
    let few : list_refusal ask.query list ≡ None → workspace_of ask ≤ 4194304 = λ e.
    let s = (listed ask.query list e).0 in
    omega (arith, workspace_few ask.kind ask.mode (symbols ask.score) ask.query, mul-le (length ask.query) (length (symbols ask.score)) 64 65536 s.few short) in
    ap (λ (x : Option Refusal). then x (unless (leb (workspace_of ask) (min prices 4194304) && leb (workspace_of ask) (min window 4194304) && leb (workspace_of ask) (min steps 4194304)) (refusal 20 (workspace_of ask) of-question) None)) (list_cap ask.query list) ∙
    sheets_capped (list_refusal ask.query list) (workspace_of ask) prices window steps few
