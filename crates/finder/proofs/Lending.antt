-- Lists and sheets that are made for a call, and what comes of it.
use Rattle.std.proofs.Common.{◌≡◌, ℕ, zero, suc, ◌*◌, ◌≤◌, min, List, map, length, take, drop, ℤ, vec_items, sym, ap, ◌∙◌, subst, suc-mul, arith}
use Rattle.std.proofs.lemmas.Nat.{mul-le}
use Rattle.std.proofs.lemmas.List.{length-append, length-map, length-take, take-map, drop-map}
use Rattle.notation.specs.Kind.{Kind}
use Rattle.price.specs.Pricing.{Pricing}
use Rattle.splitting.specs.Answer.{Answers, meant}
use Rattle.splitting.specs.Score as splitting
use Rattle.splitting.specs.Score.{Transposed, Question}
use Rattle.splitting.specs.declared.Answer.{Answer}
use Rattle.splitting.specs.declared.Piece.{Piece}
use Rattle.search.specs.Columns.{columns_of}
use Rattle.finder.specs.Outcomes.{MovedRightly, rests, blanks}
use Rattle.search.specs.Questions.{question_refusal}
use Rattle.finder.specs.Scores.{columns_held}
use Rattle.search.specs.Workspace.{symbols}
use Rattle.finder.specs.declared.score.Score.{Score}
use Rattle.finder.proofs.Capping.{question_cap}

-- the front of a list of rests has become a query transposed
pub moved_rightly : {S : Type 0} (k : Kind) (byte : S → ℕ) (by : ℤ) (query out before : List S) (room : ℕ) → map byte before ≡ rests room → Transposed k by (map byte query) (map byte (take (length query) out)) → drop (length query) out ≡ drop (length query) before → MovedRightly k by (map byte query) room (map byte out)
moved_rightly k byte by query out before room made moved behind =
    let n : length (map byte query) ≡ length query = length-map query byte in
    let front : take (length (map byte query)) (map byte out) ≡ map byte (take (length query) out) = ap (λ (i : ℕ). take i (map byte out)) n ∙ take-map byte (length query) out in (
      subst (λ (list : List ℕ). Transposed k by (map byte query) list) (sym front) moved,
      ap (λ (i : ℕ). drop i (map byte out)) n ∙ drop-map byte (length query) out ∙ ap (map byte) behind ∙ sym (drop-map byte (length query) before) ∙ (λ j. drop (sym n j) (made j)),
    )

-- a list of blank pieces, with the answer that was told of it
pub told_of_blanks : {P : Type 0} (m : Pricing) (meaning : P → m.Meaning) (ask : Question) (room : ℕ) (answer : Answer P) (given after told : List Piece) → given ≡ blanks room → told ≡ after → Answers ask m (meant meaning answer) given after → Answers ask m (meant meaning answer) (blanks room) told
told_of_blanks m meaning ask room answer given after told made same right =
    subst (λ (xs : List Piece). Answers ask m (meant meaning answer) xs told) made (subst (λ (xs : List Piece). Answers ask m (meant meaning answer) given xs) (sym same) right)

-- the columns of a score have no more symbols than columns times tracks
symbols_few : (tracks n : ℕ) (cells : List ℕ) → length (symbols (columns_of tracks n cells)) ≤ n * tracks
symbols_few tracks zero cells = omega arith
symbols_few tracks (suc n) cells =
    omega (arith, length-append (take tracks cells) (symbols (columns_of tracks n (drop tracks cells))), length-take tracks cells, symbols_few tracks n (drop tracks cells), suc-mul n tracks)

pub score_few : {S : Type 0} (byte : S → ℕ) (s : Score S) → length (symbols (columns_held byte s)) ≤ 65536
score_few byte s =
    omega (arith, symbols_few s.tracks s.columns (map byte (vec_items s.memory)), mul-le s.columns s.tracks 4096 16 (omega (arith, s.held, s.few_columns)) s.few_tracks)

-- the rule of a question by the lengths of what was made for it
pub rule_of_made : {S : Type 0} (byte : S → ℕ) (s : Score S) (ask : Question) (list prices window steps a b c d : ℕ) → ask.score ≡ columns_held byte s → a ≡ min list 64 → b ≡ min prices 4194304 → c ≡ min window 4194304 → d ≡ min steps 4194304 → question_refusal ask list prices window steps ≡ question_refusal ask a b c d
rule_of_made byte s ask list prices window steps a b c d is e f g h =
    sym (question_cap ask (subst (λ (x : splitting.Score). length (symbols x) ≤ 65536) (sym is) (score_few byte s)) list prices window steps) ∙ (λ j. question_refusal ask (sym e j) (sym f j) (sym g j) (sym h j))
