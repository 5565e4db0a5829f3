-- Where notes can lie: inside the query and inside the score.
use Rattle.std.proofs.Common.{◌≡◌, ℕ, zero, suc, ◌-◌, ◌<◌, ◌≤◌, T, ◌⊎◌, List, [], length, get_or, ℤ, refl, ap, inl, inr, arith}
use Rattle.std.proofs.lemmas.List.{get_or_past}
use Rattle.std.proofs.lemmas.Bool.{cases_lt}
use Rattle.notation.specs.Kind.{Kind, rest, Lawful as KindLaws}
use Rattle.splitting.specs.Score.{Score, Question, symbol, note, Matches, Sounding}

-- a rest does not sound
no_code : (k : Kind) → KindLaws k → (a : ℕ) → a ≡ rest → T (k.code a) → ⊥
no_code k laws a e h = let l = laws.sounding a h in omega arith

-- a note of the query, or a rest
note_in : (query : List ℕ) (i : ℕ) → ((0 < i) × (i ≤ length query)) ⊎ (note query i ≡ rest)
note_in query zero = inr refl
note_in query (suc i) = elim (cases_lt i (length query)) [ inl l ↦ inl (omega arith, l) | inr l ↦ inr (get_or_past query i rest l) ]

-- how many tracks a column has
abbrev pub width : Score → ℕ → ℕ
width score j = length (get_or score (j - 1) [])

-- a place of the score
pub record Inside (score : Score) (j t : ℕ) : Type 0 where
  pub column_one : 0 < j
  pub column_last : j ≤ length score
  pub track_one : 0 < t
  pub track_last : t ≤ width score j

track_in : (column : List ℕ) (t : ℕ) → (t < length column) ⊎ (get_or column t rest ≡ rest)
track_in column t = elim (cases_lt t (length column)) [ inl l ↦ inl l | inr l ↦ inr (get_or_past column t rest l) ]

place_in : (score : Score) (j t : ℕ) → Inside score j t ⊎ (symbol score j t ≡ rest)
place_in score zero t = inr refl
place_in score (suc j) zero = inr refl
place_in score (suc j) (suc t) =
    let same : suc j - 1 ≡ j = omega arith in
    elim (cases_lt j (length score)) [
      | inl l ↦
          elim (track_in (get_or score j []) t) [
            | inl w ↦
                let e = ap (λ z. length (get_or score z [])) same in
                inl (record { column_one = omega arith; column_last = l; track_one = omega arith; track_last = omega arith })
            | inr e ↦ inr e
          ]
      | inr l ↦ inr (ap (λ x. get_or x t rest) (get_or_past score j [] l))
    ]

module _ (ask : Question) (laws : KindLaws ask.kind) (c : ℤ) (i j t : ℕ) (h : Matches ask c i j t) where
  pub match_note : (0 < i) × (i ≤ length ask.query)
  match_note = elim (note_in ask.query i) [ inl l ↦ l | inr e ↦ absurd (no_code ask.kind laws (note ask.query i) e (laws.present (note ask.query i) (symbol ask.score j t) c h).0) ]

  match_sounds : symbol ask.score j t ≡ rest → ⊥
  match_sounds e = no_code ask.kind laws (symbol ask.score j t) e (laws.present (note ask.query i) (symbol ask.score j t) c h).1

  pub match_place : Inside ask.score j t
  match_place = elim (place_in ask.score j t) [ inl l ↦ l | inr e ↦ absurd (match_sounds e) ]

  pub match_column : Sounding ask.score j
  match_column = (t, match_sounds)
