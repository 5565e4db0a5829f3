-- Places of the score, and the rests that begin there.
use Rattle.std.proofs.Common.{◌≡◌, ℕ, zero, suc, ◌+◌, ◌*◌, ◌/◌, ◌%◌, ◌<◌, ◌≤◌, Bool, true, false, cond, ltb, ◌⊎◌, List, length, get_or, ℤ, Some, None, Option, sym, refl, ap, ◌∙◌, subst, inl, inr, mul_comm, arith}
use Rattle.std.specs.Option.{option_map}
use Rattle.std.proofs.lemmas.Nat.{mul-le, mul-add-lt, div-mul-add, mod-mul-add, div_below, mod_below, div-add-mod'}
use Rattle.std.proofs.lemmas.Bool.{cases_lt, cases_eq, lt-ltb, le-ltb, ltb-true, cond-true, cond-false}
use Rattle.notation.specs.Kind.{rest, Lawful}
use Rattle.price.specs.Pricing.{Pricing}
use Rattle.splitting.specs.Score.{Question, symbol, note, Matches}
use Rattle.splitting.specs.Rest.{Rest, Least}
use Rattle.splitting.proofs.Kept.{one_symbol}
use Rattle.splitting.proofs.Depths.{rest_matches}
use Rattle.search.specs.Rows.{column_of, track_of}
use Rattle.search.specs.Resting.{Posed, Wants, LeastRow}
use Rattle.search.proofs.Columns.{symbol_at, symbol_past_columns, symbol_past_tracks}

module _ (ask : Question) (bytes : List ℕ) (tracks : ℕ) (one : 1 ≤ tracks) (posed : Posed ask bytes tracks) where
  laws : Lawful ask.kind
  laws = posed.covered.kind_laws

  -- the symbol at a place
  pub symbol_place : (q : ℕ) → q < length bytes → symbol ask.score (column_of tracks q) (track_of tracks q) ≡ get_or bytes q rest
  symbol_place q l =
      let j = q / tracks in
      let t = q % tracks in
      let n = posed.size_is in
      let ej : q / tracks + 1 ≡ suc j = omega arith in
      let et : q % tracks + 1 ≡ suc t = omega arith in
      (λ i. symbol (posed.score_is i) (ej i) (et i))
      ∙ symbol_at tracks posed.columns bytes j t (div_below q tracks posed.columns one (omega arith)) (mod_below q tracks one)
      ∙ ap (λ z. get_or bytes z rest) (div-add-mod' q tracks)

  module _ (c : ℤ) (i b : ℕ) (wants : Wants ask c i b) where
    -- a note matches where its byte stands
    pub matches_place : (q : ℕ) → q < length bytes → get_or bytes q rest ≡ b → Matches ask c i (column_of tracks q) (track_of tracks q)
    matches_place q l e = subst (λ z. ask.kind.interval (note ask.query i) z ≡ Some c) (sym (symbol_place q l ∙ e)) wants

    pub match_byte : (j t : ℕ) → Matches ask c i j t → symbol ask.score j t ≡ b
    match_byte j t h = one_symbol ask.kind laws (note ask.query i) (symbol ask.score j t) b c h wants

    -- and nowhere else
    sounding : b ≡ rest → ⊥
    sounding e = let l = laws.sounding b (laws.present (note ask.query i) b c wants).1 in omega arith

  -- a column and a track, counted from 0, are a place or outside
  pub place_size : (j t : ℕ) → j < posed.columns → t < tracks → j * tracks + t < length bytes
  place_size j t l k = omega (arith, posed.size_is, mul-add-lt j tracks t posed.columns l k, mul_comm tracks posed.columns)

  -- each row as prices by column and track
  module _ {P : Type 0} (m : Pricing) (meaning : P → m.Meaning) (row : ℕ → Option P) where
    abbrev pub entry : ℕ → ℕ → Option m.Meaning
    entry zero t = None
    entry (suc j) zero = None
    entry (suc j) (suc t) = cond (ltb t tracks) (option_map meaning (row (j * tracks + t))) None

    pub entry_place : (q : ℕ) → entry (q / tracks + 1) (q % tracks + 1) ≡ option_map meaning (row q)
    entry_place q =
        let ej : q / tracks + 1 ≡ suc (q / tracks) = omega arith in
        let et : q % tracks + 1 ≡ suc (q % tracks) = omega arith in
        (λ i. entry (ej i) (et i)) ∙ cond-true (ltb (q % tracks) tracks) _ None (lt-ltb (q % tracks) tracks (mod_below q tracks one)) ∙ ap (λ z. option_map meaning (row z)) (div-add-mod' q tracks)

    -- a price by column and track is one of a place
    pub entry_some : (j t : ℕ) (a : m.Meaning) → entry j t ≡ Some a → (q : ℕ) × (j ≡ q / tracks + 1) × (t ≡ q % tracks + 1) × (option_map meaning (row q) ≡ Some a)
    entry_some zero t a e = let z : ◌≡◌ {A = ℕ} 0 1 = cc in absurd (omega arith)
    entry_some (suc j) zero a e = let z : ◌≡◌ {A = ℕ} 0 1 = cc in absurd (omega arith)
    entry_some (suc j) (suc t) a e = go (ltb t tracks) refl e
      where
        go : (v : Bool) → ltb t tracks ≡ v → cond v (option_map meaning (row (j * tracks + t))) None ≡ Some a → (q : ℕ) × (suc j ≡ q / tracks + 1) × (suc t ≡ q % tracks + 1) × (option_map meaning (row q) ≡ Some a)
        go true l f =
            let k = ltb-true t tracks l in
            (j * tracks + t, omega (arith, div-mul-add j tracks t k), omega (arith, mod-mul-add j tracks t k), f)
        go false l f = let z : ◌≡◌ {A = ℕ} 0 1 = cc in absurd (omega arith)

    module _ (c : ℤ) (i b : ℕ) (wants : Wants ask c i b) (matched : (q : ℕ) → (length bytes ≤ q) ⊎ (get_or bytes q rest ≡ b → ⊥) → row q ≡ None) (right : LeastRow m meaning ask bytes tracks c i b row 0) where
      unmatched : (j t : ℕ) → (symbol ask.score j t ≡ b → ⊥) → Least m (Rest m ask c i j t) None
      unmatched j t ne a r = ne (match_byte c i b wants j t (rest_matches r))

      none_at : (j t : ℕ) (x : Option m.Meaning) → x ≡ None → (symbol ask.score j t ≡ b → ⊥) → Least m (Rest m ask c i j t) x
      none_at j t x e ne = subst (Least m (Rest m ask c i j t)) (sym e) (unmatched j t ne)

      silent : (j t : ℕ) → symbol ask.score j t ≡ rest → symbol ask.score j t ≡ b → ⊥
      silent j t e f = sounding c i b wants (sym f ∙ e)

      at_place : (q : ℕ) → (q < length bytes) → Least m (Rest m ask c i (q / tracks + 1) (q % tracks + 1)) (option_map meaning (row q))
      at_place q l =
          elim (cases_eq (get_or bytes q rest) b) [
            | inl e ↦ right q (omega arith) l e
            | inr ne ↦ none_at (q / tracks + 1) (q % tracks + 1) (option_map meaning (row q)) (ap (option_map meaning) (matched q (inr ne))) (λ e. ne (sym (symbol_place q l) ∙ e))
          ]

      -- the least rest from every column and track
      pub known : (j t : ℕ) → Least m (Rest m ask c i j t) (entry j t)
      known zero t = unmatched zero t (silent zero t refl)
      known (suc j) zero = unmatched (suc j) zero (silent (suc j) zero refl)
      known (suc j) (suc t) =
          elim (cases_lt t tracks) [
            | inl k ↦
                elim (cases_lt j posed.columns) [
                  | inl l ↦
                      let q = j * tracks + t in
                      let ej : q / tracks + 1 ≡ suc j = omega (arith, div-mul-add j tracks t k) in
                      let et : q % tracks + 1 ≡ suc t = omega (arith, mod-mul-add j tracks t k) in
                      subst (Least m (Rest m ask c i (suc j) (suc t))) (sym (cond-true (ltb t tracks) (option_map meaning (row q)) None (lt-ltb t tracks k)))
                      (subst (λ i. i) (λ z. Least m (Rest m ask c i (ej z) (et z)) (option_map meaning (row q))) (at_place q (place_size j t l k)))
                  | inr l ↦
                      none_at (suc j) (suc t) (entry (suc j) (suc t)) (cond-true (ltb t tracks) (option_map meaning (row (j * tracks + t))) None (lt-ltb t tracks k) ∙ ap (option_map meaning) (matched (j * tracks + t) (inl (past j t l))))
                      (silent (suc j) (suc t) ((λ z. symbol (posed.score_is z) (suc j) (suc t)) ∙ symbol_past_columns tracks posed.columns bytes j t l))
                ]
            | inr k ↦ none_at (suc j) (suc t) (entry (suc j) (suc t)) (cond-false (ltb t tracks) (option_map meaning (row (j * tracks + t))) None (le-ltb t tracks k)) (silent (suc j) (suc t) (off_track j t k))
          ]
        where
          past : (j t : ℕ) → posed.columns ≤ j → length bytes ≤ j * tracks + t
          past j t l = omega (arith, posed.size_is, mul-le posed.columns tracks j tracks l (omega arith))

          off_track : (j t : ℕ) → tracks ≤ t → symbol ask.score (suc j) (suc t) ≡ rest
          off_track j t k =
              (λ z. symbol (posed.score_is z) (suc j) (suc t))
              ∙ elim (cases_lt j posed.columns) [ inl l ↦ symbol_past_tracks tracks posed.columns bytes j t l k | inr l ↦ symbol_past_columns tracks posed.columns bytes j t l ]
