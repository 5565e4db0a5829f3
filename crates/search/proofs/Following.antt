-- Pieces written one after another, as the steps of the rows lead from note to note.
use Rattle.std.proofs.Common.{◌≡◌, ℕ, suc, ◌+◌, ◌<◌, ◌≤◌, List, [], ◌∷◌, ◌++◌, length, ℤ, sym, refl, ap, ◌∙◌, subst, inl, inr, arith}
use Rattle.std.proofs.lemmas.List.{append_assoc}
use Rattle.std.proofs.lemmas.Bool.{cases_eq}
use Rattle.price.specs.Pricing.{Pricing}
use Rattle.splitting.specs.declared.Piece.{Piece}
use Rattle.splitting.specs.Score.{Question, Matches}
use Rattle.splitting.specs.Splitting.{gap, last, Placed, Splits, price_of}
use Rattle.splitting.specs.Rest.{Rest, ends, goes_on, handed_over}
use Rattle.splitting.specs.Laws.{Covered}
use Rattle.splitting.proofs.Places.{match_note}
use Rattle.splitting.proofs.Depths.{rest_matches}
use Rattle.splitting.proofs.Rests.{matches_at}

-- a piece with so many notes
abbrev pub sized_as : Piece → ℕ → Piece
sized_as o n = record { first = o.first; len = n; track = o.track; column = o.column }

-- what is left to pay at the last note is nothing
pub last_price : (m : Pricing) (ask : Question) → Covered ask → (c : ℤ) (i j t : ℕ) (a : m.Meaning) → i ≡ length ask.query → Rest m ask c i j t a → a ≡ m.nothing
last_price m ask covered c i j t a e (ends f h) = refl
last_price m ask covered c i j t a e (goes_on h r) = let p = match_note ask covered.kind_laws c (suc i) (suc j) t (rest_matches r) in absurd (omega arith)
last_price m ask covered c i j t a e (handed_over j' t' h l g r) = let p = match_note ask covered.kind_laws c (suc i) j' t' (rest_matches r) in absurd (omega arith)

module _ (m : Pricing) (ask : Question) (c : ℤ) (whole : m.Meaning) where
  -- Some pieces are written, and another one is begun. However long that becomes, pieces from it on that split the
  -- rest of the query at the price a make a splitting of all of it at the whole price.
  pub record Begun (written : List Piece) (o : Piece) (a : m.Meaning) : Type 0 where
    pub goes : (n : ℕ) (tail : List Piece) → Splits ask c o.first (sized_as o n ∷ tail) → price_of m ask.score (sized_as o n ∷ tail) ≡ a → Splits ask c 1 (written ++ sized_as o n ∷ tail) × (price_of m ask.score (written ++ sized_as o n ∷ tail) ≡ whole)

  -- the notes that the piece has so far lie where it says
  pub record Lying (o : Piece) : Type 0 where
    pub some : 0 < o.len
    pub lies : (d : ℕ) → d < o.len → Matches ask c (o.first + d) (o.column + d) o.track

  -- nothing written yet
  pub begun_none : (o : Piece) → o.first ≡ 1 → Begun [] o whole
  begun_none o e = record { goes = λ n tail s p. (subst (λ z. Splits ask c z (sized_as o n ∷ tail)) e s, p) }

  pub lying_one : (o : Piece) → o.len ≡ 1 → Matches ask c o.first o.column o.track → Lying o
  lying_one o e h =
      record {
        some = omega arith;
        lies = λ d l. matches_at ask c o.first (o.first + d) o.column (o.column + d) o.track o.track (omega arith) (omega arith) refl h;
      }

  -- the next note lies in the next column of the track
  pub lying_more : (o : Piece) → Lying o → Matches ask c (o.first + o.len) (o.column + o.len) o.track → Lying (sized_as o (o.len + 1))
  lying_more o h next =
      record {
        some = omega arith;
        lies = λ d l. elim (cases_eq d o.len) [ inl e ↦ matches_at ask c (o.first + o.len) (o.first + d) (o.column + o.len) (o.column + d) o.track o.track (omega arith) (omega arith) refl next | inr ne ↦ h.lies d (below d l ne) ];
      }
    where
      below : (d : ℕ) → d < o.len + 1 → (d ≡ o.len → ⊥) → d < o.len
      below d l ne = omega arith

  placed_so : (o : Piece) → Lying o → Placed ask c o.first o
  placed_so o h = record { first_is = refl; some = h.some; lies = h.lies }

  -- the next note is handed over
  pub begun_more : (written : List Piece) (o q : Piece) (a a' : m.Meaning) → Lying o → q.first ≡ o.first + o.len → last o < q.column → gap ask.score (last o) q.column ≤ ask.limit → a ≡ m.charged a' (gap ask.score (last o) q.column) → Begun written o a → Begun (written ++ o ∷ []) q a'
  begun_more written o q a a' lying next later near charged old =
      record {
        goes =
            λ n tail s p.
            let e = append_assoc written (o ∷ []) (sized_as q n ∷ tail) in
            let r =
            old.goes o.len (sized_as q n ∷ tail)
            (placed_so o lying, record { later = later; within = near }, subst (λ z. Splits ask c z (sized_as q n ∷ tail)) next s)
            ((λ i. m.charged (p i) (gap ask.score (last o) q.column)) ∙ sym charged) in
            (subst (Splits ask c 1) (sym e) r.0, ap (price_of m ask.score) e ∙ r.1);
      }

  -- the last note is reached
  pub begun_ends : (written : List Piece) (o : Piece) (a : m.Meaning) → Lying o → o.first + o.len ≡ suc (length ask.query) → a ≡ m.nothing → Begun written o a → Splits ask c 1 (written ++ o ∷ []) × (price_of m ask.score (written ++ o ∷ []) ≡ whole)
  begun_ends written o a lying end free old = old.goes o.len [] (placed_so o lying, end) (sym free)
