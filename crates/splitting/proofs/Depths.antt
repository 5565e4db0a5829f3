-- How wide a gap is, and how deep a price.
use Rattle.std.proofs.Common.{ℕ, zero, suc, ◌+◌, ◌-◌, ◌≤◌, List, [], ◌∷◌, length, get_or, ℤ, arith}
use Rattle.price.specs.Pricing.{Pricing, Lawful as PriceLaws}
use Rattle.splitting.specs.declared.Piece.{Piece}
use Rattle.splitting.specs.Score.{Question, Matches}
use Rattle.splitting.specs.Splitting.{last, gap, Splits, gaps, price_of}
use Rattle.splitting.specs.Rest.{Rest, ends, goes_on, handed_over}
use Rattle.splitting.specs.Laws.{Covered}
use Rattle.splitting.proofs.Gaps.{gap_at_most}
use Rattle.splitting.proofs.Places.{match_note, match_place}
use Rattle.splitting.proofs.Rests.{placed_last, splits_first, rest_of_splits}

pub rest_matches : {m : Pricing} {ask : Question} {c : ℤ} {i j t : ℕ} {a : m.Meaning} → Rest m ask c i j t a → Matches ask c i j t
rest_matches (ends e h) = h
rest_matches (goes_on h r) = h
rest_matches (handed_over j' t' h l g r) = h

module _ (ask : Question) (covered : Covered ask) (c : ℤ) where
  -- between two columns in which notes lie there are at most 4,094
  pub gap_small : (i j t i' j' t' : ℕ) → Matches ask c i j t → Matches ask c i' j' t' → gap ask.score j j' ≤ 4094
  gap_small i j t i' j' t' h h' =
      let few = covered.few in
      let p = match_place ask covered.kind_laws c i j t h in
      let p' = match_place ask covered.kind_laws c i' j' t' h' in
      let g = gap_at_most ask.score j j' in
      omega arith

  pub gaps_small : (from : ℕ) (ps : List Piece) → Splits ask c from ps → (n : ℕ) → get_or (gaps ask.score ps) n 0 ≤ 4094
  gaps_small from [] s n = omega arith
  gaps_small from (p ∷ []) s n = omega arith
  gaps_small from (p ∷ q ∷ ps) s zero = gap_small (p.first + (p.len - 1)) (last p) p.track (from + p.len) q.column q.track (placed_last ask c from p s.0) (splits_first ask c (from + p.len) q ps s.2)
  gaps_small from (p ∷ q ∷ ps) s (suc n) = gaps_small (from + p.len) (q ∷ ps) s.2 n

module _ (m : Pricing) (prices : PriceLaws m) (ask : Question) (covered : Covered ask) (c : ℤ) where
  -- at most one charge for each note that follows
  pub depth_small : {i j t : ℕ} {a : m.Meaning} → Rest m ask c i j t a → m.depth a ≤ length ask.query - i
  depth_small (ends e h) = omega (arith, prices.start)
  depth_small (goes_on h r) = let d = depth_small r in omega arith
  depth_small (handed_over {i} {j} {t} {a} j' t' h l g r) =
      let short = covered.short in
      let d = depth_small r in
      let h' = rest_matches r in
      let p = match_note ask covered.kind_laws c i j t h in
      let p' = match_note ask covered.kind_laws c (suc i) j' t' h' in
      let deep = prices.rises a (gap ask.score j j') (omega arith) (gap_small ask covered c i j t (suc i) j' t' h h') in
      omega arith

  pub depth_63 : {i j t : ℕ} {a : m.Meaning} → Rest m ask c i j t a → m.depth a ≤ 63
  depth_63 {i} {j} {t} {a} r =
      let short = covered.short in
      let p = match_note ask covered.kind_laws c i j t (rest_matches r) in
      let d = depth_small r in
      omega arith

  pub price_depth : (from : ℕ) (ps : List Piece) → Splits ask c from ps → m.depth (price_of m ask.score ps) ≤ 63
  price_depth from [] s = absurd s
  price_depth from (p ∷ ps) s = depth_63 (rest_of_splits m ask c from p ps s)
