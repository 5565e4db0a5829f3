-- Counting symbols by their bytes.
use Rattle.std.proofs.Common.{◌≡◌, ℕ, zero, suc, ◌+◌, ◌<◌, ◌≤◌, max, Bool, true, false, cond, ◌||◌, T, eqb, ltb, List, [], ◌∷◌, map, length, get_or, take, set, replicate, ℤ, Some, count_by, Option, sym, refl, ap, ◌∙◌, subst, inl, inr, arith}
use Rattle.std.specs.List.{AllByRecursion}
use Rattle.std.proofs.lemmas.List.{length-map, length-set, get_or-replicate, get_or-set_same, get_or-set_other, take-map}
use Rattle.std.proofs.lemmas.List.Sums.{sum_by-cons, count_by_more_yes, count_by_more_no}
use Rattle.std.proofs.lemmas.Bool.{cases_eq, eq-eqb, ne_eqb, lt-ltb, ltb-true, eqb-true, cond-true, cond-false}
use Rattle.notation.specs.Kind.{Kind, rest, readable, Lawful}
use Rattle.notation.specs.declared.mode.Mode.{Mode}
use Rattle.splitting.specs.Score.{note}
use Rattle.splitting.proofs.Kept.{one_symbol}
use Rattle.search.specs.Queries.{tells}
use Rattle.search.specs.Workspace.{admits, matching, triples, candidate_size, greatest, workspace, Counted}
use Rattle.search.proofs.Intervals.{decides_tells}
use Rattle.search.proofs.Refusing.{byte_at}

true_T : (v : Bool) → T v → v ≡ true
true_T true h = refl
true_T false h = absurd h

-- every symbol's byte is a byte
pub byte_small : (k : Kind) → Lawful k → (b : ℕ) → T (readable k b) → b < 256
byte_small k laws b h = go (k.code b) refl h
  where
    go : (v : Bool) → k.code b ≡ v → T (v || eqb b rest) → b < 256
    go true e g = let l = laws.sounding b (subst T (sym e) tt) in omega arith
    go false e g = let q = eqb-true b rest (true_T (eqb b rest) g) in omega arith

same_test : (p q : ℕ → Bool) → ((b : ℕ) → p b ≡ q b) → (cells : List ℕ) → count_by p cells ≡ count_by q cells
same_test p q h cells = λ i. count_by (λ b. h b i) cells

count_none : (cells : List ℕ) → count_by (λ b. false) cells ≡ 0
count_none [] = refl
count_none (x ∷ cells) = sum_by-cons (λ b. 0) x cells ∙ (let e = count_none cells in omega arith)

-- the symbols at an interval from a note are those with one byte
module _ (k : Kind) (laws : Lawful k) (c : ℤ) (a : ℕ) where
  one_test : (b : ℕ) → k.interval a b ≡ Some c → (x : ℕ) → tells (k.interval a x) c ≡ eqb b x
  one_test b at x =
      elim (cases_eq b x) [
        | inl e ↦ (decides_tells (k.interval a x) c).1 (subst (λ z. k.interval a z ≡ Some c) e at) ∙ sym (eq-eqb b x e)
        | inr ne ↦ go (tells (k.interval a x) c) refl (λ h. ne (one_symbol k laws a b x c at ((decides_tells (k.interval a x) c).0 h))) ∙ sym (ne_eqb b x ne)
      ]
    where
      go : (v : Bool) → tells (k.interval a x) c ≡ v → (tells (k.interval a x) c ≡ true → ⊥) → v ≡ false
      go true e never = absurd (never e)
      go false e never = refl

  pub matching_byte : (b : ℕ) → k.interval a b ≡ Some c → (cells : List ℕ) → matching k c cells a ≡ count_by (eqb b) cells
  matching_byte b at cells = same_test (λ x. tells (k.interval a x) c) (eqb b) (one_test b at) cells

  pub matching_none : ((b : ℕ) → k.interval a b ≡ Some c → ⊥) → (cells : List ℕ) → matching k c cells a ≡ 0
  matching_none never cells = same_test (λ x. tells (k.interval a x) c) (λ b. false) (λ x. go x (tells (k.interval a x) c) refl) cells ∙ count_none cells
    where
      go : (x : ℕ) (v : Bool) → tells (k.interval a x) c ≡ v → v ≡ false
      go x true e = absurd (never x ((decides_tells (k.interval a x) c).0 e))
      go x false e = refl

-- the histogram, one symbol further
module _ {S : Type 0} (byte : S → ℕ) (cells : List S) where
  abbrev pub Counts : List ℕ → ℕ → Type 0
  Counts counts i = (length counts ≡ 256) × Counted counts (map byte (take i cells))

  pub counts_none : Counts (replicate 256 0) 0
  counts_none = (refl, λ b l. get_or-replicate 256 b 0 0 l)

  pub counts_more : (counts : List ℕ) (i b : ℕ) (x : S) → i < length cells → x ≡ get_or cells i x → b ≡ byte x → b < 256 → Counts counts i → Counts (set counts b (get_or counts b 0 + 1)) (i + 1)
  counts_more counts i b x l is e small h =
      let bs = map byte cells in
      let n = length-map cells byte in
      let at : get_or bs i 0 ≡ b = byte_at byte cells i x 0 l is ∙ sym e in
      let to : (m : ℕ) → map byte (take m cells) ≡ take m bs = λ m. sym (take-map byte m cells) in (
        length-set counts b (get_or counts b 0 + 1) ∙ h.0,
        λ d m.
            let old : get_or counts d 0 ≡ count_by (eqb d) (take i bs) = h.1 d m ∙ ap (count_by (eqb d)) (to i) in
            elim (cases_eq d b) [
              | inl q ↦
                  ap (λ z. get_or (set counts b (get_or counts b 0 + 1)) z 0) q
                  ∙ get_or-set_same counts b (get_or counts b 0 + 1) 0 (omega (arith, h.0))
                  ∙ ap (λ z. get_or counts z 0 + 1) (sym q)
                  ∙ ap (λ z. z + 1) old
                  ∙ sym (count_by_more_yes (eqb d) bs i 0 (omega arith) (eq-eqb d (get_or bs i 0) (q ∙ sym at)))
                  ∙ ap (count_by (eqb d)) (sym (to (i + 1)))
              | inr q ↦
                  get_or-set_other counts b d (get_or counts b 0 + 1) 0 q
                  ∙ old
                  ∙ sym (count_by_more_no (eqb d) bs i 0 (omega arith) (ne_eqb d (get_or bs i 0) (λ z. q (z ∙ at))))
                  ∙ ap (count_by (eqb d)) (sym (to (i + 1)))
            ],
      )

-- the greatest size over a range of bytes
abbrev pub top : (ℕ → ℕ) → ℕ → ℕ
top size zero = 0
top size (suc i) = max (top size i) (size i)

pub top_more : (size : ℕ → ℕ) (i : ℕ) → top size (i + 1) ≡ max (top size i) (size i)
top_more size i = ap (top size) (let e : i + 1 ≡ suc i = omega arith in e)

size_le_top : (size : ℕ → ℕ) (i b : ℕ) → b < i → size b ≤ top size i
size_le_top size zero b l = absurd (omega arith)
size_le_top size (suc i) b l =
    elim (cases_eq b i) [
      | inl e ↦ let f = ap size e in omega arith
      | inr ne ↦ let h = size_le_top size i b (omega arith) in omega arith
    ]

top_le : (size : ℕ → ℕ) (n i : ℕ) → ((b : ℕ) → size b ≤ n) → top size i ≤ n
top_le size n zero h = omega arith
top_le size n (suc i) h = let m = top_le size n i h in let s = h i in omega arith

-- a byte is there if it is counted
count_cons : (b x : ℕ) (cells : List ℕ) → count_by (eqb b) (x ∷ cells) ≡ cond (eqb b x) 1 0 + count_by (eqb b) cells
count_cons b x cells = sum_by-cons (λ x. cond (eqb b x) 1 0) x cells

pub counted_le : (size : ℕ → ℕ) (b : ℕ) (cells : List ℕ) → 0 < count_by (eqb b) cells → size b ≤ greatest size cells
counted_le size b [] l = absurd (omega arith)
counted_le size b (x ∷ cells) l =
    elim (cases_eq b x) [
      | inl e ↦ let f = ap size e in omega arith
      | inr ne ↦ let q : ◌≡◌ {A = ℕ} (cond {A = ℕ} (eqb b x) 1 0) 0 = cond-false {A = ℕ} (eqb b x) 1 0 (ne_eqb b x ne) in let h = counted_le size b cells (omega (arith, count_cons b x cells)) in omega arith
    ]

-- the greatest over all bytes that are there is the greatest over the symbols

greatest_le : (size : ℕ → ℕ) (all : List ℕ) (n : ℕ) (cells : List ℕ) → ((b : ℕ) → b < 256 → cond (ltb 0 (count_by (eqb b) all)) (size b) 0 ≤ n) → AllByRecursion (λ b. b < 256) cells → ((b : ℕ) → 0 < count_by (eqb b) cells → 0 < count_by (eqb b) all) → greatest size cells ≤ n
greatest_le size all n [] h small sub = omega arith
greatest_le size all n (x ∷ cells) h small sub =
    let one : ◌≡◌ {A = ℕ} (cond {A = ℕ} (eqb x x) 1 0) 1 = cond-true {A = ℕ} (eqb x x) 1 0 (eq-eqb x x refl) in
    let there = sub x (omega (arith, count_cons x x cells)) in
    let s = h x small.0 in
    let t = cond-true (ltb 0 (count_by (eqb x) all)) (size x) 0 (lt-ltb 0 (count_by (eqb x) all) there) in
    let more = greatest_le size all n cells h small.1 (λ b l. sub b (omega (arith, count_cons b x cells))) in
    omega arith

pub greatest_top : (size : ℕ → ℕ) (cells : List ℕ) → AllByRecursion (λ b. b < 256) cells → top (λ b. cond (ltb 0 (count_by (eqb b) cells)) (size b) 0) 256 ≡ greatest size cells
greatest_top size cells small = at 256 refl
  where
    at : (n : ℕ) → n ≡ 256 → top (λ b. cond (ltb 0 (count_by (eqb b) cells)) (size b) 0) n ≡ greatest size cells
    at n e =
        let low = top_le (λ b. cond (ltb 0 (count_by (eqb b) cells)) (size b) 0) (greatest size cells) n (λ b. here b (ltb 0 (count_by (eqb b) cells)) refl) in
        let high = greatest_le size cells (top (λ b. cond (ltb 0 (count_by (eqb b) cells)) (size b) 0) n) cells (λ b l. size_le_top (λ b. cond (ltb 0 (count_by (eqb b) cells)) (size b) 0) n b (omega arith)) small (λ b l. l) in
        omega arith
      where
        here : (b : ℕ) (v : Bool) → ltb 0 (count_by (eqb b) cells) ≡ v → cond v (size b) 0 ≤ greatest size cells
        here b true q = counted_le size b cells (ltb-true 0 (count_by (eqb b) cells) q)
        here b false q = omega arith

-- all symbols' bytes are bytes
pub bytes_small : {S : Type 0} (byte : S → ℕ) (k : Kind) → Lawful k → ((s : S) → T (readable k (byte s))) → (cells : List S) → AllByRecursion (λ b. b < 256) (map byte cells)
bytes_small byte k laws h [] = tt
bytes_small byte k laws h (x ∷ cells) = (byte_small k laws (byte x) (h x), bytes_small byte k laws h cells)

-- the size under the candidate that leads to a byte
module _ (k : Kind) (mode : Mode) (cells query : List ℕ) where
  pub size_some : (v : Bool) (o : Option ℤ) (c : ℤ) (n : ℕ) → v ≡ true → o ≡ Some c → n ≡ cond (admits mode c) (triples k c cells query) 0 → n ≡ cond v (candidate_size k mode cells query o) 0
  size_some true o c n q e is = is ∙ sym (ap (candidate_size k mode cells query) e)
  size_some false o c n q e is = let z : ◌≡◌ {A = ℕ} 0 1 = cc in absurd (omega arith)

-- the size under the candidate that leads to a byte, 0 where the score does not hold it
abbrev pub sized : Kind → Mode → List ℕ → List ℕ → ℕ → ℕ
sized k mode cells query b = cond (ltb 0 (count_by (eqb b) cells)) (candidate_size k mode cells query (k.interval (note query 1) b)) 0

pub workspace_top : (k : Kind) (mode : Mode) (cells query : List ℕ) → AllByRecursion (λ b. b < 256) cells → top (sized k mode cells query) 256 ≡ workspace k mode cells query
unfolding workspace
workspace_top k mode cells query small = greatest_top (λ b. candidate_size k mode cells query (k.interval (note query 1) b)) cells small
