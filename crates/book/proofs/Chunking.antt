-- The parts of a list that its blocks hold, one after another.
use Rattle.std.proofs.Common.{◌≡◌, ℕ, suc, ◌+◌, ◌-◌, ◌*◌, ◌/◌, ◌<◌, ◌≤◌, min, List, [], ◌∷◌, ◌++◌, length, take, drop, sym, refl, ap, ◌∙◌, inl, inr, suc-mul, add-mul, mul_comm, mul_assoc, arith}
use Rattle.std.specs.Slice.Iter.{chunk_count}
use Rattle.std.proofs.lemmas.Bool.{cases_lt}
use Rattle.std.proofs.lemmas.List.{append-nil, take_at, drop_at, take_all, drop_all, length-append}
use Rattle.std.proofs.lemmas.Nat.{le-div, mul-le}
use Rattle.std.proofs.Math.Nat.{div-lt_iff_lt-mul, le-mul_of_pos_right, div-mul-le_self, lt-div-mul-add}

-- after m parts of w elements
pub record Left {X : Type 0} (xs : List X) (w m size : ℕ) (rest : List X) : Type 0 where
  pub size_is : size ≡ w
  pub rest_is : rest ≡ drop (m * w) xs
  pub within : m ≤ chunk_count (length xs) w

empty : {X : Type 0} (xs : List X) → length xs ≡ 0 → xs ≡ []
empty [] e = refl
empty (x ∷ xs) e = absurd (omega arith)

-- a part from the front
pub front_part : {X : Type 0} (w : ℕ) (rest part after : List X) → rest ≡ part ++ after → length part ≡ min w (length rest) → (part ≡ take w rest) × (after ≡ drop w rest)
front_part w rest part after e long =
    let parts = ap length e ∙ length-append part after in
    elim (cases_lt w (length rest)) [
      | inl l ↦
          let full : length part ≡ w = omega arith in
          (sym (ap (take w) e ∙ take_at part after w full), sym (ap (drop w) e ∙ drop_at part after w full))
      | inr l ↦
          let none : after ≡ [] = empty after (omega arith) in
          let whole : rest ≡ part = e ∙ ap (λ ys. part ++ ys) none ∙ append-nil part in
          (sym (take_all w rest (omega arith) ∙ whole), none ∙ sym (drop_all w rest (omega arith)))
    ]

-- where elements are left there is one part more
pub one_more : (n w m : ℕ) → 0 < w → m * w < n → m + 1 ≤ chunk_count n w
one_more n w m some left =
    let grow : (m + 1) * w ≤ n + w - 1 = omega (arith, suc-mul m w, mul_comm m w) in
    let quotient = le-div (m + 1) (n + w - 1) w some grow in
    let few : m ≤ m * w = le-mul_of_pos_right m some in
    omega arith

-- and where none are left there is none
pub no_more : (n w m : ℕ) → 0 < w → n ≤ m * w → m ≤ chunk_count n w → m ≡ chunk_count n w
no_more n w m some none within =
    let past : n + w - 1 < (m + 1) * w = omega (arith, suc-mul m w) in
    let quotient : (n + w - 1) / w < m + 1 = (div-lt_iff_lt-mul some).1 past in
    omega arith

-- blocks of whole columns: as many as hold the columns
pub blocks_are : (t c b : ℕ) → 1 ≤ t → 1 ≤ b → chunk_count (c * t) (b * t) ≡ (c + (b - 1)) / b
blocks_are t c b some each =
    let n = c * t in
    let w = b * t in
    let q = (c + (b - 1)) / b in
    let wide : 0 < w = mul-le 1 1 b t each some in
    let low : q * b * t ≤ (c + (b - 1)) * t = mul-le (q * b) t (c + (b - 1)) t (div-mul-le_self (c + (b - 1)) b) (omega arith) in
    let over : c + b ≤ q * b + b = let l = lt-div-mul-add {a = c + (b - 1)} {b = b} each in omega arith in
    let high : (c + b) * t ≤ (q * b + b) * t = mul-le (c + b) t (q * b + b) t over (omega arith) in
    let one : (c + b) * t ≡ n + w = add-mul c b t in
    let two : (q * b + b) * t ≡ q * b * t + w = add-mul (q * b) b t in
    let three : (c + (b - 1)) * t + t ≡ n + w = sym (suc-mul (c + (b - 1)) t) ∙ ap (λ x. x * t) (let e : suc (c + (b - 1)) ≡ c + b = omega arith in e) ∙ one in
    let flat : q * w ≡ q * b * t = sym (mul_assoc q b t) in
    let quotient = le-div q (n + w - 1) w wide (omega arith) in
    let bound : (n + w - 1) / w < q + 1 = (div-lt_iff_lt-mul wide).1 (omega (arith, suc-mul q w)) in
    let within : n ≤ n * w = le-mul_of_pos_right n wide in
    let small : (n + w - 1) / w < n + 1 = (div-lt_iff_lt-mul wide).1 (omega (arith, suc-mul n w)) in
    omega arith
