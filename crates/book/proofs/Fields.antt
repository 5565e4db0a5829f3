-- A block's bytes and its fields: each gives the other.
use Rattle.std.proofs.Common.{◌≡◌, ℕ, zero, suc, ◌+◌, ◌-◌, ◌*◌, ◌/◌, ◌%◌, ◌<◌, ◌≤◌, true, eqb, leb, List, [], ◌∷◌, ◌++◌, length, get_or, take, drop, replicate, sym, refl, ap, ◌∙◌, arith}
use Rattle.std.proofs.lemmas.List.{drop_more, drop-drop, length-take, length-drop, length-append, length-replicate, take-append-drop, append_assoc, take_at, drop_at, drop-take, drop_all, get_or-append_right, length-take-le, take-take}
use Rattle.std.proofs.lemmas.Bool.{and_parts, eqb-true, leb-true, eq-eqb, le-leb, and_from}
use Rattle.book.specs.Blocks.{weighted, two, four, body, block_bytes, letter, kind_number, number, payload_length, payload, padding, stored_check, blank, padded, sound}

pub blank_zeros : (xs : List ℕ) → blank xs ≡ true → xs ≡ replicate (length xs) 0
blank_zeros [] h = refl
blank_zeros (x ∷ xs) h = let p = and_parts (eqb x 0) (blank xs) h in (λ i. eqb-true x 0 p.0 i ∷ blank_zeros xs p.1 i)

pub zeros_blank : (n : ℕ) → blank (replicate n 0) ≡ true
zeros_blank zero = refl
zeros_blank (suc n) = zeros_blank n

-- bytes, as an input holds them
abbrev pub Bytes : List ℕ → Type 0
Bytes b = (i : ℕ) → get_or b i 0 < 256

-- the first bytes of a list, one by one
pub six : (b : List ℕ) → 6 ≤ length b → b ≡ get_or b 0 0 ∷ get_or b 1 0 ∷ get_or b 2 0 ∷ get_or b 3 0 ∷ get_or b 4 0 ∷ get_or b 5 0 ∷ drop 6 b
six b l =
    drop_more b 0 0 (omega arith) ∙ ap (λ r. get_or b 0 0 ∷ r)
    (drop_more b 1 0 (omega arith) ∙ ap (λ r. get_or b 1 0 ∷ r)
    (drop_more b 2 0 (omega arith) ∙ ap (λ r. get_or b 2 0 ∷ r)
    (drop_more b 3 0 (omega arith) ∙ ap (λ r. get_or b 3 0 ∷ r)
    (drop_more b 4 0 (omega arith) ∙ ap (λ r. get_or b 4 0 ∷ r)
    (drop_more b 5 0 (omega arith))))))

last_four : (b : List ℕ) → length b ≡ 512 → drop 508 b ≡ get_or b 508 0 ∷ get_or b 509 0 ∷ get_or b 510 0 ∷ get_or b 511 0 ∷ []
last_four b l =
    drop_more b 508 0 (omega arith) ∙ ap (λ r. get_or b 508 0 ∷ r)
    (drop_more b 509 0 (omega arith) ∙ ap (λ r. get_or b 509 0 ∷ r)
    (drop_more b 510 0 (omega arith) ∙ ap (λ r. get_or b 510 0 ∷ r)
    (drop_more b 511 0 (omega arith) ∙ ap (λ r. get_or b 511 0 ∷ r) (drop_all 512 b (omega arith)))))

pub two_of : (a b n : ℕ) → b < 256 → n ≡ a * 256 + b → two n ≡ a ∷ b ∷ []
two_of a b n l e = let p : n / 256 ≡ a = omega arith in let q : n % 256 ≡ b = omega arith in (λ i. p i ∷ q i ∷ [])

four_of : (a b c d n : ℕ) → b < 256 → c < 256 → d < 256 → n ≡ ((a * 256 + b) * 256 + c) * 256 + d → four n ≡ a ∷ b ∷ c ∷ d ∷ []
four_of a b c d n x y z e =
    let p : n / 16777216 ≡ a = omega arith in
    let q : n / 65536 % 256 ≡ b = omega arith in
    let r : n / 256 % 256 ≡ c = omega arith in
    let s : n % 256 ≡ d = omega arith in
    (λ i. p i ∷ q i ∷ r i ∷ s i ∷ [])

module _ (b : List ℕ) (whole : length b ≡ 512) (bytes : Bytes b) (fits : padded b ≡ true) where
  short : payload_length b ≤ 502
  short = leb-true (payload_length b) 502 (and_parts (leb (payload_length b) 502) (blank (padding b)) fits).0

  pub length_payload : length (payload b) ≡ payload_length b
  length_payload = length-take-le (payload_length b) (drop 6 b) (simp length-drop (omega (arith, short)))

  zeros : padding b ≡ replicate (502 - payload_length b) 0
  zeros =
      let l : length (padding b) ≡ 502 - payload_length b = simp (length-drop, length-take) (omega (arith, short)) in
      blank_zeros (padding b) (and_parts (leb (payload_length b) 502) (blank (padding b)) fits).1 ∙ ap (λ n. replicate n 0) l

  -- the payload and the zeros after it
  inner : take 502 (drop 6 b) ≡ payload b ++ replicate (502 - length (payload b)) 0
  inner =
      let l = payload_length b in
      let e : take l (take 502 (drop 6 b)) ≡ payload b = take-take l 502 (drop 6 b) short in
      let f : drop l (take 502 (drop 6 b)) ≡ padding b = ap (drop l) (sym (drop-take 6 502 b)) ∙ drop-drop l 6 (take 508 b) in
      sym (take-append-drop l (take 502 (drop 6 b)))
      ∙ ap (λ x. x ++ drop l (take 502 (drop 6 b))) e
      ∙ ap (λ x. payload b ++ x) (f ∙ zeros ∙ ap (λ n. replicate (502 - n) 0) (sym length_payload))

  pub body_of : take 508 b ≡ body (letter b) (kind_number b) (number b) (payload b)
  body_of =
      ap (take 508) (six b (omega arith))
      ∙ ap (λ r. get_or b 0 0 ∷ get_or b 1 0 ∷ get_or b 2 0 ∷ get_or b 3 0 ∷ get_or b 4 0 ∷ get_or b 5 0 ∷ r) inner
      ∙ (λ i. letter b ∷ kind_number b ∷ sym (two_of (get_or b 2 0) (get_or b 3 0) (number b) (bytes 3) refl) i ++ sym (two_of (get_or b 4 0) (get_or b 5 0) (length (payload b)) (bytes 5) length_payload) i ++ payload b ++ replicate (502 - length (payload b)) 0)

  pub bytes_of_fields : sound b ≡ true → b ≡ block_bytes (letter b) (kind_number b) (number b) (payload b)
  bytes_of_fields s =
      let c = eqb-true (stored_check b) (weighted 1 (take 508 b)) s in
      sym (take-append-drop 508 b)
      ∙ ap (λ x. x ++ drop 508 b) body_of
      ∙ ap (λ x. body (letter b) (kind_number b) (number b) (payload b) ++ x)
      (last_four b whole
      ∙ sym (four_of (get_or b 508 0) (get_or b 509 0) (get_or b 510 0) (get_or b 511 0) (weighted 1 (take 508 b)) (bytes 509) (bytes 510) (bytes 511) (sym c))
      ∙ ap (λ x. four (weighted 1 x)) body_of)

-- four bytes write the number again
four_back : (w : ℕ) → ((w / 16777216 * 256 + w / 65536 % 256) * 256 + w / 256 % 256) * 256 + w % 256 ≡ w
four_back w =
    let a : w / 65536 ≡ w / 256 / 256 = omega arith in
    let b : w / 16777216 ≡ w / 65536 / 256 = omega arith in
    let c : w ≡ w / 256 * 256 + w % 256 = omega arith in
    let d : w / 256 ≡ w / 65536 * 256 + w / 256 % 256 = omega arith in
    let e : w / 65536 ≡ w / 16777216 * 256 + w / 65536 % 256 = omega arith in
    omega arith

-- the fields of a block, from its bytes as they are written
module _ (l k n : ℕ) (p : List ℕ) (fits : length p ≤ 502) where
  pub length_body : length (body l k n p) ≡ 508
  length_body = let e = length-append p (replicate (502 - length p) 0) in let f = length-replicate {A = ℕ} (502 - length p) 0 in omega (arith, e, f)

  pub length_block : length (block_bytes l k n p) ≡ 512
  length_block = length-append (body l k n p) (four (weighted 1 (body l k n p))) ∙ ap (λ m. m + 4) length_body

  pub number_is : number (block_bytes l k n p) ≡ n
  number_is = omega arith

  pub payload_length_is : payload_length (block_bytes l k n p) ≡ length p
  payload_length_is = omega arith

  pub payload_is : payload (block_bytes l k n p) ≡ p
  payload_is =
      ap (λ m. take m (drop 6 (block_bytes l k n p))) payload_length_is
      ∙ ap (take (length p)) (append_assoc p (replicate (502 - length p) 0) (four (weighted 1 (body l k n p))))
      ∙ take_at p (replicate (502 - length p) 0 ++ four (weighted 1 (body l k n p))) (length p) refl

  body_is : take 508 (block_bytes l k n p) ≡ body l k n p
  body_is = take_at (body l k n p) (four (weighted 1 (body l k n p))) 508 length_body

  pub padded_is : padded (block_bytes l k n p) ≡ true
  padded_is =
      let e : padding (block_bytes l k n p) ≡ replicate (502 - length p) 0 =
      ap (λ m. drop (6 + m) (take 508 (block_bytes l k n p))) payload_length_is
      ∙ ap (drop (6 + length p)) body_is
      ∙ sym (drop-drop (length p) 6 (body l k n p))
      ∙ drop_at p (replicate (502 - length p) 0) (length p) refl in
      and_from (leb (payload_length (block_bytes l k n p)) 502) (blank (padding (block_bytes l k n p))) (le-leb (payload_length (block_bytes l k n p)) 502 (omega (arith, payload_length_is))) (ap blank e ∙ zeros_blank (502 - length p))

  last : (i : ℕ) → get_or (block_bytes l k n p) (508 + i) 0 ≡ get_or (four (weighted 1 (body l k n p))) i 0
  last i = get_or-append_right (body l k n p) (four (weighted 1 (body l k n p))) 508 (508 + i) 0 length_body (omega arith) ∙ ap (λ m. get_or (four (weighted 1 (body l k n p))) m 0) (let e : 508 + i - 508 ≡ i = omega arith in e)

  pub sound_is : sound (block_bytes l k n p) ≡ true
  sound_is =
      let w = weighted 1 (body l k n p) in
      let e : weighted 1 (take 508 (block_bytes l k n p)) ≡ w = ap (weighted 1) body_is in
      eq-eqb (stored_check (block_bytes l k n p)) (weighted 1 (take 508 (block_bytes l k n p))) (omega (arith, last 0, last 1, last 2, last 3, e, four_back w))
