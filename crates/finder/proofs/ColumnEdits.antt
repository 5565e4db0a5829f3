-- What changes of memory make of the columns in it.
use Rattle.std.proofs.Common.{◌≡◌, ℕ, zero, suc, ◌+◌, ◌-◌, ◌*◌, ◌<◌, ◌≤◌, true, List, [], ◌∷◌, ◌++◌, map, length, get_or, take, drop, set, sym, refl, ap, ◌∙◌, suc-mul, mul_comm, arith}
use Rattle.std.proofs.Math.Seq.{take-set-lt}
use Rattle.std.proofs.lemmas.Nat.{mul-le, mul-add-lt}
use Rattle.std.proofs.lemmas.List.{take-take, take_at, drop_at, drop-take, drop-drop, take-set-le, drop-set-lt, drop-set-add, length-take, length-map, take-map, map-append, map-set, get_or-map}
use Rattle.std.proofs.lemmas.Bool.{and_from, le-leb}
use Rattle.notation.specs.Kind.{rest}
use Rattle.book.specs.Reading.{has_place}
use Rattle.splitting.specs.Score.{symbol}
use Rattle.search.specs.Columns.{columns_of}
use Rattle.finder.specs.Edits.{appended, corrected}
use Rattle.search.proofs.Columns.{symbol_at}

-- columns lie in the front of memory
pub columns_front : {X : Type 0} (t n : ℕ) (cells : List X) → columns_of t n (take (n * t) cells) ≡ columns_of t n cells
columns_front t zero cells = refl
columns_front t (suc n) cells =
    let m : suc n * t ≡ t + n * t = omega (arith, suc-mul n t) in
    ap (λ i. columns_of t (suc n) (take i cells)) m
    ∙ (λ j. take-take t (t + n * t) cells (omega arith) j ∷ columns_of t n (drop-take t (n * t) cells j))
    ∙ ap (λ x. take t cells ∷ x) (columns_front t n (drop t cells))

-- so what follows them does not matter
pub columns_before : {X : Type 0} (t n : ℕ) (cells more : List X) → length cells ≡ n * t → columns_of t n (cells ++ more) ≡ columns_of t n cells
columns_before t n cells more l = sym (columns_front t n (cells ++ more)) ∙ ap (columns_of t n) (take_at cells more (n * t) l)

pub columns_more : {X : Type 0} (t n : ℕ) (cells : List X) → columns_of t (suc n) cells ≡ columns_of t n cells ++ take t (drop (n * t) cells) ∷ []
columns_more t zero cells = let e : 0 ≡ 0 * t = omega arith in ap (λ i. take t (drop i cells) ∷ []) e
columns_more t (suc n) cells =
    let m : t + n * t ≡ suc n * t = omega (arith, suc-mul n t) in
    ap (λ x. take t cells ∷ x)
    (columns_more t n (drop t cells) ∙ ap (λ x. columns_of t n (drop t cells) ++ take t x ∷ []) (drop-drop (n * t) t cells ∙ ap (λ i. drop i cells) m))

pub columns_kept : {X : Type 0} (t n kept : ℕ) (cells : List X) → kept ≤ n → columns_of t kept cells ≡ take kept (columns_of t n cells)
columns_kept t n zero cells l = refl
columns_kept t zero (suc kept) cells l = absurd (omega arith)
columns_kept t (suc n) (suc kept) cells l = ap (λ x. take t cells ∷ x) (columns_kept t n kept (drop t cells) (omega arith))

pub columns_set : {X : Type 0} (t n j i : ℕ) (cells : List X) (x : X) → j < n → i < t → columns_of t n (set cells (j * t + i) x) ≡ set (columns_of t n cells) j (set (get_or (columns_of t n cells) j []) i x)
columns_set t zero j i cells x l h = absurd (omega arith)
columns_set t (suc n) zero i cells x l h =
    let e : 0 * t + i ≡ i = omega arith in
    ap (λ k. columns_of t (suc n) (set cells k x)) e
    ∙ (λ k. take-set-lt t cells i x h k ∷ columns_of t n (drop-set-lt t cells i x h k))
columns_set t (suc n) (suc j) i cells x l h =
    let e : suc j * t + i ≡ t + (j * t + i) = omega (arith, suc-mul j t) in
    ap (λ k. columns_of t (suc n) (set cells k x)) e
    ∙ (λ k. take-set-le t cells (t + (j * t + i)) x (omega arith) k ∷ columns_of t n (drop-set-add t cells (j * t + i) x k))
    ∙ ap (λ z. take t cells ∷ z) (columns_set t n j i (drop t cells) x (omega arith) h)

-- a column written after the last
pub column_appended : {S : Type 0} (byte : S → ℕ) (t n n' from : ℕ) (cells cells' column : List S) → n' ≡ n + 1 → from ≡ n * t → length column ≡ t → from + length column ≤ length cells → cells' ≡ take from cells ++ (column ++ drop (from + length column) cells) → columns_of t n' (map byte cells') ≡ appended (columns_of t n (map byte cells)) (map byte column)
column_appended byte t n n' from cells cells' column e at l room written =
    let rest = drop (from + length column) cells in
    let front = map byte (take from cells) in
    let bytes = map byte column in
    let one : n' ≡ suc n = omega arith in
    let lf : length front ≡ n * t = omega (arith, length-map (take from cells) byte, length-take from cells) in
    let lb : length bytes ≡ t = omega (arith, length-map column byte) in
    let spelt : map byte cells' ≡ front ++ (bytes ++ map byte rest) = ap (map byte) written ∙ map-append byte (take from cells) (column ++ rest) ∙ ap (λ x. front ++ x) (map-append byte column rest) in
    let before : columns_of t n (front ++ (bytes ++ map byte rest)) ≡ columns_of t n (map byte cells) = columns_before t n front (bytes ++ map byte rest) lf ∙ ap (columns_of t n) (sym (take-map byte from cells) ∙ ap (λ i. take i (map byte cells)) at) ∙ columns_front t n (map byte cells) in
    let last : take t (drop (n * t) (front ++ (bytes ++ map byte rest))) ≡ bytes = ap (take t) (drop_at front (bytes ++ map byte rest) (n * t) lf) ∙ take_at bytes (map byte rest) t lb in
    (λ j. columns_of t (one j) (spelt j))
    ∙ columns_more t n (front ++ (bytes ++ map byte rest))
    ∙ (λ j. before j ++ last j ∷ [])

-- there is memory for one more column
pub room_for_one : (columns capacity tracks handed len : ℕ) → columns < capacity → handed ≡ tracks → capacity * tracks ≤ len → columns * handed + handed ≤ len
room_for_one columns capacity tracks handed len l e h = omega (arith, suc-mul columns handed, mul-le (suc columns) handed capacity tracks (omega arith) (omega arith))

-- a symbol in another's place
pub symbol_corrected : {S : Type 0} (byte : S → ℕ) (t n column track : ℕ) (cells : List S) (x : S) → 1 ≤ column → column ≤ n → 1 ≤ track → track ≤ t → columns_of t n (map byte (set cells ((column - 1) * t + (track - 1)) x)) ≡ corrected (columns_of t n (map byte cells)) column track (byte x)
symbol_corrected byte t n column track cells x c1 c2 t1 t2 =
    ap (columns_of t n) (map-set byte cells ((column - 1) * t + (track - 1)) x)
    ∙ columns_set t n (column - 1) (track - 1) (map byte cells) (byte x) (omega arith) (omega arith)

-- the symbol at a place, both counted from 1
pub symbol_read : {S : Type 0} (byte : S → ℕ) (t n column track : ℕ) (cells : List S) (x : S) → 1 ≤ column → column ≤ n → 1 ≤ track → track ≤ t → n * t ≤ length cells → x ≡ get_or cells ((column - 1) * t + (track - 1)) x → byte x ≡ symbol (columns_of t n (map byte cells)) column track
symbol_read byte t n zero track cells x c1 c2 t1 t2 room is = absurd (omega arith)
symbol_read byte t n (suc j) zero cells x c1 c2 t1 t2 room is = absurd (omega arith)
symbol_read byte t n (suc j) (suc i) cells x c1 c2 t1 t2 room is =
    let inside : (suc j - 1) * t + (suc i - 1) < length cells = omega (arith, mul-add-lt (suc j - 1) t (suc i - 1) n (omega arith) (omega arith), mul_comm t n) in
    let ej : suc j - 1 ≡ j = omega arith in
    let ei : suc i - 1 ≡ i = omega arith in
    ap byte is
    ∙ sym (get_or-map byte cells ((suc j - 1) * t + (suc i - 1)) x rest inside)
    ∙ (λ k. get_or (map byte cells) (ej k * t + ei k) rest)
    ∙ sym (symbol_at t n (map byte cells) j i (omega arith) (omega arith))

pub is_place : (tracks columns column track : ℕ) → 1 ≤ column → column ≤ columns → 1 ≤ track → track ≤ tracks → has_place tracks columns column track ≡ true
is_place tracks columns column track c1 c2 t1 t2 = and_from _ _ (and_from _ _ (and_from _ _ (le-leb 1 column c1) (le-leb column columns c2)) (le-leb 1 track t1)) (le-leb track tracks t2)
