-- Columns in memory: the symbol at a place.
use Rattle.std.proofs.Common.{◌≡◌, ℕ, zero, suc, ◌+◌, ◌*◌, ◌<◌, ◌≤◌, List, [], ◌++◌, length, get_or, take, drop, sym, refl, ap, ◌∙◌, suc-mul, arith}
use Rattle.std.proofs.lemmas.List.{get_or-take, get_or-drop, get_or_past, length-take, length-drop, drop-drop, nil_from_length, take-append-drop}
use Rattle.notation.specs.Kind.{rest}
use Rattle.splitting.specs.Score.{symbol}
use Rattle.search.specs.Columns.{columns_of}
use Rattle.search.specs.Workspace.{symbols}

pub length_columns : {X : Type 0} (tracks n : ℕ) (cells : List X) → length (columns_of tracks n cells) ≡ n
length_columns tracks zero cells = refl
length_columns tracks (suc n) cells = ap suc (length_columns tracks n (drop tracks cells))

-- a column, and none past the last
pub column_at : {X : Type 0} (tracks n : ℕ) (cells : List X) (j : ℕ) → j < n → get_or (columns_of tracks n cells) j [] ≡ take tracks (drop (j * tracks) cells)
column_at tracks zero cells j l = absurd (omega arith)
column_at tracks (suc n) cells zero l = let e : 0 ≡ 0 * tracks = omega arith in ap (λ i. take tracks (drop i cells)) e
column_at tracks (suc n) cells (suc j) l =
    let e : tracks + j * tracks ≡ suc j * tracks = omega (arith, suc-mul j tracks) in
    column_at tracks n (drop tracks cells) j (omega arith) ∙ ap (take tracks) (drop-drop (j * tracks) tracks cells ∙ ap (λ i. drop i cells) e)

-- the symbol in column j + 1 of track t + 1
pub symbol_at : (tracks n : ℕ) (cells : List ℕ) (j t : ℕ) → j < n → t < tracks → symbol (columns_of tracks n cells) (suc j) (suc t) ≡ get_or cells (j * tracks + t) rest
symbol_at tracks n cells j t l k = ap (λ x. get_or x t rest) (column_at tracks n cells j l) ∙ get_or-take tracks (drop (j * tracks) cells) t rest k ∙ get_or-drop (j * tracks) cells t rest

-- outside there are rests
pub symbol_past_columns : (tracks n : ℕ) (cells : List ℕ) (j t : ℕ) → n ≤ j → symbol (columns_of tracks n cells) (suc j) (suc t) ≡ rest
symbol_past_columns tracks n cells j t l = ap (λ x. get_or x t rest) (get_or_past (columns_of tracks n cells) j [] (omega (arith, length_columns tracks n cells)))

pub symbol_past_tracks : (tracks n : ℕ) (cells : List ℕ) (j t : ℕ) → j < n → tracks ≤ t → symbol (columns_of tracks n cells) (suc j) (suc t) ≡ rest
symbol_past_tracks tracks n cells j t l k = ap (λ x. get_or x t rest) (column_at tracks n cells j l) ∙ get_or_past (take tracks (drop (j * tracks) cells)) t rest (omega (arith, length-take tracks (drop (j * tracks) cells)))

-- all symbols of the columns, one after another, are the memory again
pub symbols_of_columns : (tracks n : ℕ) (cells : List ℕ) → length cells ≡ n * tracks → symbols (columns_of tracks n cells) ≡ cells
symbols_of_columns tracks zero cells e = sym (nil_from_length cells (omega arith))
symbols_of_columns tracks (suc n) cells e =
    ap (λ z. take tracks cells ++ z) (symbols_of_columns tracks n (drop tracks cells) (omega (arith, length-drop tracks cells, suc-mul n tracks)))
    ∙ take-append-drop tracks cells
