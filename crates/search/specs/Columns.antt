-- The columns that memory spells.
use Rattle.std.specs.Prelude.{ℕ, zero, suc, List, [], ◌∷◌, take, drop}

-- so many columns of so many tracks, from symbols that stand column after column, track 1 first
abbrev pub columns_of : {X : Type 0} → ℕ → ℕ → List X → List (List X)
columns_of tracks zero cells = []
columns_of tracks (suc more) cells = take tracks cells ∷ columns_of tracks more (drop tracks cells)
