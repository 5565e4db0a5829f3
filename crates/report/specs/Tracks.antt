-- The tracks that a book names, and memory for them.
use Rattle.std.specs.Prelude.{ℕ, ◌/◌, cond, ◌&&◌, nat_le}

-- a track count, or 1 in the place of an unlawful one
abbrev pub lawful_tracks : ℕ → ℕ
lawful_tracks n = cond (nat_le 1 n && nat_le n 16) n 1

-- of 4,096 symbols of memory a score takes as many whole columns as fit
abbrev pub room_for : (tracks : ℕ) → ℕ
room_for tracks = 4096 / tracks
