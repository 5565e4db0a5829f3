-- The three kinds of this repository, each settled once.
use Rattle.std.specs.Prelude.{ℕ, Bool, cond, ◌&&◌, ◌||◌, ℤ, pos, ◌-ℤ◌, Some, None, Option, ◌==◌, nat_lt}
use Rattle.std.specs.Int.{int_rem_euclid}
use Rattle.notation.specs.declared.Following.TheVariants.{Sum, SumModulo12, Zero}
use Rattle.notation.specs.Kind.{Kind}

-- what `tell` tells between two codes, and absence where either byte is none
abbrev pub between : (ℕ → Bool) → (ℕ → ℕ → Option ℤ) → ℕ → ℕ → Option ℤ
between code tell a b = cond (code a && code b) (tell a b) None

-- pitches, as semitones: codes 0 to 127, intervals from -127 to 127
abbrev pub pitch : Kind
pitch =
    record {
      number = 1;
      code = λ a. nat_lt a 128;
      interval = between (λ a. nat_lt a 128) (λ a b. Some (pos b -ℤ pos a));
      following = Sum;
    }

-- pitch classes, the twelve notes of the octave: codes 0 to 11, intervals from 0 to 11
abbrev pub pitch_class : Kind
pitch_class =
    record {
      number = 2;
      code = λ a. nat_lt a 12;
      interval = between (λ a. nat_lt a 12) (λ a b. Some (int_rem_euclid (pos b -ℤ pos a) (pos 12)));
      following = SumModulo12;
    }

-- strokes, which cannot be moved: codes 0 to 63, an interval only from a stroke to itself
abbrev pub stroke : Kind
stroke =
    record {
      number = 3;
      code = λ a. nat_lt a 64;
      interval = between (λ a. nat_lt a 64) (λ a b. cond (a == b) (Some (pos 0)) None);
      following = Zero;
    }

-- the numbers of the kinds above: books and slips of no other kind are read
abbrev pub known : ℕ → Bool
known n = n == 1 || n == 2 || n == 3
