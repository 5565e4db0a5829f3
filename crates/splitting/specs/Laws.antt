-- The laws of gaps and splittings, of every lawful kind of symbols and every lawful price.
use Rattle.std.specs.Prelude.{◌≡◌, ℕ, suc, ◌+◌, ◌-◌, ◌<◌, ◌≤◌, T, List, ◌∷◌, ◌++◌, length, ℤ, Some, None, Option, slice_index}
use Rattle.notation.specs.Kind.{Told, follow, Lawful as KindLaws}
use Rattle.price.specs.Pricing.{Pricing, Lawful as PriceLaws}
use Rattle.splitting.specs.declared.Piece.{Piece}
use Rattle.splitting.specs.Score.{Score, Question, Matches, Sounding, Transposed}
use Rattle.splitting.specs.Splitting.{gap, Splits, gaps, price_of}
use Rattle.splitting.specs.Rest.{Rest, Cut, Least, lesser, Open}

-- what is used of gaps
pub record Gaps : Type 0 where
  -- a gap is at most the columns between
  pub at_most : (score : Score) (a b : ℕ) → gap score a b ≤ b - suc a
  -- it adds up by way of a column that sounds
  pub through : (score : Score) (a b d : ℕ) → a < b → b < d → Sounding score b → gap score a d ≡ gap score a b + 1 + gap score b d
  -- appended columns are in no gap before them
  pub appended : (score more : Score) (a b : ℕ) → b ≤ length score → gap (score ++ more) a b ≡ gap score a b

-- a splitting, and the rest of a query note by note, are two views of one thing with one price
pub record TwoViews (m : Pricing) : Type 0 where
  pub note_by_note : (ask : Question) (c : ℤ) (from : ℕ) (p : Piece) (ps : List Piece) → Splits ask c from (p ∷ ps) → Rest m ask c from p.column p.track (price_of m ask.score (p ∷ ps))
  pub piece_by_piece : (ask : Question) (c : ℤ) (i j t : ℕ) (a : m.Meaning) → Rest m ask c i j t a → Cut m ask c i j t a

-- the question after columns are appended and the limit is raised
abbrev pub grown : Question → Score → ℕ → Question
grown ask more limit = record { kind = ask.kind; score = ask.score ++ more; limit = limit; mode = ask.mode; query = ask.query }

-- the question with another query
abbrev pub asking : Question → List ℕ → Question
asking ask query = record { kind = ask.kind; score = ask.score; limit = ask.limit; mode = ask.mode; query = query }

-- what keeps a splitting: the pieces are the same
pub record Kept (m : Pricing) (ask : Question) : Type 0 where
  -- columns appended, the limit raised
  pub appended : (more : Score) (limit : ℕ) → ask.limit ≤ limit → (c : ℤ) (from : ℕ) (ps : List Piece) → Splits ask c from ps → Splits (grown ask more limit) c from ps
  pub appended_price : (more : Score) (c : ℤ) (from : ℕ) (ps : List Piece) → Splits ask c from ps → price_of m (ask.score ++ more) ps ≡ price_of m ask.score ps
  -- the query transposed by d: there is a c' with d followed by c' equal to c, and under it the
  -- transposed query is split
  pub transposed_shift : (d : ℤ) (query : List ℕ) → Transposed ask.kind d ask.query query → (c : ℤ) (from : ℕ) (ps : List Piece) → Splits ask c from ps → (c' : ℤ) × Told ask.kind c' × (follow ask.kind.following d c' ≡ c)
  pub transposed : (d : ℤ) (query : List ℕ) → Transposed ask.kind d ask.query query → (c c' : ℤ) → Told ask.kind c' → follow ask.kind.following d c' ≡ c → (from : ℕ) (ps : List Piece) → Splits ask c from ps → Splits (asking ask query) c' from ps
  -- and the other way round
  pub transposed_back : (d : ℤ) (query : List ℕ) → Transposed ask.kind d ask.query query → (c' : ℤ) (from : ℕ) (ps : List Piece) → Splits (asking ask query) c' from ps → Splits ask (follow ask.kind.following d c') from ps

abbrev pub SplittingsKept : Pricing → Type 0
SplittingsKept m = (ask : Question) → KindLaws ask.kind → Kept m ask

-- what the laws of prices are owed for: a lawful kind, at most 4,096 columns, and at most 64 notes
pub record Covered (ask : Question) : Type 0 where
  pub kind_laws : KindLaws ask.kind
  pub few : length ask.score ≤ 4096
  pub short : length ask.query ≤ 64

-- so they apply to the gaps and the price of every splitting
pub record Bounded (m : Pricing) (ask : Question) : Type 0 where
  pub gaps_small : (c : ℤ) (from : ℕ) (ps : List Piece) → Splits ask c from ps → (n : ℕ) → slice_index (gaps ask.score ps) n ≤ 4094
  pub depth_small : (c : ℤ) (from : ℕ) (ps : List Piece) → Splits ask c from ps → m.depth (price_of m ask.score ps) ≤ 63

abbrev pub SplittingsBounded : Pricing → Type 0
SplittingsBounded m = PriceLaws m → (ask : Question) → Covered ask → Bounded m ask

-- The least rest of a note from those of the next. Where the note does not match there is none; at the
-- last note there is nothing to pay; before it the least rest is the least of going on and of the
-- entries open.
pub record LeastRest (m : Pricing) (ask : Question) (c : ℤ) : Type 0 where
  pub unmatched : (i j t : ℕ) → (Matches ask c i j t → ⊥) → Least m (Rest m ask c i j t) None
  pub last_note : (j t : ℕ) → Matches ask c (length ask.query) j t → Least m (Rest m ask c (length ask.query) j t) (Some m.nothing)
  pub earlier_note : (i j t : ℕ) → Matches ask c i j t → i < length ask.query → (entry : ℕ → ℕ → Option m.Meaning) → ((j' t' : ℕ) → Least m (Rest m ask c (suc i) j' t') (entry j' t')) → (y : Option m.Meaning) → Least m (Open m ask entry j) y → Least m (Rest m ask c i j t) (lesser m (entry (suc j) t) y)

abbrev pub LeastRests : Pricing → Type 0
LeastRests m = PriceLaws m → (ask : Question) → Covered ask → (c : ℤ) → LeastRest m ask c

-- Where an entry in column x costs no more than one in column y, handed over to from a column j that
-- sounds, so it does from every earlier column i: what a window of entries relies on.
abbrev pub Farther : Pricing → Type 0
Farther m = PriceLaws m → (score : Score) → length score ≤ 4096 → (a b : m.Meaning) → m.depth a ≤ 62 → m.depth b ≤ 62 → (i j x y : ℕ) → 0 < i → i < j → j < x → j < y → x ≤ length score → y ≤ length score → Sounding score j → T (m.not_above (m.charged a (gap score j x)) (m.charged b (gap score j y))) → T (m.not_above (m.charged a (gap score i x)) (m.charged b (gap score i y)))
