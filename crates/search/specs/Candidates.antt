-- The best rest of a query over candidate transpositions, which lead from the first note to a byte.
use Rattle.std.specs.Prelude.{◌≡◌, ℕ, ◌<◌, ◌≤◌, Bool, true, false, T, List, length, ℤ, Some, None, count_by, Option, nat_eq}
use Rattle.notation.specs.Kind.{Kind}
use Rattle.notation.specs.declared.mode.Mode.{Mode}
use Rattle.price.specs.Pricing.{Pricing}
use Rattle.splitting.specs.Score.{Question, Admits, note}
use Rattle.splitting.specs.Rest.{Rest, Begins}
use Rattle.splitting.specs.Answer.{NotAfter}
use Rattle.splitting.specs.declared.Place.{Place}
use Rattle.search.specs.Rows.{column_of, track_of}
use Rattle.search.specs.Resting.{Posed, Wanted, RowsRight, row_of}
use Rattle.search.specs.Topmost.{place_at}
use Rattle.search.specs.Workspace.{workspace}
use Rattle.search.specs.Sheets.{Room}
use Rattle.search.specs.declared.sheets.Sheets.{Sheets}
use Rattle.search.specs.declared.candidates.Choice.{Choice}

-- a question about a score, with its kind of symbols, its mode, its limit and its query
pub record Asked (ask : Question) (bytes : List ℕ) (tracks : ℕ) (kind : Kind) (mode : Mode) (limit : ℕ) (query : List ℕ) : Type 0 where
  pub posed : Posed ask bytes tracks
  pub kind_is : ask.kind ≡ kind
  pub mode_is : ask.mode ≡ mode
  pub limit_is : ask.limit ≡ limit
  pub query_is : ask.query ≡ query

-- a transposition that the mode admits, from the first note to a byte that the score holds
pub record Candidate (kind : Kind) (mode : Mode) (bytes : List ℕ) (first b : ℕ) (by : ℤ) : Type 0 where
  pub leads : kind.interval first b ≡ Some by
  pub admitted : Admits mode by
  pub held : 0 < count_by (nat_eq b) bytes

-- the candidate that leads to a byte, or absence where there is none
abbrev pub CandidateTo : Kind → Mode → List ℕ → ℕ → ℕ → Option ℤ → Type 0
CandidateTo kind mode bytes first b None = (c : ℤ) → Candidate kind mode bytes first b c → ⊥
CandidateTo kind mode bytes first b (Some by) = Candidate kind mode bytes first b by

-- a choice, if there is one, is under a candidate that leads to a byte
abbrev pub UnderCandidate : {P : Type 0} → Kind → Mode → List ℕ → ℕ → Option (Choice P) → Type 0
UnderCandidate kind mode bytes first None = Unit {0}
UnderCandidate kind mode bytes first (Some o) = (b : ℕ) × Candidate kind mode bytes first b o.shift

-- a list of a byte for each note of a query, and sheets with room for the rows under each candidate
pub record Ready {P : Type 0} (kind : Kind) (mode : Mode) (bytes query : List ℕ) (want : ℕ) (sheets : Sheets P) : Type 0 where
  pub as_long : want ≡ length query
  pub room : Room (workspace kind mode bytes query) sheets

-- a choice costs no more than another, and lies at no later place if the other costs no more either
pub record First {P : Type 0} (m : Pricing) (meaning : P → m.Meaning) (x y : Choice P) : Type 0 where
  pub cheap : T (m.not_above (meaning x.price) (meaning y.price))
  pub early : T (m.not_above (meaning y.price) (meaning x.price)) → x.place ≤ y.place

-- which of two choices comes first
abbrev pub Decided : {P : Type 0} (m : Pricing) → (P → m.Meaning) → Choice P → Choice P → Bool → Type 0
Decided m meaning x y true = First m meaning x y
Decided m meaning x y false = First m meaning y x

-- a transposition leads from the first note to a byte from low on and below high
pub record Leads (ask : Question) (low high : ℕ) (c : ℤ) : Type 0 where
  pub byte : ℕ
  pub from : low ≤ byte
  pub below : byte < high
  pub at : ask.kind.interval (note ask.query 1) byte ≡ Some c

module _ {P : Type 0} (m : Pricing) (meaning : P → m.Meaning) (ask : Question) (tracks : ℕ) where
  -- a rest of the whole query at the place, the price and the transposition told, which the mode admits
  pub record Stands (o : Choice P) : Type 0 where
    pub admitted : Admits ask.mode o.shift
    pub rest_is : Rest m ask o.shift 1 (column_of tracks o.place) (track_of tracks o.place) (meaning o.price)

  -- than which none under a transposition to these bytes costs less, and none of that price begins in an earlier
  -- column, nor on a lower track of that column
  pub record BestAmong (low high : ℕ) (o : Choice P) : Type 0 where
    pub stands : Stands o
    pub least : (c : ℤ) (x : Place) (a : m.Meaning) → Leads ask low high c → Admits ask.mode c → Rest m ask c 1 x.column x.track a → T (m.not_above (meaning o.price) a)
    pub earliest : (c : ℤ) (x : Place) (a : m.Meaning) → Leads ask low high c → Admits ask.mode c → Rest m ask c 1 x.column x.track a → T (m.not_above a (meaning o.price)) → NotAfter (place_at tracks o.place) x

  -- the best rest under the transpositions to these bytes, or absence where there is none
  abbrev pub Among : ℕ → ℕ → Option (Choice P) → Type 0
  Among low high None = (c : ℤ) (x : Place) (a : m.Meaning) → Leads ask low high c → Admits ask.mode c → Rest m ask c 1 x.column x.track a → ⊥
  Among low high (Some o) = BestAmong low high o

  -- a rest of the whole query, than which none costs less wherever it begins, and none of that price begins in an
  -- earlier column, nor on a lower track of that column
  pub record BestOfAll (o : Choice P) : Type 0 where
    pub stands : Stands o
    pub least : (x : Place) (a : m.Meaning) → Begins m ask x a → T (m.not_above (meaning o.price) a)
    pub earliest : (x : Place) (a : m.Meaning) → Begins m ask x a → T (m.not_above a (meaning o.price)) → NotAfter (place_at tracks o.place) x

  -- the best rest of the query, or absence where it can be found nowhere
  abbrev pub OfAll : Option (Choice P) → Type 0
  OfAll None = (x : Place) (a : m.Meaning) → Begins m ask x a → ⊥
  OfAll (Some o) = BestOfAll o

  -- the best rest of the query, with the rows under its transposition, in the first of which its price stands
  pub record Settled (bytes : List ℕ) (limit : ℕ) (want : List ℕ) (prices : List (Option P)) (steps : List ℕ) (o : Choice P) : Type 0 where
    pub best : BestOfAll o
    pub row_is : row_of bytes want prices 0 o.place ≡ Some o.price
    pub wanted : Wanted ask o.shift want
    pub rows : RowsRight m meaning bytes tracks limit want prices steps 0

  -- or absence where the query can be found nowhere
  abbrev pub Settles : List ℕ → ℕ → List ℕ → List (Option P) → List ℕ → Option (Choice P) → Type 0
  Settles bytes limit want prices steps None = OfAll None
  Settles bytes limit want prices steps (Some o) = Settled bytes limit want prices steps o
