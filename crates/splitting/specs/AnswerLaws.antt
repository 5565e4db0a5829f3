-- The laws of answers, of every lawful kind of symbols and every lawful price.
use Rattle.std.specs.Prelude.{◌≡◌, ℕ, ◌≤◌, T, List, ◌++◌, length, drop, ℤ}
use Rattle.notation.specs.Kind.{Kind, follow, Lawful as KindLaws}
use Rattle.price.specs.Pricing.{Pricing, Equal, Lawful as PriceLaws}
use Rattle.splitting.specs.declared.Answer.{Answer}
use Rattle.splitting.specs.declared.Answer.TheVariants.{None as none, Found as found}
use Rattle.notation.specs.declared.mode.Mode.TheVariants.{AnyTransposition}
use Rattle.splitting.specs.declared.Piece.{Piece}
use Rattle.splitting.specs.declared.Place.{Place}
use Rattle.splitting.specs.Score.{Score, Question, Transposed}
use Rattle.splitting.specs.Splitting.{price_of}
use Rattle.splitting.specs.Answer.{beginning, NotAfter, Way, Right, Answers}
use Rattle.splitting.specs.Rest.{Begins}
use Rattle.splitting.specs.Laws.{Covered, grown, asking}

-- both none, or equal prices, one place and one shift
abbrev pub Same : (m : Pricing) → Answer m.Meaning → Answer m.Meaning → Type 0
Same m none none = Unit {0}
Same m none (found g) = ⊥
Same m (found f) none = ⊥
Same m (found f) (found g) = Equal m f.price g.price × (f.place ≡ g.place) × (f.shift ≡ g.shift)

-- two answers to one question are the same
abbrev pub AnswersUnique : Pricing → Type 0
AnswersUnique m = PriceLaws m → (ask : Question) → Covered ask → (x y : Answer m.Meaning) (before after before' after' : List Piece) → Answers ask m x before after → Answers ask m y before' after' → Same m x y

-- what the first finds the second finds, at a price not above
abbrev pub NoDearer : (m : Pricing) → Answer m.Meaning → Answer m.Meaning → Type 0
NoDearer m none y = Unit {0}
NoDearer m (found f) none = ⊥
NoDearer m (found f) (found g) = T (m.not_above g.price f.price)

-- appending columns and raising the limit are harmless
abbrev pub GrowthHarmless : Pricing → Type 0
GrowthHarmless m = PriceLaws m → (ask : Question) (more : Score) (limit : ℕ) → Covered (grown ask more limit) → ask.limit ≤ limit → (x y : Answer m.Meaning) (before after before' after' : List Piece) → Answers ask m x before after → Answers (grown ask more limit) m y before' after' → NoDearer m x y

-- both none, or equal prices, one place, and d followed by the second's shift is the first's
abbrev pub Moved : (m : Pricing) → Kind → ℤ → Answer m.Meaning → Answer m.Meaning → Type 0
Moved m k d none none = Unit {0}
Moved m k d none (found g) = ⊥
Moved m k d (found f) none = ⊥
Moved m k d (found f) (found g) = Equal m f.price g.price × (f.place ≡ g.place) × (follow k.following d g.shift ≡ f.shift)

-- under any transposition a query and that query transposed by d, of which there is one, are found alike
pub record TransposedAlike (m : Pricing) : Type 0 where
  pub alike : PriceLaws m → (ask : Question) → Covered ask → ask.mode ≡ AnyTransposition → (d : ℤ) (query : List ℕ) → Transposed ask.kind d ask.query query → (x y : Answer m.Meaning) (before after before' after' : List Piece) → Answers ask m x before after → Answers (asking ask query) m y before' after' → Moved m ask.kind d x y
  pub once : (k : Kind) → KindLaws k → (d : ℤ) (query query' query'' : List ℕ) → Transposed k d query query' → Transposed k d query query'' → query' ≡ query''

-- ways are found from the rests of the first note
pub record FromRests (m : Pricing) (ask : Question) : Type 0 where
  -- each way begins with such a rest, and each such rest is that of a way, at the same price
  pub rest_of_way : (c : ℤ) (ps : List Piece) → Way ask c ps → Begins m ask (beginning ps) (price_of m ask.score ps)
  pub way_of_rest : (x : Place) (a : m.Meaning) → Begins m ask x a → (c : ℤ) × (ps : List Piece) × Way ask c ps × (beginning ps ≡ x) × (price_of m ask.score ps ≡ a)
  -- a way than which no rest costs less, and none of its price begins earlier, is told rightly
  pub told_rightly : (c : ℤ) (ps : List Piece) → Way ask c ps → ((x : Place) (b : m.Meaning) → Begins m ask x b → T (m.not_above (price_of m ask.score ps) b)) → ((x : Place) (b : m.Meaning) → Begins m ask x b → T (m.not_above b (price_of m ask.score ps)) → NotAfter (beginning ps) x) → (before : List Piece) → length ps ≤ length before → Right ask m (record { price = price_of m ask.score ps; count = length ps; shift = c; place = beginning ps }) before (ps ++ drop (length ps) before)

abbrev pub AnswersFromRests : Pricing → Type 0
AnswersFromRests m = PriceLaws m → (ask : Question) → Covered ask → FromRests m ask
