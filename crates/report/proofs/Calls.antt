-- What the calls on a score and its terms come to: filling from a book, setting the terms, and a question.
use Rattle.std.proofs.Common.{◌≡◌, ℕ, zero, suc, ◌-◌, ◌*◌, ◌/◌, ◌<◌, ◌≤◌, Bool, true, ◌&&◌, eqb, leb, ◌⊎◌, List, [], ◌∷◌, get_or, take, drop, Some, None, vec_items, Option, sym, refl, ap, ◌∙◌, subst, inl, inr, arith, eqb-true, le-leb, leb-true, MatchOption}
use Rattle.std.proofs.lemmas.List.{take_at}
use Rattle.std.proofs.lemmas.Bool.{cond-true, and_parts, cases_eq}
use Rattle.notation.specs.Kind.{Kind, Lawful as KindLaws}
use Rattle.notation.specs.declared.mode.Mode.{Mode}
use Rattle.notation.specs.declared.mode.Mode.TheVariants.{Untransposed, AnyTransposition}
use Rattle.book.specs.Describing.{refused_line}
use Rattle.book.specs.Refusals.{refusal, unless, then}
use Rattle.notation.specs.Modes.{mode_number}
use Rattle.slip.specs.Prices.{price_number}
use Rattle.slip.specs.Slips.{Inquiry, in_range, slip_refusal, asked as slip-asked}
use Rattle.book.specs.declared.refusal.Layer.TheVariants.{Limit}
use Rattle.book.specs.declared.refusal.Refusal.{Refusal}
use Rattle.slip.specs.declared.price_kind.PriceKind as slip
use Rattle.slip.specs.declared.price_kind.PriceKind.TheVariants.{Changes as at-changes-price, ChangesThenSilence as at-silence-price}
use Rattle.price.specs.Meanings.{changes_of, tally_of}
use Rattle.price.specs.Prices.{by_changes, by_changes_then_silence}
use Rattle.price.specs.Pricing.{Pricing}
use Rattle.price.specs.declared.changes.Changes.{Changes}
use Rattle.price.specs.declared.changes_then_silence.ChangesThenSilence.{ChangesThenSilence}
use Rattle.splitting.specs.Answer.{Answers, NoWay, meant}
use Rattle.splitting.specs.Minimum.{Fewest, Minimum}
use Rattle.splitting.specs.Score.{Question, Score}
use Rattle.splitting.specs.declared.Answer.{Answer}
use Rattle.splitting.specs.declared.Answer.TheVariants.{None as none, Found as found}
use Rattle.splitting.specs.declared.Piece.{Piece}
use Rattle.splitting.proofs.Minimum.{fewest_pieces}
use Rattle.search.specs.Questions.{question_refusal}
use Rattle.finder.specs.Edits.{book_columns}
use Rattle.finder.specs.Ledger.{Ledger, Command, fills, sets, asks, at_first, asked, leads_to, ledger_before, by_rule, granted}
use Rattle.finder.specs.Outcomes.{Prices, AnsweredAt, RightOutcome, blanks}
use Rattle.finder.specs.Promise.{Performed}
use Rattle.finder.specs.ScoreRules.{in_score, fill_refusal}
use Rattle.finder.specs.Trying.{prices_of}
use Rattle.finder.specs.declared.outcome.Outcome.{Outcome}
use Rattle.finder.specs.declared.outcome.Outcome.TheVariants.{NoCall, Refused, Done, Size, Transposed, First, Second}
use Rattle.finder.specs.declared.outcome.Performance.{Performance}
use Rattle.report.specs.Outcomes.{kind_at, refused_by, first_of, answer_text, outcome_text, text_by}
use Rattle.report.specs.Reports.{mode_of, question_of, asking_refusal, FoundTold, AnswerTold, InquiryTold, PartsTold, Poses}
use Rattle.report.specs.Tracks.{room_for}
use Rattle.report.specs.Wording.{none_line, found_text}

-- what passes a test at each number below another
abbrev every : (ℕ → Bool) → ℕ → Bool
every test zero = true
every test (suc n) = test n && every test n

every_one : (test : ℕ → Bool) (n i : ℕ) → every test n ≡ true → i < n → test i ≡ true
every_one test zero i e h = absurd (omega arith)
every_one test (suc n) i e h =
    let parts = and_parts (test n) (every test n) e in
    elim (cases_eq i n) [ inl s ↦ ap test s ∙ parts.0 | inr other ↦ every_one test n i parts.1 (omega arith) ]

-- the columns that fit 4,096 symbols of 1 to 16 tracks are the memory of a score with that capacity
abbrev fitting : ℕ → Bool
fitting i = in_score (suc i) (room_for (suc i) * suc i) && eqb (room_for (suc i) * suc i / suc i) (room_for (suc i))

all_fit : every fitting 16 ≡ true
all_fit = refl

pub fits : (t : ℕ) → 1 ≤ t → t ≤ 16 → (in_score t (room_for t * t) ≡ true) × (room_for t * t / t ≡ room_for t)
fits t low high =
    let same : suc (t - 1) ≡ t = omega arith in
    let h = and_parts (in_score (suc (t - 1)) (room_for (suc (t - 1)) * suc (t - 1))) (eqb (room_for (suc (t - 1)) * suc (t - 1) / suc (t - 1)) (room_for (suc (t - 1)))) (every_one fitting 16 (t - 1) all_fit (omega arith)) in
    subst (λ (n : ℕ). (in_score n (room_for n * n) ≡ true) × (room_for n * n / n ≡ room_for n)) same (h.0, eqb-true (room_for (suc (t - 1)) * suc (t - 1) / suc (t - 1)) (room_for (suc (t - 1))) h.1)

-- the ledger of a score so made
abbrev made : (tracks : ℕ) → Ledger
made t = record { tracks = t; capacity = room_for t; columns = []; limit = 0; mode = Untransposed; stack = [] }

pub as_made : (t m : ℕ) → 1 ≤ t → t ≤ 16 → m ≡ room_for t * t → at_first t m ≡ made t
as_made t m low high e =
    let h = fits t low high in
    ap (at_first t) e ∙ cond-true (in_score t (room_for t * t)) (record { tracks = t; capacity = room_for t * t / t; columns = []; limit = 0; mode = Untransposed; stack = [] }) (record { tracks = 1; capacity = 0; columns = []; limit = 0; mode = Untransposed; stack = [] }) h.0 ∙ (λ j. record { tracks = t; capacity = h.1 j; columns = []; limit = 0; mode = Untransposed; stack = [] })

-- the refusal of a call that is granted or refused by a rule
by_outcome : {S P R : Type 0} (rule : Option Refusal) (o : Outcome S P R) → MatchOption rule (o ≡ Done) (λ r. o ≡ Refused r) → refused_by o ≡ rule
by_outcome None o e = ap refused_by e
by_outcome (Some r) o e = ap refused_by e

-- an answer told rightly, at a price at which the fewest pieces are told
told_at : {P : Type 0} (m : Pricing) (means : P → m.Meaning) → Fewest m → (ask : Question) → KindLaws ask.kind → (a : Answer P) (before list : List Piece) (text : List ℕ) → Answers ask m (meant means a) before list → text ≡ answer_text ask.score a list → (NoWay ask × (text ≡ none_line)) ⊎ FoundTold ask m text
told_at m means few ask laws none before list text h e = inl (h.0, e)
told_at m means few ask laws (found f) before list text h e =
    let front : take f.count list ≡ h.pieces = ap (take f.count) h.list_is ∙ take_at h.pieces (drop f.count before) f.count (sym h.count_is) in
    inr (record {
      found = record { price = means f.price; count = f.count; shift = f.shift; place = f.place };
      before = before;
      after = list;
      right = h;
      text_is = e ∙ ap (found_text ask.score f.shift) front;
      fewest = subst (Minimum ask) h.count_is (few ask laws (record { price = means f.price; count = f.count; shift = f.shift; place = f.place }) before list h);
    })

abbrev pub two_prices : Prices Changes ChangesThenSilence
two_prices = prices_of by_changes changes_of by_changes_then_silence tally_of

module _ {S : Type 0} (ask : Question) (laws : KindLaws ask.kind) (room : ℕ) (text : List ℕ) where
  given : (p : slip.PriceKind) (o : Outcome S Changes ChangesThenSilence) → AnsweredAt two_prices ask room (kind_at p) o → text ≡ outcome_text ask.score o → AnswerTold ask (price_number p) text
  given p NoCall h e = absurd h
  given p (Refused r) h e = absurd h
  given p Done h e = absurd h
  given p (Size n) h e = absurd h
  given p (Transposed v) h e = absurd h
  given at-changes-price (First t) h e = told_at by_changes changes_of fewest_pieces.at_changes ask laws t.answer (blanks room) (vec_items t.list) text h.1 e
  given at-silence-price (First t) h e = let x = h.0 in let z : ◌≡◌ {A = ℕ} 0 1 = cc in absurd (omega arith)
  given at-changes-price (Second t) h e = let x = h.0 in let z : ◌≡◌ {A = ℕ} 0 1 = cc in absurd (omega arith)
  given at-silence-price (Second t) h e = told_at by_changes_then_silence tally_of fewest_pieces.at_changes_then_silence ask laws t.answer (blanks room) (vec_items t.list) text h.1 e

  -- by the question's rule
  ruled : (rule : Option Refusal) (p : slip.PriceKind) (o : Outcome S Changes ChangesThenSilence) → MatchOption rule (AnsweredAt two_prices ask room (kind_at p) o) (λ r. o ≡ Refused r) → text ≡ outcome_text ask.score o → MatchOption rule (AnswerTold ask (price_number p) text) (λ r. text ≡ refused_line r)
  ruled None p o h e = given p o h e
  ruled (Some r) p o h e = e ∙ ap (outcome_text ask.score) h

  -- and by that of the filling before it
  filled : (fill rule : Option Refusal) (p : slip.PriceKind) (o : Outcome S Changes ChangesThenSilence) → (fill ≡ None → MatchOption rule (AnsweredAt two_prices ask room (kind_at p) o) (λ r. o ≡ Refused r)) → text ≡ text_by ask.score fill o → MatchOption (then fill rule) (AnswerTold ask (price_number p) text) (λ r. text ≡ refused_line r)
  filled None rule p o h e = ruled rule p o (h refl) e
  filled (Some r) rule p o h e = e

mode_back : (mode : Mode) → mode ≡ mode_of (mode_number mode)
mode_back Untransposed = refl
mode_back AnyTransposition = refl

-- what a slip's fields pose, at a limit in range
module _ {S : Type 0} (k : Kind) (laws : KindLaws k) (byte : S → ℕ) (t m : ℕ) (low : 1 ≤ t) (high : t ≤ 16) (memory : m ≡ room_for t * t) (book : List ℕ) (r : Performance S Changes ChangesThenSilence) where
  -- filling is refused by its rule
  pub filling : (others : List Command) → Performed k byte two_prices t m (fills book ∷ others) r → refused_by (get_or (vec_items r.outcomes) 0 NoCall) ≡ fill_refusal k t (room_for t) book
  filling others done =
      let right : RightOutcome k byte two_prices (made t) (fills book) (get_or (vec_items r.outcomes) 0 NoCall) = subst (λ (l : Ledger). RightOutcome k byte two_prices l (fills book) (get_or (vec_items r.outcomes) 0 NoCall)) (as_made t m low high memory) (done.each 0 (omega arith)) in
      by_outcome (fill_refusal k t (room_for t) book) (get_or (vec_items r.outcomes) 0 NoCall) right

  -- the ledger that the question meets after a filling that was granted
  abbrev set_up : (limit : ℕ) → Mode → Ledger
  set_up limit mode = record { tracks = t; capacity = room_for t; columns = book_columns book; limit = limit; mode = mode; stack = [] }

  led : (limit : ℕ) (mode : Mode) → limit ≤ 4095 → fill_refusal k t (room_for t) book ≡ None → leads_to k (leads_to k (made t) (fills book)) (sets limit mode) ≡ set_up limit mode
  led limit mode small kept =
      let filled-up : leads_to k (made t) (fills book) ≡ record { tracks = t; capacity = room_for t; columns = book_columns book; limit = 0; mode = Untransposed; stack = [] } = ap (λ (x : Option Refusal). by_rule x (made t) (granted (made t) (fills book))) kept in
      ap (λ (l : Ledger). leads_to k l (sets limit mode)) filled-up ∙ ap (λ (b : Bool). by_rule (unless b (refusal 16 limit Limit) None) (set_up 0 Untransposed) (set_up limit mode)) (le-leb limit 4095 small)

  pub asking : (limit : ℕ) (mode : Mode) (p : slip.PriceKind) (query text : List ℕ) (q : Inquiry) → Poses limit mode p query q →
      Performed k byte two_prices t m (fills book ∷ sets limit mode ∷ asks query (record { list = 64; prices = 4096; window = 4096; steps = 4096 }) (kind_at p) ∷ []) r →
      ((score : Score) → text ≡ text_by score (refused_by (get_or (vec_items r.outcomes) 0 NoCall)) (get_or (vec_items r.outcomes) 2 NoCall)) →
      InquiryTold k t book q text
  asking limit mode p query text q poses done told =
      let rest = sets limit mode ∷ asks query (record { list = 64; prices = 4096; window = 4096; steps = 4096 }) (kind_at p) ∷ [] in
      let o = get_or (vec_items r.outcomes) 2 NoCall in
      let ask = question_of k book q in
      let fill = fill_refusal k t (room_for t) book in
      let same : asked k (set_up limit mode) query ≡ ask = λ j. record { kind = k; score = book_columns book; limit = poses.limit_is j; mode = (mode_back mode ∙ ap mode_of poses.mode_is) j; query = poses.query_is j } in
      let met : fill ≡ None → ledger_before k t m (fills book ∷ rest) 2 ≡ set_up limit mode = λ kept. ap (λ (l : Ledger). leads_to k (leads_to k l (fills book)) (sets limit mode)) (as_made t m low high memory) ∙ led limit mode poses.small kept in
      let right : fill ≡ None → MatchOption (asking_refusal k book q) (AnsweredAt two_prices ask 64 (kind_at p) o) (λ x. o ≡ Refused x) = λ kept.
      subst (λ (a : Question). MatchOption (question_refusal a 64 4096 4096 4096) (AnsweredAt two_prices a 64 (kind_at p) o) (λ x. o ≡ Refused x)) same
      (subst (λ (l : Ledger). RightOutcome k byte two_prices l (asks query (record { list = 64; prices = 4096; window = 4096; steps = 4096 }) (kind_at p)) o) (met kept) (done.each 2 (omega arith))) in
      let text_is : text ≡ text_by ask.score fill o = told ask.score ∙ ap (λ (x : Option Refusal). text_by ask.score x o) (filling rest done) in
      subst (λ (n : ℕ). MatchOption (then fill (asking_refusal k book q)) (AnswerTold ask n text) (λ x. text ≡ refused_line x)) poses.price_is (filled {S = S} ask laws 64 text fill (asking_refusal k book q) p o right text_is)

-- the limit of an inquiry in range
pub limit_small : (limit mode price notes : ℕ) → in_range limit mode price notes ≡ true → limit ≤ 4095
limit_small limit mode price notes e =
    let front = (and_parts (leb limit 4095 && leb mode 1 && (leb 1 price && leb price 2)) (leb 1 notes && leb notes 64) e).0 in
    let fields = (and_parts (leb limit 4095 && leb mode 1) (leb 1 price && leb price 2) front).0 in
    leb-true limit 4095 (and_parts (leb limit 4095) (leb mode 1) fields).0

-- a slip between the filling and the question: granted, and refused
after_slip : (fill slip rule : Option Refusal) (A : Type 0) (text : List ℕ) → slip ≡ None → MatchOption (then fill rule) A (λ r. text ≡ refused_line r) → MatchOption (then fill (then slip rule)) A (λ r. text ≡ refused_line r)
after_slip fill slip rule A text kept h = subst (λ (x : Option Refusal). MatchOption (then fill (then x rule)) A (λ r. text ≡ refused_line r)) (sym kept) h

at_slip : (fill slip rule : Option Refusal) (A : Type 0) (text : List ℕ) (r : Refusal) → slip ≡ Some r → text ≡ refused_line (first_of fill r) → MatchOption (then fill (then slip rule)) A (λ x. text ≡ refused_line x)
at_slip None slip rule A text r e h = subst (λ (x : Option Refusal). MatchOption (then x rule) A (λ y. text ≡ refused_line y)) (sym e) h
at_slip (Some q) slip rule A text r e h = h

pub slip_granted : (k : Kind) (t : ℕ) (book slip text : List ℕ) → slip_refusal k slip ≡ None → InquiryTold k t book (slip-asked slip) text → PartsTold k t book slip text
slip_granted k t book slip text kept h = after_slip (fill_refusal k t (room_for t) book) (slip_refusal k slip) (asking_refusal k book (slip-asked slip)) (AnswerTold (question_of k book (slip-asked slip)) (slip-asked slip).price text) text kept h

pub slip_refused : (k : Kind) (t : ℕ) (book slip text : List ℕ) (r : Refusal) → slip_refusal k slip ≡ Some r → text ≡ refused_line (first_of (fill_refusal k t (room_for t) book) r) → PartsTold k t book slip text
slip_refused k t book slip text r e h = at_slip (fill_refusal k t (room_for t) book) (slip_refusal k slip) (asking_refusal k book (slip-asked slip)) (AnswerTold (question_of k book (slip-asked slip)) (slip-asked slip).price text) text r e h
