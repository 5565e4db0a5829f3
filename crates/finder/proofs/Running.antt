-- A list of calls, call after call, and what holds of it at the end.
use Rattle.std.proofs.Common.{◌≡◌, ℕ, ◌+◌, ◌<◌, ◌≤◌, Bool, true, false, List, [], ◌∷◌, ◌++◌, length, get_or, take, Some, None, vec_items, MatchBool, Option, sym, refl, ap, ◌∙◌, subst, arith, below_more, MatchOption}
use Rattle.std.proofs.lemmas.List.{length_push, get_or_push, get_or_append_left, get_or_past}
use Rattle.std.proofs.lemmas.List.Sums.{fold_more}
use Rattle.notation.specs.Kind.{Kind, Lawful as KindLaws}
use Rattle.book.specs.declared.refusal.Refusal.{Refusal}
use Rattle.price.specs.Pricing.{Pricing, Lawful as PriceLaws}
use Rattle.splitting.specs.Answer.{Answers, meant}
use Rattle.splitting.specs.Laws.{Covered, grown, asking}
use Rattle.splitting.specs.Score.{Question}
use Rattle.splitting.specs.declared.Answer.{Answer}
use Rattle.splitting.specs.declared.Piece.{Piece}
use Rattle.splitting.proofs.AnswerLaws.{harmless, alike}
use Rattle.finder.specs.Ledger.{Ledger, Command, appends, corrects, cuts, fills, sets, begins, ends, sizes, transposes, asks, no_call, call_refusal, leads_to, at_first, after, asked}
use Rattle.finder.specs.Outcomes.{Prices, Gives, RightOutcome, blanks}
use Rattle.finder.specs.Promise.{query_of, first_answer, second_answer, Alike, Performed}
use Rattle.finder.specs.ScoreRules.{memory_refusal}
use Rattle.finder.specs.Trying.{Tried}
use Rattle.finder.specs.declared.outcome.Outcome.{Outcome}
use Rattle.finder.specs.declared.outcome.Outcome.TheVariants.{NoCall, Refused, Done, Size, Transposed as MovedTo, First, Second}
use Rattle.finder.specs.declared.outcome.Performance.{Performance}
use Rattle.finder.specs.declared.outcome.Told.{Told}
use Rattle.search.proofs.Asking.{granted}

-- i calls were tried: they led to this ledger, and each outcome is right for the ledger that its call met
pub record RunTo {S P R : Type 0} (k : Kind) (byte : S → ℕ) (prices : Prices P R) (start : Ledger) (calls : List Command) (i : ℕ) (ledger : Ledger) (outcomes : List (Outcome S P R)) : Type 0 where
  pub reached : ledger ≡ after k start (take i calls)
  pub as_many : length outcomes ≡ i
  pub each : (j : ℕ) → j < i → RightOutcome k byte prices (after k start (take j calls)) (get_or calls j ends) (get_or outcomes j NoCall)
  pub few : (j : ℕ) → j < i + 1 → length (after k start (take j calls)).columns ≤ 4096

module _ {S P R : Type 0} (k : Kind) (byte : S → ℕ) (prices : Prices P R) (start : Ledger) (calls : List Command) where
  pub run_none : (outcomes : List (Outcome S P R)) → outcomes ≡ [] → length start.columns ≤ 4096 → RunTo k byte prices start calls 0 start outcomes
  run_none outcomes none few =
      record {
        reached = refl;
        as_many = ap length none;
        each = λ j l. absurd (omega arith);
        few = λ j l. let z : j ≡ 0 = omega arith in subst (λ (i : ℕ). length (after k start (take i calls)).columns ≤ 4096) (sym z) few;
      }

  pub run_more : (i : ℕ) (ledger ledger' : Ledger) (outcomes outcomes' : List (Outcome S P R)) (o : Outcome S P R) → i < length calls → RunTo k byte prices start calls i ledger outcomes → Tried k byte prices ledger (get_or calls i ends) ledger' o → outcomes' ≡ outcomes ++ o ∷ [] → length ledger'.columns ≤ 4096 → RunTo k byte prices start calls (i + 1) ledger' outcomes'
  run_more i ledger ledger' outcomes outcomes' o l run t pushed few =
      let call = get_or calls i ends in
      let reached : ledger' ≡ after k start (take (i + 1) calls) = t.1 ∙ ap (λ (x : Ledger). leads_to k x call) run.reached ∙ sym (fold_more (leads_to k) start calls i ends l) in
      let right : ℕ → Type 0 = λ j. RightOutcome k byte prices (after k start (take j calls)) (get_or calls j ends) (get_or outcomes' j NoCall) in
      let before : (j : ℕ) → j < i → right j = λ j m.
      let same : get_or outcomes' j NoCall ≡ get_or outcomes j NoCall = ap (λ (xs : List (Outcome S P R)). get_or xs j NoCall) pushed ∙ get_or_append_left outcomes (o ∷ []) NoCall j (omega (arith, run.as_many)) in
      subst (λ (x : Outcome S P R). RightOutcome k byte prices (after k start (take j calls)) (get_or calls j ends) x) (sym same) (run.each j m) in
      let last : get_or outcomes' i NoCall ≡ o = ap (λ (xs : List (Outcome S P R)). get_or xs i NoCall) pushed ∙ get_or_push outcomes o NoCall i run.as_many in
      let here : right i = subst (λ (x : Outcome S P R). RightOutcome k byte prices (after k start (take i calls)) call x) (sym last) (subst (λ (x : Ledger). RightOutcome k byte prices x call o) run.reached t.0) in
      record {
        reached = reached;
        as_many = ap length pushed ∙ length_push outcomes o ∙ ap (λ (n : ℕ). n + 1) run.as_many;
        each = below_more right i before here;
        few = below_more (λ (j : ℕ). length (after k start (take j calls)).columns ≤ 4096) (i + 1) run.few (subst (λ (x : Ledger). length x.columns ≤ 4096) reached few);
      }

-- neither no call nor refused: granted
settled : {S P R : Type 0} (b : Bool) (rule : Option Refusal) (G : Type 0) (o : Outcome S P R) → MatchBool b (o ≡ NoCall) (MatchOption rule G (λ r. o ≡ Refused r)) → (o ≡ NoCall → ⊥) → ((r : Refusal) → o ≡ Refused r → ⊥) → (rule ≡ None) × G
settled true rule G o w not_None not-refused = absurd (not_None w)
settled false None G o w not_None not-refused = (refl, w)
settled false (Some r) G o w not_None not-refused = absurd (not-refused r w)

-- a question is answered
pub record Answered (m : Pricing) (ask : Question) (x : Answer m.Meaning) : Type 0 where
  pub before : List Piece
  pub after : List Piece
  pub answers : Answers ask m x before after
  pub short : length ask.query ≤ 64

module _ {S P R : Type 0} (k : Kind) (byte : S → ℕ) (prices : Prices P R) where
  -- an answer at a price kind is that of a granted question, which asked what the ledger says
  first_given : (l : Ledger) (call : Command) (t : Told P) → call_refusal k l call ≡ None → Gives {S = S} k byte prices l call (First t) → Answered prices.first (asked k l (query_of call)) (meant prices.first_means t.answer)
  first_given l (appends column) t kept e = grind arith
  first_given l (corrects column track symbol) t kept e = grind arith
  first_given l (cuts columns) t kept e = grind arith
  first_given l (fills book) t kept e = grind arith
  first_given l (sets limit mode) t kept e = grind arith
  first_given l (begins limit) t kept e = grind arith
  first_given l ends t kept e = grind arith
  first_given l (sizes query) t kept e = grind arith
  first_given l (transposes query by room) t kept e = absurd e
  first_given l (asks query room at) t kept e =
      record { before = blanks room.list; after = vec_items t.list; answers = e.1; short = (granted (asked k l query) room.list room.prices room.window room.steps kept).0.0.few }

  second_given : (l : Ledger) (call : Command) (t : Told R) → call_refusal k l call ≡ None → Gives {S = S} k byte prices l call (Second t) → Answered prices.second (asked k l (query_of call)) (meant prices.second_means t.answer)
  second_given l (appends column) t kept e = grind arith
  second_given l (corrects column track symbol) t kept e = grind arith
  second_given l (cuts columns) t kept e = grind arith
  second_given l (fills book) t kept e = grind arith
  second_given l (sets limit mode) t kept e = grind arith
  second_given l (begins limit) t kept e = grind arith
  second_given l ends t kept e = grind arith
  second_given l (sizes query) t kept e = grind arith
  second_given l (transposes query by room) t kept e = absurd e
  second_given l (asks query room at) t kept e =
      record { before = blanks room.list; after = vec_items t.list; answers = e.1; short = (granted (asked k l query) room.list room.prices room.window room.steps kept).0.0.few }

  first_right : (l : Ledger) (call : Command) (o : Outcome S P R) (x : Answer prices.first.Meaning) → RightOutcome k byte prices l call o → first_answer prices.first_means o ≡ Some x → Answered prices.first (asked k l (query_of call)) x
  first_right l call NoCall x w e = grind arith
  first_right l call (Refused r) x w e = grind arith
  first_right l call Done x w e = grind arith
  first_right l call (Size n) x w e = grind arith
  first_right l call (MovedTo v) x w e = grind arith
  first_right l call (Second t) x w e = grind arith
  first_right l call (First t) x w e =
      let g = settled (no_call l call) (call_refusal k l call) (Gives k byte prices l call (First t)) (First t) w (λ n. let z : ◌≡◌ {A = ℕ} 0 1 = cc in omega arith) (λ r n. let z : ◌≡◌ {A = ℕ} 0 1 = cc in omega arith) in
      let same : meant prices.first_means t.answer ≡ x = cc in
      subst (λ (y : Answer prices.first.Meaning). Answered prices.first (asked k l (query_of call)) y) same (first_given l call t g.0 g.1)

  second_right : (l : Ledger) (call : Command) (o : Outcome S P R) (x : Answer prices.second.Meaning) → RightOutcome k byte prices l call o → second_answer prices.second_means o ≡ Some x → Answered prices.second (asked k l (query_of call)) x
  second_right l call NoCall x w e = grind arith
  second_right l call (Refused r) x w e = grind arith
  second_right l call Done x w e = grind arith
  second_right l call (Size n) x w e = grind arith
  second_right l call (MovedTo v) x w e = grind arith
  second_right l call (First t) x w e = grind arith
  second_right l call (Second t) x w e =
      let g = settled (no_call l call) (call_refusal k l call) (Gives k byte prices l call (Second t)) (Second t) w (λ n. let z : ◌≡◌ {A = ℕ} 0 1 = cc in omega arith) (λ r n. let z : ◌≡◌ {A = ℕ} 0 1 = cc in omega arith) in
      let same : meant prices.second_means t.answer ≡ x = cc in
      subst (λ (y : Answer prices.second.Meaning). Answered prices.second (asked k l (query_of call)) y) same (second_given l call t g.0 g.1)

-- what is answered to questions about few columns is alike
pub all_alike : (k : Kind) → KindLaws k → (m : Pricing) → PriceLaws m → (led : ℕ → Ledger) (query : ℕ → List ℕ) (told : ℕ → Option (Answer m.Meaning)) → ((i : ℕ) (x : Answer m.Meaning) → told i ≡ Some x → Answered m (asked k (led i) (query i)) x × (length (led i).columns ≤ 4096)) → Alike k m (λ i. asked k (led i) (query i)) told
all_alike k laws m prices led query told answered =
    let covered : (i : ℕ) (x : Answer m.Meaning) → told i ≡ Some x → Covered (asked k (led i) (query i)) = λ i x e. record { kind_laws = laws; few = (answered i x e).1; short = (answered i x e).0.short } in
    record {
      harmless = λ i j x y e f more.
          let one = (answered i x e).0 in
          let other = (answered j y f).0 in
          let ask = asked k (led i) (query i) in
          let same : asked k (led j) (query j) ≡ grown ask more.more (led j).limit = λ t. record { kind = k; score = more.columns t; limit = (led j).limit; mode = more.mode t; query = more.query t } in
          harmless m prices ask more.more (led j).limit (subst Covered same (covered j y f)) more.limit x y one.before one.after other.before other.after one.answers (subst (λ (q : Question). Answers q m y other.before other.after) same other.answers);
      moved = λ i j x y e f d moved.
          let one = (answered i x e).0 in
          let other = (answered j y f).0 in
          let ask = asked k (led i) (query i) in
          let same : asked k (led j) (query j) ≡ asking ask (query j) = λ t. record { kind = k; score = moved.columns t; limit = moved.limit t; mode = (moved.other_mode ∙ sym moved.mode) t; query = query j } in
          (alike m).alike prices ask (covered i x e) moved.mode d (query j) moved.query x y one.before one.after other.before other.after one.answers (subst (λ (q : Question). Answers q m y other.before other.after) same other.answers);
    }

module _ {S P R : Type 0} (k : Kind) (laws : KindLaws k) (byte : S → ℕ) (prices : Prices P R) (first-laws : PriceLaws prices.first) (second-laws : PriceLaws prices.second) (tracks memory : ℕ) (calls : List Command) where
  -- a call that told an answer is one of the list
  within : {X : Type 0} (outcomes : List (Outcome S P R)) (tells : Outcome S P R → Option X) → tells NoCall ≡ None → (n i : ℕ) (x : X) → length outcomes ≡ n → tells (get_or outcomes i NoCall) ≡ Some x → i < n
  within {X = X} outcomes tells none n i x long e =
      let not-past : n ≤ i → ⊥ = λ past. let same : get_or outcomes i NoCall ≡ NoCall = get_or_past outcomes i NoCall (omega arith) in let off : ◌≡◌ {A = Option X} None (Some x) = sym none ∙ ap tells (sym same) ∙ e in let z : ◌≡◌ {A = ℕ} 0 1 = cc in omega arith in
      omega (arith, not-past)

  -- the whole list was tried
  pub run_all : (ledger : Ledger) (r : Performance S P R) (i : ℕ) → i ≡ length calls → r.memory ≡ memory_refusal tracks memory → RunTo k byte prices (at_first tracks memory) calls i ledger (vec_items r.outcomes) → Performed k byte prices tracks memory calls r
  run_all ledger r i all checked run =
      let led : ℕ → Ledger = λ j. after k (at_first tracks memory) (take j calls) in
      let outcomes = vec_items r.outcomes in
      let each : (j : ℕ) → j < length calls → RightOutcome k byte prices (led j) (get_or calls j ends) (get_or outcomes j NoCall) = λ j l. run.each j (omega (arith, all)) in
      let long : length outcomes ≡ length calls = run.as_many ∙ all in
      let small : (j : ℕ) → j < length calls → length (led j).columns ≤ 4096 = λ j l. run.few j (omega (arith, all)) in
      record {
        check = checked;
        as_many = omega (arith, long, r.outcomes.ok.0);
        each = each;
        first = all_alike k laws prices.first first-laws led (λ j. query_of (get_or calls j ends)) (λ j. first_answer prices.first_means (get_or outcomes j NoCall)) (λ j x e.
            let l = within outcomes (first_answer prices.first_means) refl (length calls) j x long e in
            (first_right k byte prices (led j) (get_or calls j ends) (get_or outcomes j NoCall) x (each j l) e, small j l));
        second = all_alike k laws prices.second second-laws led (λ j. query_of (get_or calls j ends)) (λ j. second_answer prices.second_means (get_or outcomes j NoCall)) (λ j x e.
            let l = within outcomes (second_answer prices.second_means) refl (length calls) j x long e in
            (second_right k byte prices (led j) (get_or calls j ends) (get_or outcomes j NoCall) x (each j l) e, small j l));
      }
