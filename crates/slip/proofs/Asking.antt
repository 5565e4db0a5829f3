-- Slips that no rule refuses are the bytes of the question that they ask, and the bytes of a question are not refused.
use Rattle.std.proofs.Common.{◌≡◌, ℕ, suc, ◌+◌, ◌-◌, ◌*◌, ◌/◌, ◌%◌, ◌≤◌, true, ◌&&◌, T, eqb, leb, List, [], ◌∷◌, ◌++◌, map, length, get_or, take, drop, replicate, None, Ok, Err, Result, sym, refl, ap, ◌∙◌, subst, arith}
use Rattle.std.specs.List.{AllByRecursion}
use Rattle.std.proofs.lemmas.List.{length-map, take_all, drop_more, length-take-le, length-drop, take_at, append_assoc}
use Rattle.std.proofs.lemmas.Bool.{and_parts, and_from, eqb-true, eq-eqb, leb-true}
use Rattle.notation.specs.Kind.{Kind, readable}
use Rattle.notation.specs.Known.{known}
use Rattle.book.specs.Blocks.{two, block_bytes, body, four, weighted, letter, payload_length, payload, slip_letter, block_refusal}
use Rattle.book.specs.Books.{expected, symbols_refusal}
use Rattle.slip.specs.Slips.{posed, Inquiry, InquiryOf, in_range, slip_payload, slip_bytes, asked, slip_fields, slip_refusal}
use Rattle.slip.specs.SlipReading.{SlipReading, Checked}
use Rattle.slip.specs.declared.fault.SlipFault.{SlipFault}
use Rattle.book.specs.declared.refusal.Layer.TheVariants.{Slip as OfSlip}
use Rattle.slip.specs.declared.view.Slip.{Slip}
use Rattle.book.proofs.Rules.{unless_none, unless_past, then_parts, then_past, symbols_read, symbols_none}
use Rattle.book.proofs.Fields.{Bytes, bytes_of_fields, two_of, length_block, payload_length_is}
use Rattle.book.proofs.Granted.{block_kept, expected_kept}
use Rattle.book.proofs.Complete.{block_none, expected_is}
use Rattle.book.proofs.Promises.{is_true, is_T}

-- a slip that keeps every rule but perhaps the last
pub slip_symbols : (k : Kind) (b : List ℕ) → length b ≡ 512 → block_refusal 0 b ≡ None → letter b ≡ slip_letter → expected k 0 b ≡ true → slip_fields b ≡ true → slip_refusal k b ≡ symbols_refusal k OfSlip 11 (asked b).query
slip_symbols k b len own mark here fields =
    unless_past (eqb (length b) 512) _ _ (eq-eqb (length b) 512 len)
    ∙ then_past (block_refusal 0 b) _ own
    ∙ unless_past (eqb (letter b) slip_letter) _ _ (eq-eqb (letter b) slip_letter mark)
    ∙ unless_past (expected k 0 b) _ _ here
    ∙ unless_past (slip_fields b) _ _ fields

-- a payload as long as its query asks spells the question
asked_payload : (b : List ℕ) → length b ≡ 512 → Bytes b → payload_length b ≡ 5 + get_or b 10 0 → get_or b 10 0 ≤ 64 → payload b ≡ slip_payload (asked b)
asked_payload b len bytes e few =
    let m = get_or b 10 0 in
    let q = take m (drop 11 b) in
    let lq : length q ≡ m = length-take-le m (drop 11 b) (omega (arith, length-drop 11 b)) in
    let five : payload_length b ≡ suc (suc (suc (suc (suc m)))) = omega arith in
    (λ i. take (five i)
    ((drop_more b 6 0 (omega arith) ∙ ap (λ r. get_or b 6 0 ∷ r)
    (drop_more b 7 0 (omega arith) ∙ ap (λ r. get_or b 7 0 ∷ r)
    (drop_more b 8 0 (omega arith) ∙ ap (λ r. get_or b 8 0 ∷ r)
    (drop_more b 9 0 (omega arith) ∙ ap (λ r. get_or b 9 0 ∷ r) (drop_more b 10 0 (omega arith)))))) i))
    ∙ (λ i. sym (two_of (get_or b 6 0) (get_or b 7 0) (asked b).limit (bytes 7) refl) i ++ (get_or b 8 0 ∷ get_or b 9 0 ∷ sym lq i ∷ q))

pub ranges : (limit mode price notes : ℕ) → in_range limit mode price notes ≡ true → (limit ≤ 4095) × (mode ≤ 1) × (price ≤ 2) × (notes ≤ 64)
ranges limit mode price notes e =
    let p = and_parts (leb limit 4095 && leb mode 1 && (leb 1 price && leb price 2)) (leb 1 notes && leb notes 64) e in
    let q = and_parts (leb limit 4095 && leb mode 1) (leb 1 price && leb price 2) p.0 in
    let r = and_parts (leb limit 4095) (leb mode 1) q.0 in
    (leb-true limit 4095 r.0, leb-true mode 1 r.1, leb-true price 2 (and_parts (leb 1 price) (leb price 2) q.1).1, leb-true notes 64 (and_parts (leb 1 notes) (leb notes 64) p.1).1)

pub slip_granted : (k : Kind) (b : List ℕ) → Bytes b → slip_refusal k b ≡ None → (known k.number ≡ true) × InquiryOf k (asked b) × (b ≡ slip_bytes k (asked b))
unfolding slip_bytes
slip_granted k b bytes e =
    let e0 = unless_none (eqb (length b) 512) _ _ e in
    let e1 = then_parts (block_refusal 0 b) _ e0.1 in
    let e2 = unless_none (eqb (letter b) slip_letter) _ _ e1.1 in
    let e3 = unless_none (expected k 0 b) _ _ e2.1 in
    let e4 = unless_none (slip_fields b) _ _ e3.1 in
    let len = eqb-true (length b) 512 e0.0 in
    let own = block_kept 0 b e1.0 in
    let here = expected_kept k 0 b e3.0 in
    let fields = and_parts (eqb (payload_length b) (5 + get_or b 10 0)) (in_range (asked b).limit (asked b).mode (asked b).price (get_or b 10 0)) e4.0 in
    let few = (ranges (asked b).limit (asked b).mode (asked b).price (get_or b 10 0) fields.1).3 in
    let lq : length (asked b).query ≡ get_or b 10 0 = length-take-le (get_or b 10 0) (drop 11 b) (omega (arith, length-drop 11 b)) in (
      subst (λ n. known n ≡ true) here.1 own.1,
      record {
        fields = ap (in_range (asked b).limit (asked b).mode (asked b).price) lq ∙ fields.1;
        symbols = symbols_read k OfSlip 11 (asked b).query e4.1;
      },
      bytes_of_fields b len bytes own.2 own.0
          ∙ (λ i. block_bytes (eqb-true (letter b) slip_letter e2.0 i) (here.1 i) (here.0 i) (asked_payload b len bytes (eqb-true (payload_length b) (5 + get_or b 10 0) fields.0) few i)),
    )

module _ (k : Kind) (q : Inquiry) (lawful : InquiryOf k q) where
  few : length q.query ≤ 64
  few = (ranges q.limit q.mode q.price (length q.query) lawful.fields).3

  fits : length (slip_payload q) ≤ 502
  fits = omega (arith, few)

  asked_is : asked (block_bytes slip_letter k.number 0 (slip_payload q)) ≡ q
  asked_is =
      let b = block_bytes slip_letter k.number 0 (slip_payload q) in
      let e : q.limit / 256 * 256 + q.limit % 256 ≡ q.limit = omega arith in
      let f : take (length q.query) (drop 11 b) ≡ q.query =
      ap (take (length q.query)) (append_assoc q.query (replicate (502 - length (slip_payload q)) 0) (four (weighted 1 (body slip_letter k.number 0 (slip_payload q)))))
      ∙ take_at q.query (replicate (502 - length (slip_payload q)) 0 ++ four (weighted 1 (body slip_letter k.number 0 (slip_payload q)))) (length q.query) refl in
      (λ i. record { limit = e i; mode = q.mode; price = q.price; query = f i })

  pub slip_reads : known k.number ≡ true → (slip_refusal k (slip_bytes k q) ≡ None) × (asked (slip_bytes k q) ≡ q)
  unfolding slip_bytes
  slip_reads kind =
      let p = slip_payload q in
      let b = block_bytes slip_letter k.number 0 p in
      let long : payload_length b ≡ 5 + length q.query = payload_length_is slip_letter k.number 0 p fits ∙ omega arith in
      let fields : slip_fields b ≡ true =
      and_from (eqb (payload_length b) (5 + length q.query)) (in_range (asked b).limit q.mode q.price (length q.query)) (eq-eqb (payload_length b) (5 + length q.query) long)
      (ap (λ x. in_range x.limit q.mode q.price (length q.query)) asked_is ∙ lawful.fields) in (
        slip_symbols k b (length_block slip_letter k.number 0 p fits) (block_none slip_letter k.number 0 0 p fits refl kind) refl (expected_is k slip_letter 0 p fits) fields
            ∙ symbols_none k OfSlip 11 (asked b).query (subst (λ x. AllByRecursion (λ y. T (readable k y)) x.query) (sym asked_is) lawful.symbols),
        asked_is,
      )

-- the bytes of a question of a known kind ask that question
asked_again : (k : Kind) (input : List ℕ) (q : Inquiry) → T (known k.number) → InquiryOf k q → input ≡ slip_bytes k q → (slip_refusal k input ≡ None) × (asked input ≡ q)
asked_again k input q known-kind lawful e =
    let r = slip_reads k q lawful (is_true (known k.number) known-kind) in
    (ap (slip_refusal k) e ∙ r.0, ap asked e ∙ r.1)

module _ {S : Type 0} (k : Kind) (input : List ℕ) where
  pub slip_reading : Bytes input → (r : Result (Slip S) SlipFault) → Checked k input r → SlipReading k input r
  slip_reading bytes (Ok s) (none, fields) =
      let w = slip_granted k input bytes none in
      record {
        by_rules = none;
        granted = (is_T (known k.number) w.0, record { question = w.1; limit = fields.limit; mode = fields.mode; price = fields.price; query = fields.query }, w.2);
        every = λ q known-kind lawful e. (refl, (asked_again k input q known-kind lawful e).1);
      }
  slip_reading bytes (Err f) refused =
      record {
        by_rules = refused;
        granted = tt;
        every = λ q known-kind lawful e. let none = (asked_again k input q known-kind lawful e).0 in let z : ◌≡◌ {A = ℕ} 0 1 = cc in absurd (omega arith);
      }

-- the block of a question's fields and symbols is the slip of that question
pub slip_put : {S : Type 0} (byte : S → ℕ) (k : Kind) (limit mode price l : ℕ) (front : List ℕ) (query : List S) → length query ≤ 64 → l ≡ slip_letter → front ≡ two limit ++ (mode ∷ price ∷ length query ∷ []) → block_bytes l k.number 0 (take 502 (front ++ map byte query)) ≡ slip_bytes k (posed byte limit mode price query)
unfolding slip_bytes
slip_put byte k limit mode price l front query few mark is =
    let payload = two limit ++ (mode ∷ price ∷ length query ∷ map byte query) in
    let notes = length-map query byte in
    (λ i. block_bytes (mark i) k.number 0 (take 502 (is i ++ map byte query)))
    ∙ ap (block_bytes slip_letter k.number 0) (take_all 502 payload (omega (arith, notes)))
    ∙ ap (λ n. block_bytes slip_letter k.number 0 (two limit ++ (mode ∷ price ∷ n ∷ map byte query))) (sym notes)
