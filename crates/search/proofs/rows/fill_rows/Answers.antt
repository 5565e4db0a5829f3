use Rattle.std.proofs.Common.{◌≡◌, ℕ, ◌+◌, ◌-◌, ◌<◌, eqb, List, [], ◌∷◌, ◌++◌, map, length, get_or, take, ℤ, sum_by, count_by, sym, refl, ap, ◌∙◌, subst, arith}
use Rattle.std.proofs.Math.Seq.{take-append_seam, get_or-append_seam}
use Rattle.std.proofs.lemmas.List.{length-append, length-take-le, take-take, get_or-take}
use Rattle.search.specs.Rows.{value}
use Rattle.search.specs.Resting.{RowsRight, Posed, Wants, LeastRow}
use Rattle.search.specs.declared.row.Row.{Row}
use Rattle.splitting.specs.Score.{Question}
use Rattle.search.proofs.Rowing.{offset_all, offset_last, rows_last, rows_more, standing, standing_before, Asks, asked, Gives}
use Rattle.search.proofs.rows.fill_rows.Goals as goal

pub fill_last-requires : goal.fill_last-requires
fill_last-requires g c =
    let want = c.args.want.bytes.now in
    omega (arith, offset_all (map g.S.Symbol.byte c.args.ground.now.tally.cells.now) want (length want - 1) (omega (arith, c.args.want.some)), c.requires.prices)

-- one note further to the front
module _ (want before after : List ℕ) (b : ℕ) (front : before ≡ take (length before) want) (step : before ≡ after ++ b ∷ []) where
  one_less : length before ≡ length after + 1
  one_less = ap length step ∙ length-append after (b ∷ [])

  front_less : after ≡ take (length after) want
  front_less = sym (take-append_seam after (b ∷ [])) ∙ ap (take (length after)) (sym step ∙ front) ∙ take-take (length after) (length before) want (omega (arith, one_less))

  byte_is : b ≡ get_or want (length after) 0
  byte_is = sym (get_or-append_seam after b [] 0) ∙ ap (λ z. get_or z (length after) 0) (sym step ∙ front) ∙ get_or-take (length before) want (length after) 0 (omega (arith, one_less))

  row_made : (bytes : List ℕ) → length after + 1 < length want → (next row : Row) → next ≡ standing bytes want (length after + 1) → row ≡ record { byte = b; offset = next.offset + count_by (eqb next.byte) bytes } → row ≡ standing bytes want (length after)
  row_made bytes more next row next-is made =
      standing_before bytes want (length after) more next row next-is (made ∙ ap (λ (z : ℕ). record { byte = z; offset = next.offset + count_by (eqb next.byte) bytes }) byte_is)

pub loop-byte-init : goal.loop-byte-init
loop-byte-init g c =
    let m = g.P.Price.pricing in
    let meaning = g.P.Price.meaning in
    let x = c.args.ground.now in
    let bytes = map g.S.Symbol.byte x.tally.cells.now in
    let want = c.args.want.bytes.now in
    let k = length want - 1 in
    let b = get_or want k 0 in
    let rest = c.into_iter-byte-iterator.result.iter.rest.now in
    let rest-is : rest ≡ take k want = cc in
    let long : length rest ≡ k = ap length rest-is ∙ length-take-le k want (omega arith) in
    let end : k + 1 ≡ length want = omega (arith, c.args.want.some) in
    let is : record { byte = b; offset = 0 } ≡ standing bytes want k = λ j. record { byte = b; offset = sym (offset_last bytes want k end) j } in (
      rest-is ∙ ap (λ n. take n want) (sym long),
      omega (arith, c.args.want.some, long),
      is ∙ ap (standing bytes want) (sym long),
      record { prices = refl; steps = refl; window = refl },
      subst (RowsRight m meaning bytes x.tracks c.args.limit want c.fill_last.new.prices c.args.sheets.now.steps.now) (sym long)
          (rows_last bytes want m meaning x.tracks c.args.limit k c.fill_last.new.prices c.args.sheets.now.steps.now end
          (subst (λ (r : Row). (ask : Question) (e : ℤ) → Posed ask bytes x.tracks → Wants ask e (length ask.query) r.byte → LeastRow m meaning ask bytes x.tracks e (length ask.query) r.byte (value bytes r.byte r.offset c.fill_last.new.prices) 0) is c.fill_last.ensures)),
    )

pub row_before-row-requires : goal.row_before-row-requires
row_before-row-requires g c =
    let bytes = map g.S.Symbol.byte c.args.ground.now.tally.cells.now in
    let k = length c.loop-byte.byte-iterator.iter.rest.now in
    subst (λ (r : Row). r.offset + count_by (eqb r.byte) bytes < 18446744073709551616) (sym c.loop-byte.invariant.2)
    (omega (arith, c.well_formed, offset_all bytes c.args.want.bytes.now k c.loop-byte.invariant.1, c.requires.steps))

pub fill_row-requires-clause-room : goal.fill_row-requires-clause-room
fill_row-requires-clause-room g c =
    let x = c.args.ground.now in
    let bytes = map g.S.Symbol.byte x.tally.cells.now in
    let want = c.args.want.bytes.now in
    let before = c.loop-byte.byte-iterator.iter.rest.now in
    let after = c.next.new.self.iter.rest.now in
    let k = length after in
    let less = one_less want before after c.in-Some.byte.now c.loop-byte.invariant.0 c.in-Some.ensures.steps in
    let more : k + 1 < length want = omega (arith, c.loop-byte.invariant.1, less) in
    let next-is = c.loop-byte.invariant.2 ∙ ap (standing bytes want) less in
    let row_is = row_made want before after c.in-Some.byte.now c.loop-byte.invariant.0 c.in-Some.ensures.steps bytes more c.loop-byte.row c.row_before-row.result next-is c.row_before-row.ensures in
    let need = sum_by (λ b. count_by (eqb b) bytes) want in
    let a = subst (λ i. i) (λ j. Asks bytes need (sym row_is j) (sym next-is j)) (asked bytes want k more) in
    let long = c.loop-byte.invariant.3 in
    let room = c.requires in
    record { prices = omega (arith, a.1, room.prices, long.prices, c.fill_last.auto.prices); steps = omega (arith, a.1, room.steps, long.steps); window = omega (arith, a.1, room.window, long.window) }

pub loop-byte-preserved : goal.loop-byte-preserved
loop-byte-preserved g c =
    let m = g.P.Price.pricing in
    let meaning = g.P.Price.meaning in
    let x = c.args.ground.now in
    let bytes = map g.S.Symbol.byte x.tally.cells.now in
    let want = c.args.want.bytes.now in
    let before = c.loop-byte.byte-iterator.iter.rest.now in
    let after = c.next.new.self.iter.rest.now in
    let k = length after in
    let less = one_less want before after c.in-Some.byte.now c.loop-byte.invariant.0 c.in-Some.ensures.steps in
    let more : k + 1 < length want = omega (arith, c.loop-byte.invariant.1, less) in
    let next-is = c.loop-byte.invariant.2 ∙ ap (standing bytes want) less in
    let row_is = row_made want before after c.in-Some.byte.now c.loop-byte.invariant.0 c.in-Some.ensures.steps bytes more c.loop-byte.row c.row_before-row.result next-is c.row_before-row.ensures in
    let old = c.loop-byte.sheets in
    let new = c.fill_row.new.sheets in
    let f = c.fill_row.ensures in
    let long = c.loop-byte.invariant.3 in
    let given =
    subst (λ i. i) (λ j. Gives m meaning bytes x.tracks c.args.limit old.prices.now new.prices.now old.steps.now new.steps.now (row_is j) (next-is j))
    (f.prices_before, f.steps_before, f.right) in (
      front_less want before after c.in-Some.byte.now c.loop-byte.invariant.0 c.in-Some.ensures.steps,
      omega (arith, more),
      row_is,
      record { prices = f.as_long.prices ∙ long.prices; steps = f.as_long.steps ∙ long.steps; window = f.as_long.window ∙ long.window },
      rows_more bytes want m meaning x.tracks c.args.limit k old.prices.now new.prices.now old.steps.now new.steps.now given.0 given.1 more
          (subst (RowsRight m meaning bytes x.tracks c.args.limit want old.prices.now old.steps.now) less c.loop-byte.invariant.4) given.2,
    )

pub returns-clause-rows : goal.returns-clause-rows
returns-clause-rows g c =
    let m = g.P.Price.pricing in
    let meaning = g.P.Price.meaning in
    let x = c.args.ground.now in
    let bytes = map g.S.Symbol.byte x.tally.cells.now in
    let want = c.args.want.bytes.now in
    let done = c.in-None.ensures.steps.0 in
    subst (RowsRight m meaning bytes x.tracks c.args.limit want c.loop-byte.sheets.prices.now c.loop-byte.sheets.steps.now) done c.loop-byte.invariant.4
