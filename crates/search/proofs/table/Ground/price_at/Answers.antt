use Rattle.std.proofs.Common.{◌≡◌, ℕ, ◌+◌, ◌<◌, true, ◌&&◌, eqb, ltb, List, map, length, get_or, None, sym, ap, ◌∙◌, inl, inr, arith}
use Rattle.std.proofs.lemmas.List.{get_or_read}
use Rattle.std.proofs.lemmas.Bool.{and_cases, and_parts, ltb-true, ltb-false, eqb-true, eqb-false}
use Rattle.notation.specs.Kind.{rest}
use Rattle.search.proofs.Valuing.{rank_in, value_there, value_past, value_other}
use Rattle.search.proofs.table.Ground.price_at.Goals as goal

pub returns-then-not-holds : goal.returns-then-not-holds
returns-then-not-holds g c =
    let bytes = map g.S.Symbol.byte c.args.self.now.tally.cells.now in
    let b = c.args.row.byte in
    let q = c.args.place in
    elim (and_cases (ltb q (length bytes)) (eqb (get_or bytes q rest) b) (sym c.if-not-holds.ensures)) [
      | inl past ↦ sym (value_past bytes b c.args.row.offset c.args.prices.now q (ltb-false q (length bytes) past))
      | inr other ↦ sym (value_other bytes b c.args.row.offset c.args.prices.now q (eqb-false (get_or bytes q rest) b other))
    ]

-- a place that holds a byte
held : (bytes : List ℕ) (q b : ℕ) → true ≡ (ltb q (length bytes) && eqb (get_or bytes q rest) b) → (q < length bytes) × (get_or bytes q rest ≡ b)
held bytes q b e =
    let both = and_parts (ltb q (length bytes)) (eqb (get_or bytes q rest) b) (sym e) in
    (ltb-true q (length bytes) both.0, eqb-true (get_or bytes q rest) b both.1)

pub bounds-prices-row : goal.bounds-prices-row
bounds-prices-row g c =
    let x = c.args.self.now in
    let bytes = map g.S.Symbol.byte x.tally.cells.now in
    let h = held bytes c.args.place c.args.row.byte c.if-not-holds.ensures in
    rank_in bytes x.after.now x.ranked c.args.row.byte c.args.row.offset (length c.args.prices.now) c.args.place c.requires h.0 h.1

pub offset_bounds-prices-row : goal.offset_bounds-prices-row
offset_bounds-prices-row g c =
    let x = c.args.self.now in
    let bytes = map g.S.Symbol.byte x.tally.cells.now in
    let h = held bytes c.args.place c.args.row.byte c.if-not-holds.ensures in
    omega (arith, rank_in bytes x.after.now x.ranked c.args.row.byte c.args.row.offset (length c.args.prices.now) c.args.place c.requires h.0 h.1)

pub returns : goal.returns
returns g c =
    let x = c.args.self.now in
    let bytes = map g.S.Symbol.byte x.tally.cells.now in
    let ps = c.args.prices.now in
    let b = c.args.row.byte in
    let offset = c.args.row.offset in
    let q = c.args.place in
    let h = held bytes q b c.if-not-holds.ensures in
    get_or_read ps (offset + get_or x.after.now q 0) c.index-prices-row.result (rank_in bytes x.after.now x.ranked b offset (length ps) q c.requires h.0 h.1) c.index-prices-row.is None
    ∙ ap (λ z. get_or ps (offset + z) None) (x.ranked q h.0)
    ∙ sym (value_there bytes b offset ps q h.0 h.1)
