use Rattle.std.proofs.Common.{◌≡◌, ℕ, ◌<◌, ◌≤◌, List, ◌++◌, map, drop, length, sym, refl, ap, ◌∙◌, subst, arith}
use Rattle.std.proofs.lemmas.List.{length-map}
use Rattle.std.proofs.lemmas.Result.{err_from_is_err_and}
use Rattle.slip.specs.Slips.{in_range}
use Rattle.slip.proofs.Asking.{ranges, slip_put}
use Rattle.slip.proofs.writer.write_slip.Goals as goal

-- the fields are in range for the query's symbols as for their bytes
spelled_range : {S : Type 0} (byte : S → ℕ) (query : List S) (limit mode price : ℕ) → in_range limit mode price (length query) ≡ in_range limit mode price (length (map byte query))
spelled_range byte query limit mode price = ap (in_range limit mode price) (sym (length-map query byte))

pub returns-then-not-is_in_range : goal.returns-then-not-is_in_range
returns-then-not-is_in_range g c = (sym (c.if-not-is_in_range.ensures ∙ spelled_range g.S.Symbol.byte c.args.query.now c.args.limit c.args.mode c.args.price), refl)

pub overflow_cast-mode : goal.overflow_cast-mode
overflow_cast-mode g c = omega (arith, (ranges c.args.limit c.args.mode c.args.price (length c.args.query.now) (sym c.if-not-is_in_range.ensures)).1)

pub overflow_cast-price : goal.overflow_cast-price
overflow_cast-price g c = omega (arith, (ranges c.args.limit c.args.mode c.args.price (length c.args.query.now) (sym c.if-not-is_in_range.ensures)).2)

pub returns-in_err-length : goal.returns-in_err-length
returns-in_err-length g c =
    let p = err_from_is_err_and c.from_residual.result c.from_residual.ensures.1 in
    let query = c.args.query.now in
    let ok = c.if-not-is_in_range.ensures in
    let few = (ranges c.args.limit c.args.mode c.args.price (length query) (sym ok)).3 in
    let is = slip_put g.S.Symbol.byte g.S.Symbol.kind c.args.limit c.args.mode c.args.price c.from.result c.front-front.result query few c.from.ensures c.front-front.ensures in
    rw (p.1, p.2) (sym (ok ∙ spelled_range g.S.Symbol.byte query c.args.limit c.args.mode c.args.price), subst (λ b. (length c.args.out.now < length b) × (c.in_err-length.field-0.0.needed ≡ length b) × (c.put_block.new.out ≡ c.args.out.now)) is c.in_err-length.ensures)

pub returns : goal.returns
returns g c =
    let query = c.args.query.now in
    let ok = c.if-not-is_in_range.ensures in
    let few = (ranges c.args.limit c.args.mode c.args.price (length query) (sym ok)).3 in
    let is = slip_put g.S.Symbol.byte g.S.Symbol.kind c.args.limit c.args.mode c.args.price c.from.result c.front-front.result query few c.from.ensures c.front-front.ensures in
    (sym (ok ∙ spelled_range g.S.Symbol.byte query c.args.limit c.args.mode c.args.price), subst (λ b. (c.in_ok-length.length ≡ length b) × (c.in_ok-length.length ≤ length c.args.out.now) × (c.put_block.new.out ≡ b ++ drop c.in_ok-length.length c.args.out.now)) is c.in_ok-length.ensures)
