use Rattle.std.proofs.Common.{rules, ◌<◌, ◌++◌, map, length, take, drop, sym, refl, ap, subst, arith}
use Rattle.std.proofs.lemmas.List.{length-take}
use Rattle.book.proofs.Fields.{length_block}
use Rattle.book.proofs.sealing.put_block.Goals as goal

pub returns-in_default : goal.returns-in_default
returns-in_default g c =
    let payload = c.args.front.now ++ map g.S.Symbol.byte c.args.symbols.now in
    let len = length_block c.args.letter g.S.Symbol.kind.number c.args.number (take 502 payload) (omega (arith, length-take 502 payload)) in
    (subst (λ n. length c.args.out.now < n) (sym len) (search rules), sym len, refl)

pub returns : goal.returns
returns g c =
    let payload = c.args.front.now ++ map g.S.Symbol.byte c.args.symbols.now in
    let len = length_block c.args.letter g.S.Symbol.kind.number c.args.number (take 502 payload) (omega (arith, length-take 502 payload)) in
    (sym len, search rules, ap (λ x. x ++ drop 512 c.args.out.now) c.fill_block.ensures)
