use Rattle.std.proofs.Common.{◌++◌, map, take, ap, ◌∙◌, append-nil, arith}
use Rattle.std.proofs.lemmas.List.{drop_all}
use Rattle.book.specs.Blocks.{block_bytes}
use Rattle.book.proofs.writer.write_block.Goals as goal

pub returns : goal.returns
returns g c =
    ap (λ x. c.fill_block.new.out ++ x) (drop_all 512 c.args.out.now (omega arith))
    ∙ append-nil c.fill_block.new.out
    ∙ c.fill_block.ensures
    ∙ ap (λ l. block_bytes l g.S.Symbol.kind.number c.args.number (take 502 (c.args.front.now ++ map g.S.Symbol.byte c.args.symbols.now))) c.from.ensures
