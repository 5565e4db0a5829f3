use Rattle.std.proofs.Common.{◌∙◌, rules, tests}
use Rattle.std.proofs.lemmas.Iterator.{YieldsList-from_slice}
use Rattle.std.proofs.lemmas.Iterator.Consumers.{count_from_yields_List}
use Rattle.std.proofs.lemmas.Iterator.Search.{YieldsList-from_take_while}
use Rattle.std.proofs.lemmas.List.Folds.{length-prefix_len}
use Rattle.search.specs.Queries.{reaches}
use Rattle.search.proofs.Refusing.{front_of_map}
use Rattle.search.proofs.transposing.transposable_front.Goals as goal

pub returns : goal.returns
returns g c =
    let byte = g.S.Symbol.byte in
    let k = g.S.Symbol.kind in
    let xs = c.args.query.now in
    count_from_yields_List c.take_while.result _ c.count.ensures.ran (YieldsList-from_take_while _ (λ s. reaches k c.args.by (byte s)) (YieldsList-from_slice xs cc) c.take_while.ensures.closure c.take_while.ensures.done (λ x b q h. search (rules, tests)))
    ∙ length-prefix_len (λ s. reaches k c.args.by (byte s)) xs
    ∙ front_of_map byte (reaches k c.args.by) xs
