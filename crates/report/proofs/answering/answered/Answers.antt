use Rattle.std.proofs.Common.{map, length, ap, ◌∙◌, arith}
use Rattle.std.proofs.lemmas.Result.{IfOk-weaker}
use Rattle.report.proofs.Calls.{limit_small}
use Rattle.report.proofs.answering.answered.Goals as goal

pub returns : goal.returns
returns g c =
    IfOk-weaker c.told_of.result _ _
    (λ s h q asks.
    let limit_is = c.from.ensures ∙ c.limit.ensures q asks in
    let small = limit_small q.limit q.mode q.price (length q.query) asks.question.fields in
    h q (record {
      small = omega (arith, limit_is, small);
      limit_is = limit_is;
      mode_is = c.mode.ensures q asks;
      price_is = c.price.ensures q asks;
      query_is = ap (map g.S.Symbol.byte) c.as_slice.ensures.value ∙ c.in_ok-query.ensures q asks;
    }))
    c.told_of.ensures
