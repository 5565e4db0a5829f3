use Rattle.std.proofs.Common.{◌≡◌, List, [], ◌∷◌, ◌++◌, map, get_or, vec_items, vec_len, string_bytes, Option, ap, ◌∙◌, subst, arith}
use Rattle.std.proofs.lemmas.List.{get_or_read_under}
use Rattle.std.proofs.lemmas.Result.{IfOk-weaker}
use Rattle.book.specs.declared.refusal.Refusal.{Refusal}
use Rattle.finder.specs.Ledger.{Command, command, fills, sets, asks}
use Rattle.finder.specs.Promise.{Performed}
use Rattle.finder.specs.declared.call.Call.{Call}
use Rattle.finder.specs.declared.call.Call.TheVariants.{Fill, Set, Ask}
use Rattle.finder.specs.declared.call.PriceKind.{PriceKind}
use Rattle.finder.specs.declared.outcome.Outcome.TheVariants.{NoCall}
use Rattle.report.specs.Outcomes.{kind_at, refused_by, text_by}
use Rattle.report.proofs.Calls.{two_prices, asking}
use Rattle.report.proofs.answering.told_of.Goals as goal

pub returns : goal.returns
returns g c =
    let byte = g.S.Symbol.byte in
    let k = g.S.Symbol.kind in
    let t = c.args.memory.tracks in
    let m = vec_len c.args.memory.symbols in
    let r = c.in_ok-performed.performed in
    let query = map byte c.args.asked.query.now in
    let fill : Call g.row.S.Denot = Fill c.args.book in
    let set : Call g.row.S.Denot = Set c.args.asked.limit c.args.asked.mode in
    let ask : Call g.row.S.Denot = Ask c.args.asked.query (record { list = 64; prices = 4096; window = 4096; steps = 4096 }) c.kind_at-at.result in
    let one : vec_items c.push.new.self ≡ fill ∷ [] = c.in_ok-push.ensures.items ∙ ap (λ (xs : List (Call g.row.S.Denot)). xs ++ fill ∷ []) c.new-calls.ensures.items in
    let two : vec_items c.push-2.new.self ≡ fill ∷ set ∷ [] = c.in_ok-push-2.ensures.items ∙ ap (λ (xs : List (Call g.row.S.Denot)). xs ++ set ∷ []) one in
    let items : c.deref.result.now ≡ fill ∷ set ∷ ask ∷ [] = c.deref.ensures.value ∙ c.in_ok-push-3.ensures.items ∙ ap (λ (xs : List (Call g.row.S.Denot)). xs ++ ask ∷ []) two in
    let calls : PriceKind → List Command = λ at. fills c.args.book.now ∷ sets c.args.asked.limit c.args.asked.mode ∷ asks query (record { list = 64; prices = 4096; window = 4096; steps = 4096 }) at ∷ [] in
    let performed : Performed k byte two_prices t m (calls c.kind_at-at.result) r = subst (λ (cs : List Command). Performed k byte two_prices t m cs r) (ap (map (command byte)) items) c.in_ok-performed.ensures in
    let done : Performed k byte two_prices t m (calls (kind_at c.args.asked.price)) r = subst (λ (at : PriceKind). Performed k byte two_prices t m (calls at) r) c.kind_at-at.ensures performed in
    let zeroth = get_or_read_under (vec_items r.outcomes) 0 (vec_len r.outcomes) c.index.result.now NoCall c.index.ensures (omega (arith, done.as_many)) r.outcomes.ok.0 in
    let second = get_or_read_under (vec_items r.outcomes) 2 (vec_len r.outcomes) c.index-2.result.now NoCall c.index-2.ensures (omega (arith, done.as_many)) r.outcomes.ok.0 in
    IfOk-weaker c.text_by.result _ _
    (λ s h q poses. asking k g.met.S.Symbol.lawful byte t m c.args.memory.some_track c.args.memory.few_tracks c.args.memory.whole c.args.book.now r c.args.asked.limit c.args.asked.mode c.args.asked.price query (string_bytes s) q poses done
    (λ score. h score ∙ ap (λ (o : Option Refusal). text_by score o c.index-2.result.now) (c.refusal_of-filling.ensures ∙ ap refused_by zeroth) ∙ ap (text_by score (refused_by (get_or (vec_items r.outcomes) 0 NoCall))) second))
    c.text_by.ensures
