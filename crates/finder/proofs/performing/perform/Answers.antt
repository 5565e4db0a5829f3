use Rattle.std.proofs.Common.{◌≡◌, ◌<◌, map, length, get_or, vec_items, vec_len, sym, ap, ◌∙◌, subst, arith}
use Rattle.std.proofs.lemmas.List.{get_or-map, length-map}
use Rattle.finder.specs.Ledger.{Ledger, command, ends}
use Rattle.finder.specs.ScoreRules.{memory_refusal}
use Rattle.finder.specs.Trying.{ledger_of, prices_of}
use Rattle.finder.proofs.Ledgers.{tried_as, columns_few}
use Rattle.finder.proofs.Running.{RunTo, run_none, run_more, run_all}
use Rattle.finder.proofs.performing.perform.Goals as goal

pub loop-call-init : goal.loop-call-init
loop-call-init g c =
    let byte = g.S.Symbol.byte in
    let session = c.new-session.result in
    run_none g.S.Symbol.kind byte (prices_of g.P.Price.pricing g.P.Price.meaning g.R.Price.pricing g.R.Price.meaning) (ledger_of byte session) (map (command byte) c.args.calls.now) (vec_items c.new-outcomes.result) c.new-outcomes.ensures.items (columns_few byte session.score)

pub loop-call-preserved : goal.loop-call-preserved
loop-call-preserved g c =
    let k = g.S.Symbol.kind in
    let byte = g.S.Symbol.byte in
    let prices = prices_of g.P.Price.pricing g.P.Price.meaning g.R.Price.pricing g.R.Price.meaning in
    let calls = c.args.calls.now in
    let i = c.loop-call.call-index in
    let item = c.call-item.result in
    let met = ledger_of byte c.loop-call.session in
    let left = ledger_of byte c.perform_call.new.self in
    let inside : i < length calls = omega (arith, c.loop-call-test.true) in
    let outcome = c.in_ok-perform_call.field-0 in
    let called : get_or (map (command byte) calls) i ends ≡ command byte item = get_or-map (command byte) calls i item ends inside ∙ ap (command byte) (sym c.call-item.is) in
    run_more k byte prices (ledger_of byte c.new-session.result) (map (command byte) calls) i met left (vec_items c.loop-call.outcomes) (vec_items c.push.new.self) outcome (omega (arith, length-map calls (command byte))) c.loop-call.invariant
    (tried_as k byte prices met left (get_or (map (command byte) calls) i ends) (command byte item) outcome called c.in_ok-perform_call.ensures)
    c.in_ok-push.ensures.items
    (columns_few byte c.perform_call.new.self.score)

pub returns : goal.returns
returns g c =
    let k = g.S.Symbol.kind in
    let byte = g.S.Symbol.byte in
    let prices = prices_of g.P.Price.pricing g.P.Price.meaning g.R.Price.pricing g.R.Price.meaning in
    let calls = c.args.calls.now in
    let i = c.loop-call.call-index in
    let memory = vec_len c.args.memory in
    let now-held = ledger_of byte c.loop-call.session in
    let run = subst (λ (l : Ledger). RunTo k byte prices l (map (command byte) calls) i now-held (vec_items c.loop-call.outcomes)) c.new-session.ensures c.loop-call.invariant in
    let all : i ≡ length (map (command byte) calls) = omega (arith, length-map calls (command byte), c.loop-call-test.false, c.loop-call.auto.call-index-end) in
    let checked : c.memory_checked-checked.result ≡ memory_refusal c.args.tracks memory = c.memory_checked-checked.ensures ∙ ap (memory_refusal c.args.tracks) c.len.ensures in
    run_all k g.met.S.Symbol.lawful byte prices g.met.P.Price.lawful g.met.R.Price.lawful c.args.tracks memory (map (command byte) calls) now-held (record { memory = c.memory_checked-checked.result; outcomes = c.loop-call.outcomes }) i all checked run
