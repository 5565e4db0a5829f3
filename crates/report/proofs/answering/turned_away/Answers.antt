use Rattle.std.proofs.Common.{◌≡◌, List, [], ◌∷◌, ◌++◌, map, IfOk, vec_items, vec_len, string_bytes, ap, ◌∙◌, subst, arith}
use Rattle.std.proofs.lemmas.List.{get_or_read_under}
use Rattle.book.specs.Describing.{refused_line}
use Rattle.book.specs.declared.refusal.Refusal.{Refusal}
use Rattle.finder.specs.Ledger.{Command, command, fills}
use Rattle.finder.specs.Promise.{Performed}
use Rattle.finder.specs.declared.call.Call.{Call}
use Rattle.finder.specs.declared.call.Call.TheVariants.{Fill}
use Rattle.finder.specs.declared.outcome.Outcome.TheVariants.{NoCall}
use Rattle.finder.specs.ScoreRules.{fill_refusal}
use Rattle.report.specs.Tracks.{room_for}
use Rattle.report.specs.Outcomes.{refused_by, first_of}
use Rattle.report.proofs.Calls.{two_prices, filling}
use Rattle.report.proofs.answering.turned_away.Goals as goal

pub returns : goal.returns
returns g c =
    let byte = g.S.Symbol.byte in
    let k = g.S.Symbol.kind in
    let t = c.args.memory.tracks in
    let r = c.in_ok-performed.performed in
    let items : c.deref.result.now ≡ Fill c.args.book ∷ [] = c.deref.ensures.value ∙ c.in_ok-push.ensures.items ∙ ap (λ (xs : List (Call g.row.S.Denot)). xs ++ Fill c.args.book ∷ []) c.new-calls.ensures.items in
    let done : Performed k byte two_prices t (vec_len c.args.memory.symbols) (fills c.args.book.now ∷ []) r = subst (λ (cs : List Command). Performed k byte two_prices t (vec_len c.args.memory.symbols) cs r) (ap (map (command byte)) items) c.in_ok-performed.ensures in
    let fill = filling k g.met.S.Symbol.lawful byte t (vec_len c.args.memory.symbols) c.args.memory.some_track c.args.memory.few_tracks c.args.memory.whole c.args.book.now r [] done in
    let there = get_or_read_under (vec_items r.outcomes) 0 (vec_len r.outcomes) c.index.result.now NoCall c.index.ensures (omega (arith, done.as_many)) r.outcomes.ok.0 in
    let given : c.refusal_of-filling.result ≡ fill_refusal k t (room_for t) c.args.book.now = c.refusal_of-filling.ensures ∙ ap refused_by there ∙ fill in
    let first : c.unwrap_or.result ≡ first_of (fill_refusal k t (room_for t) c.args.book.now) c.args.refusal = c.unwrap_or.ensures ∙ ap (λ o. first_of o c.args.refusal) given in
    subst (λ (x : Refusal). IfOk c.refused_line.result (λ s. string_bytes s ≡ refused_line x)) first c.refused_line.ensures
