use Rattle.std.proofs.Common.{◌≡◌, min, map, length, take, drop, replicate, Some, None, sym, ap, ◌∙◌, subst, w32, rules}
use Rattle.std.proofs.lemmas.List.{with_items_is, length-map, length-replicate}
use Rattle.std.proofs.lemmas.Int.{to_z-of_z}
use Rattle.notation.specs.Kind.{rest}
use Rattle.splitting.specs.Score.{Transposed}
use Rattle.search.specs.Faults.{transpose_told}
use Rattle.finder.specs.Outcomes.{MovedRightly, rests}
use Rattle.search.specs.Queries.{transpose_refusal}
use Rattle.finder.proofs.Capping.{transpose_cap}
use Rattle.finder.proofs.Lending.{moved_rightly}
use Rattle.finder.proofs.questioning.transpose.Goals as goal

pub returns-in-Ok : goal.returns-in-Ok
returns-in-Ok g c =
    let k = g.S.Symbol.kind in
    let byte = g.S.Symbol.byte in
    let query = c.args.query.now in
    let by = c.args.by in
    let room = c.args.room in
    let list = c.in_ok-list.list in
    let out = c.transposed.new.out in
    let given = c.deref_mut.result.now in
    let told = subst (λ z. (transpose_refusal k z (map byte query) (length given) ≡ None) × Transposed k z (map byte query) (map byte (take (length query) out)) × (drop (length query) out ≡ drop (length query) given)) (to_z-of_z w32 by c.ranges.by) c.in-Ok.ensures in
    let made : map byte given ≡ rests room = ap (map byte) c.deref_mut.ensures.value ∙ c.in_ok-list.ensures ∙ ap (λ n. replicate n rest) c.min.ensures in
    let long : length given ≡ min room 64 = sym (length-map given byte) ∙ ap length made ∙ length-replicate (min room 64) rest in
    let kept : transpose_refusal k by (map byte query) room ≡ None = sym (transpose_cap k by (map byte query) room) ∙ ap (transpose_refusal k by (map byte query)) (sym long) ∙ told.0 in
    let right = moved_rightly k byte by query out given room made told.1 told.2 in
    let moved = subst (λ xs. MovedRightly k by (map byte query) room (map byte xs)) (sym (with_items_is list out (c.transposed.auto.out ∙ c.deref_mut.ensures.len))) right in
    λ l. search rules

pub returns-in-Err : goal.returns-in-Err
returns-in-Err g c =
    let k = g.S.Symbol.kind in
    let byte = g.S.Symbol.byte in
    let query = c.args.query.now in
    let by = c.args.by in
    let room = c.args.room in
    let given = c.deref_mut.result.now in
    let refused = subst (λ z. transpose_refusal k z (map byte query) (length given) ≡ Some (transpose_told c.in-Err.fault)) (to_z-of_z w32 by c.ranges.by) c.in-Err.ensures.0 in
    let made : map byte given ≡ rests room = ap (map byte) c.deref_mut.ensures.value ∙ c.in_ok-list.ensures ∙ ap (λ n. replicate n rest) c.min.ensures in
    let long : length given ≡ min room 64 = sym (length-map given byte) ∙ ap length made ∙ length-replicate (min room 64) rest in
    let rule : transpose_refusal k by (map byte query) room ≡ Some (transpose_told c.in-Err.fault) = sym (transpose_cap k by (map byte query) room) ∙ ap (transpose_refusal k by (map byte query)) (sym long) ∙ refused in
    λ l. search rules
