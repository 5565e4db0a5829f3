use Rattle.std.proofs.Common.{◌≡◌, ◌+◌, ◌-◌, ◌*◌, ◌≤◌, ◌++◌, length, take, drop, vec_items, vec_len, refl, ap, ◌∙◌, arith, rules}
use Rattle.std.proofs.lemmas.List.{with_items_is}
use Rattle.std.proofs.lemmas.List.Edits.{length-paste, paste_all}
use Rattle.std.proofs.lemmas.Slice.{put_mid-paste}
use Rattle.finder.proofs.ColumnEdits.{column_appended, room_for_one}
use Rattle.finder.proofs.score.Score.append.Goals as goal

pub returns : goal.returns
returns g c =
    let s = c.args.self.now in
    let column = c.args.column.now in
    let n = length column in
    let from = s.columns * n in
    let cells = vec_items s.memory in
    let given = c.deref_mut.result.now in
    let same : n ≡ s.tracks = c.if-tracks-self.false in
    let room : from + n ≤ length cells = omega (arith, room_for_one s.columns s.capacity s.tracks n (vec_len s.memory) (omega arith) same s.room, s.memory.ok.0) in
    let e : n ≡ from + n - from = omega arith in
    let pasted = put_mid-paste from (from + n - from) given c.copy_from_slice.new.self column n c.copy_from_slice.ensures.after e (omega (arith, room, c.deref_mut.ensures.len, s.memory.ok.0)) in
    let long = ap length pasted ∙ length-paste given from column n (omega (arith, room, c.deref_mut.ensures.len, s.memory.ok.0)) (omega arith) ∙ c.deref_mut.ensures.len in
    let appended = column_appended g.S.Symbol.byte s.tracks s.columns (s.columns + 1) from cells _ column refl (ap (λ m. s.columns * m) same) same room (with_items_is s.memory _ long ∙ pasted ∙ paste_all given from column n refl ∙ ap (λ x. take from x ++ (column ++ drop (from + n) x)) c.deref_mut.ensures.value) in
    search rules
