use Rattle.std.proofs.Common.{◌≡◌, ◌-◌, ◌*◌, ◌≤◌, map, length, take, vec_items, sym, ap, ◌∙◌, arith}
use Rattle.std.proofs.lemmas.Nat.{mul-le}
use Rattle.std.proofs.lemmas.List.{take-map, length-take-le}
use Rattle.search.specs.Columns.{columns_of}
use Rattle.finder.proofs.ColumnEdits.{columns_front}
use Rattle.std.proofs.lemmas.Bool.{MatchBool-at_true}
use Rattle.finder.proofs.Filled.{in_shape}
use Rattle.finder.proofs.score.Score.grid.Goals as goal

pub returns : goal.returns
returns g c =
    let s = c.args.self.now in
    let byte = g.S.Symbol.byte in
    let items = vec_items s.memory in
    let used = s.columns * s.tracks in
    let room : used ≤ length items = omega (arith, mul-le s.columns s.tracks s.capacity s.tracks s.held (omega arith), s.room, s.memory.ok.0) in
    let part : take (used - 0) c.deref.result.now ≡ take used items = let z : used - 0 ≡ used = omega arith in λ j. take (z j) (c.deref.ensures.value j) in
    let long : length (take (used - 0) c.deref.result.now) ≡ used = ap length part ∙ length-take-le used items room in
    let shape = in_shape s.tracks s.columns (length (take (used - 0) c.deref.result.now)) s.some_track s.few_tracks (omega (arith, s.held, s.few_columns)) long in
    let made = MatchBool-at_true _ _ shape.0 c.new.ensures in
    let cells : map byte c.new.result.symbols.now ≡ take used (map byte items) = ap (map byte) (made.2 ∙ part) ∙ sym (take-map byte used items) in
    record {
      grid = λ j. record { tracks = made.0 j; columns = (made.1 ∙ shape.1) j; cells = cells j };
      columns = (λ j. columns_of (made.0 j) ((made.1 ∙ shape.1) j) (cells j)) ∙ columns_front s.tracks s.columns (map byte items);
    }
