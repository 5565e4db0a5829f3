use Rattle.std.proofs.Common.{◌≡◌, ◌+◌, ◌-◌, ◌*◌, ◌≤◌, ◌++◌, take, true, false, map, length, drop, sym, refl, ap, ◌∙◌, arith, rules}
use Rattle.std.proofs.lemmas.Nat.{mul-le}
use Rattle.std.proofs.lemmas.Result.{err_from_is_err_and}
use Rattle.std.proofs.lemmas.List.{with_items_is, length-take-le, map-append}
use Rattle.std.proofs.lemmas.List.Edits.{length-paste, paste_all}
use Rattle.std.proofs.lemmas.Slice.{put_mid-paste}
use Rattle.book.specs.Books.{held}
use Rattle.finder.specs.Scores.{columns_held}
use Rattle.finder.specs.Edits.{grid_columns}
use Rattle.finder.proofs.Filled.{fill_granted, book_copied}
use Rattle.finder.proofs.RoundTrip.{written_again}
use Rattle.finder.proofs.score.Score.fill.Goals as goal

pub returns-in_err-book-clause-written : goal.returns-in_err-book-clause-written
returns-in_err-book-clause-written g c =
    let s = c.args.self.now in
    let p = err_from_is_err_and c.from_residual.result c.from_residual.ensures.1 in
    rw p.1 (written_again g.S.Symbol.kind g.S.Symbol.byte g.met.S.Symbol.bytes c.args.input.now s.tracks s.capacity false (columns_held g.S.Symbol.byte s) (λ h known score e t room. search rules))

pub returns-then-tracks-self-clause-written : goal.returns-then-tracks-self-clause-written
returns-then-tracks-self-clause-written g c =
    let s = c.args.self.now in
    let input = c.args.input.now in
    let reading = c.in_ok-book.ensures in
    written_again g.S.Symbol.kind g.S.Symbol.byte g.met.S.Symbol.bytes input s.tracks s.capacity false (columns_held g.S.Symbol.byte s) (λ h known score e t room. absurd (c.if-tracks-self.true (c.tracks-tracks.ensures (held input) reading.granted.1 ∙ ap (λ x. x.tracks) (reading.every h known score e).1 ∙ t)))

pub returns-then-columns-capacity-clause-written : goal.returns-then-columns-capacity-clause-written
returns-then-columns-capacity-clause-written g c =
    let s = c.args.self.now in
    let input = c.args.input.now in
    let reading = c.in_ok-book.ensures in
    written_again g.S.Symbol.kind g.S.Symbol.byte g.met.S.Symbol.bytes input s.tracks s.capacity false (columns_held g.S.Symbol.byte s) (λ h known score e t room. absurd (omega (arith, c.columns-columns.ensures (held input) reading.granted.1, c.if-columns-capacity.true, room, ap (λ x. x.columns) (reading.every h known score e).1)))

pub returns : goal.returns
returns g c =
    let s = c.args.self.now in
    let byte = g.S.Symbol.byte in
    let input = c.args.input.now in
    let book = held input in
    let reading = c.in_ok-book.ensures in
    let holds = reading.granted.1 in
    let tracks = c.tracks-tracks.ensures book holds in
    let columns = c.columns-columns.ensures book holds in
    let used = c.columns-columns.result * c.tracks-tracks.result in
    let count : used ≡ book.columns * book.tracks = λ j. columns j * tracks j in
    let given = c.deref_mut.result.now in
    let new = c.copy_symbols.new.memory in
    let room : used ≤ length given = omega (arith, mul-le c.columns-columns.result c.tracks-tracks.result s.capacity s.tracks c.if-columns-capacity.false (omega (arith, c.if-tracks-self.false)), s.room, c.deref_mut.ensures.len) in
    let n : used ≡ used - 0 = omega arith in
    let part : length (take (used - 0) given) ≡ used = length-take-le (used - 0) given (omega (arith, room)) ∙ sym n in
    let as_many : used ≡ length new = sym (c.copy_symbols.auto.memory ∙ part) in
    let pasted = put_mid-paste 0 (used - 0) given new new used refl n as_many in
    let long = ap length pasted ∙ length-paste given 0 new used (omega (arith, room)) (omega (arith, as_many)) ∙ c.deref_mut.ensures.len in
    let copied = c.copy_symbols.ensures book holds (sym tracks) (part ∙ count) in
    let bytes = ap (map byte) (with_items_is s.memory _ long ∙ pasted ∙ paste_all given 0 new used as_many) ∙ map-append byte new (drop (0 + used) given) ∙ ap (λ xs. xs ++ map byte (drop (0 + used) given)) copied in
    let now-held = book_copied byte book s.tracks c.columns-columns.result _ (map byte (drop (0 + used) given)) holds.score.shaped.whole (sym c.if-tracks-self.false ∙ tracks) columns bytes in
    record {
      change = (fill_granted g.S.Symbol.kind s.tracks s.capacity input reading.by_rules (sym tracks ∙ c.if-tracks-self.false) (omega (arith, columns, c.if-columns-capacity.false)), now-held, refl, refl);
      again = λ h known score e t room. (refl, now-held ∙ ap grid_columns (reading.every h known score e).1);
      written = written_again g.S.Symbol.kind byte g.met.S.Symbol.bytes input s.tracks s.capacity true _ (λ h known score e t room. (refl, now-held ∙ ap grid_columns (reading.every h known score e).1));
    }
