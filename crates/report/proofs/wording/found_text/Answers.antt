use Rattle.std.proofs.Common.{◌≡◌, ℕ, List, ◌++◌, length, get_or, take, ℤ, string_bytes, sym, ap, ◌∙◌, w32}
use Rattle.std.specs.List.{flat_map}
use Rattle.std.proofs.lemmas.List.{flat_map_more, take_more, take_all}
use Rattle.std.proofs.lemmas.Int.{to_z-of_z}
use Rattle.splitting.specs.declared.Piece.{Piece}
use Rattle.finder.specs.Outcomes.{blank}
use Rattle.report.specs.Wording.{first_line, piece_line}
use Rattle.report.proofs.wording.found_text.Goals as goal

pub loop-piece-preserved : goal.loop-piece-preserved
loop-piece-preserved c =
    let pieces = c.args.pieces.now in
    let i = c.loop-piece.piece-index in
    let start = string_bytes c.in_ok-text.text in
    let p = get_or pieces i blank in
    c.in_ok-push_str.ensures.bytes ∙ ap (λ (x : List ℕ). string_bytes c.loop-piece.text ++ x) (c.as_str.ensures.value ∙ c.in_ok-line.ensures) ∙ ap (λ (x : List ℕ). x ++ piece_line p) c.loop-piece.invariant ∙ flat_map_more piece_line start (take i pieces) p ∙ ap (λ (x : List Piece). start ++ flat_map piece_line x) (sym (take_more pieces i blank c.loop-piece-test.true))

pub returns : goal.returns
returns c =
    λ score.
    let pieces = c.args.pieces.now in
    let start = string_bytes c.in_ok-text.text in
    let head : start ≡ first_line (length pieces) c.silence_of.result c.args.shift = c.in_ok-text.ensures ∙ ap (λ (z : ℤ). first_line (length pieces) c.silence_of.result z) (to_z-of_z w32 c.args.shift c.ranges.shift) in
    c.loop-piece.invariant ∙ ap (λ (x : List Piece). start ++ flat_map piece_line x) (take_all c.loop-piece.piece-index pieces c.loop-piece-test.false) ∙ ap (λ (x : List ℕ). x ++ flat_map piece_line pieces) (head ∙ ap (λ (s : ℕ). first_line (length pieces) s c.args.shift) (c.silence_of.ensures score))
