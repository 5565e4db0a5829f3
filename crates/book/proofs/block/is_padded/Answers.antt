use Rattle.std.proofs.Common.{◌≡◌, ℕ, ◌+◌, ◌-◌, ◌≤◌, Bool, true, leb, List, take, drop, ap, ◌∙◌, arith}
use Rattle.std.proofs.lemmas.Slice.{between_is}
use Rattle.std.proofs.lemmas.Bool.{le-leb}
use Rattle.book.specs.Blocks.{blank, payload_length, padded}
use Rattle.book.proofs.block.is_padded.Goals as goal

past_payload : (b : List ℕ) (n : ℕ) (r : Bool) → n ≡ payload_length b → n ≤ 502 → r ≡ blank (take (508 - (6 + n)) (drop (6 + n) b)) → r ≡ padded b
past_payload b n r e l h =
    let t : leb (payload_length b) 502 ≡ true = le-leb (payload_length b) 502 (omega (arith, e)) in
    rw t (h ∙ ap blank (between_is b (6 + n) 508) ∙ ap (λ m. blank (drop (6 + m) (take 508 b))) e)

pub returns-then-len-le502 : goal.returns-then-len-le502
returns-then-len-le502 c = past_payload c.args.bytes.now c.from-len.result c.is_blank.result (c.from-len.ensures ∙ c.number_of.ensures) c.if-len-le502.true c.is_blank.ensures
