use Rattle.std.proofs.Common.{◌≡◌, ℕ, ◌/◌, ◌%◌, ◌<◌, ◌∷◌, ◌++◌, take, ap, ◌∙◌, append-nil, [], refl, arith}
use Rattle.std.proofs.lemmas.List.{drop_all}
use Rattle.std.proofs.lemmas.Slice.{put_mid-paste}
use Rattle.book.specs.Blocks.{four}
use Rattle.book.proofs.sealing.put_check.Goals as goal

four_written : (w : ℕ) → w < 4294967296 → w / 16777216 % 256 ∷ w / 65536 % 256 ∷ w / 256 % 256 ∷ w % 256 ∷ [] ≡ four w
four_written w l = ap (λ a. a ∷ w / 65536 % 256 ∷ w / 256 % 256 ∷ w % 256 ∷ []) (let e : w / 16777216 % 256 ≡ w / 16777216 = omega arith in e)

pub returns : goal.returns
returns c =
    let d = c.args.out.now in
    let w = c.check-sum.result in
    let bytes = c.copy_from_slice.ensures.after ∙ c.to_be_bytes.ensures ∙ four_written w c.check-sum.type_inv in
    put_mid-paste 508 4 d c.copy_from_slice.new.self (four w) 4 bytes refl refl
    ∙ ap (λ x. take 508 d ++ four w ++ x) (drop_all 512 d (omega arith))
    ∙ append-nil (take 508 d ++ four w)
    ∙ ap (λ x. take 508 d ++ four x) c.check-sum.ensures
