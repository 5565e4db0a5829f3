use Rattle.std.proofs.Common.{◌≡◌, ℕ, suc, ◌+◌, ◌-◌, ◌≤◌, List, ◌∷◌, ◌++◌, length, take, drop, replicate, sym, ap, ◌∙◌, arith}
use Rattle.std.proofs.lemmas.List.{length-take-le, length-drop, take_at}
use Rattle.book.specs.Blocks.{two, four, weighted, body, block_bytes}
use Rattle.book.proofs.Fields.{length_body}
use Rattle.book.proofs.sealing.seal.Goals as goal

-- header, zeros and check around a payload that stands in its place
sealed : (d headed padded done : List ℕ) (l k n len : ℕ) → length d ≡ 512 → len ≤ 502 → headed ≡ l ∷ k ∷ two n ++ two len ++ drop 6 d → padded ≡ take (6 + len) headed ++ replicate (508 - (6 + len)) 0 ++ drop 508 headed → done ≡ take 508 padded ++ four (weighted 1 (take 508 padded)) → done ≡ block_bytes l k n (take len (drop 6 d))
sealed d headed padded done l k n len long fits e1 e2 e3 =
    let p = take len (drop 6 d) in
    let ld = length-drop 6 d in
    let lp : length p ≡ len = length-take-le len (drop 6 d) (omega arith) in
    let six : 6 + len ≡ suc (suc (suc (suc (suc (suc len))))) = omega arith in
    let front : take (6 + len) headed ≡ l ∷ k ∷ two n ++ two (length p) ++ p = (λ i. take (six i) (e1 i)) ∙ (λ i. l ∷ k ∷ two n ++ two (sym lp i) ++ p) in
    let count : 508 - (6 + len) ≡ 502 - length p = omega arith in
    let all : padded ≡ body l k n p ++ drop 508 headed = e2 ∙ (λ i. front i ++ replicate (count i) 0 ++ drop 508 headed) in
    let covered : take 508 padded ≡ body l k n p = ap (take 508) all ∙ take_at (body l k n p) (drop 508 headed) 508 (length_body l k n p (omega arith)) in
    e3 ∙ (λ i. covered i ++ four (weighted 1 (covered i)))

pub returns : goal.returns
returns c =
    let padded = c.pad.ensures ∙ ap (λ n. take (6 + n) c.put_header.new.out ++ replicate (508 - (6 + n)) 0 ++ drop 508 c.put_header.new.out) c.from.ensures in
    sealed c.args.out.now c.put_header.new.out c.pad.new.out c.put_check.new.out c.args.letter c.args.kind c.args.number c.args.len c.told-out c.requires c.put_header.ensures padded c.put_check.ensures
