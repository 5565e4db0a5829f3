use Rattle.std.proofs.Common.{◌≡◌, ℕ, ◌+◌, ◌<◌, ◌≤◌, List, map, length, get_or, set, sym, ap, ◌∙◌, arith}
use lib.Seq.{paste}
use Rattle.std.proofs.lemmas.List.Edits.{paste_none, paste_more, paste_all}
use Rattle.std.proofs.lemmas.List.{get_or-map, length-map}
use Rattle.book.proofs.sealing.put_symbols.Goals as goal

symbol_more : {S : Type 0} (byte : S → ℕ) (symbols : List S) (d o : List ℕ) (at i b : ℕ) (x : S) → at + length symbols ≤ length d → i < length symbols → o ≡ paste d at (map byte symbols) i → x ≡ get_or symbols i x → b ≡ byte x → set o (at + i) b ≡ paste d at (map byte symbols) (i + 1)
symbol_more byte symbols d o at i b x room l inv is e =
    let lm = length-map symbols byte in
    let f : b ≡ get_or (map byte symbols) i 0 = e ∙ ap byte is ∙ sym (get_or-map byte symbols i x 0 l) in
    (λ j. set (inv j) (at + i) (f j)) ∙ paste_more d at (map byte symbols) i 0 (omega arith) (omega arith)

pub loop-i-init : goal.loop-i-init
loop-i-init g c = paste_none c.args.out.now c.args.at (map g.S.Symbol.byte c.args.symbols.now)

pub loop-i-preserved : goal.loop-i-preserved
loop-i-preserved g c = symbol_more g.S.Symbol.byte c.args.symbols.now c.args.out.now c.loop-i.out c.args.at c.loop-i.i c.write.result c.index-symbols-i.result (omega arith) c.loop-i-test.true c.loop-i.invariant c.index-symbols-i.is c.write.ensures

pub returns : goal.returns
returns g c =
    let symbols = c.args.symbols.now in
    let d = c.args.out.now in
    let s = map g.S.Symbol.byte symbols in
    let e : c.loop-i.i ≡ length symbols = omega arith in
    c.loop-i.invariant ∙ ap (λ n. paste d c.args.at s n) e ∙ paste_all d c.args.at s (length symbols) (sym (length-map symbols g.S.Symbol.byte))
