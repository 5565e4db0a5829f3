use Rattle.std.proofs.Common.{◌+◌, ◌*◌, ◌/◌, ◌%◌, ◌<◌, ◌≤◌, map, length, Some, None, sym, ap, ◌∙◌, subst, arith}
use Rattle.book.specs.Reading.{Told}
use Rattle.finder.proofs.Filled.{symbol_copied, symbol_missing, symbols_copied}
use Rattle.finder.proofs.filling.copy_symbols.Goals as goal
use Rattle.finder.proofs.filling.copy_symbols.Goals.{in-Some, in_default}

pub loop-i-preserved : goal.loop-i-preserved
loop-i-preserved g c = λ h holds e f.
    let i = c.loop-i.i in
    let byte = g.S.Symbol.byte in
    let first = c.args.memory.now in
    let whole = holds.score.shaped.whole in
    let l : i < h.columns * h.tracks = omega (arith, c.loop-i-test.true, f) in
    let fits : h.columns * h.tracks ≤ length first = omega (arith, f) in
    elim c.match-symbol.branch [
      | in-Some w ↦
          let told : Told byte h (i / h.tracks + 1) (i % h.tracks + 1) (Some w.in-Some.symbol) = subst (λ t. Told byte h (i / t + 1) (i % t + 1) (Some w.in-Some.symbol)) (sym e) (w.in-Some.ensures h holds) in
          ap (map byte) w.memory-is ∙ symbol_copied byte h whole first c.loop-i.memory i holds.score.shaped.some_track l fits w.in-Some.symbol told.1 (c.loop-i.invariant h holds e f)
      | in_default w ↦
          let told : Told byte h (i / h.tracks + 1) (i % h.tracks + 1) None = subst (λ t. Told byte h (i / t + 1) (i % t + 1) None) (sym e) (w.in_default.ensures h holds) in
          absurd (symbol_missing byte h whole first c.loop-i.memory i holds.score.shaped.some_track l fits told)
    ]

pub returns : goal.returns
returns g c = λ h holds e f. symbols_copied g.S.Symbol.byte h holds.score.shaped.whole c.args.memory.now c.loop-i.memory c.loop-i.i (omega (arith, f, c.loop-i-test.false)) f (c.loop-i.invariant h holds e f)
