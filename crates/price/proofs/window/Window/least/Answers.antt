use Rattle.std.proofs.Common.{◌<◌, length, sym, ap, ◌∙◌, subst}
use Rattle.std.proofs.lemmas.Bool.{both_ways}
use Rattle.price.specs.History.{moved}
use Rattle.price.specs.Spanning.{Spans}
use Rattle.price.proofs.Spanned.{onward}
use Rattle.price.proofs.window.Window.least.Goals as goal

pub returns : goal.returns
returns g c =
    let p = g.P.Price.pricing in
    let meaning = g.P.Price.meaning in
    let xs = c.args.self.now.entries.now in
    let s = c.args.self.now.span in
    let not : s.position < c.args.from → ⊥ = λ later. both_ways c.has_passed.result c.if-has_passed.false (c.has_passed.ensures.1 later) in
    record {
      onward = λ h holds. onward p meaning xs s h holds.spans c.args.from not;
      holds =
          λ h holds.
          record {
            memory = ap length c.lead-told.ensures.same ∙ holds.memory;
            spans =
                subst (λ ys. Spans p meaning ys c.lead-told.result.0 (moved h c.args.from)) (sym c.lead-told.ensures.same)
                (c.lead-told.ensures.tells h (onward p meaning xs s h holds.spans c.args.from not) holds.spans).0;
          };
      tells = λ h holds. (c.lead-told.ensures.tells h (onward p meaning xs s h holds.spans c.args.from not) holds.spans).1;
    }
