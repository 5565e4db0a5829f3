use Rattle.std.proofs.Common.{length, refl, ◌∙◌, arith}
use Rattle.std.proofs.lemmas.Bool.{both_ways}
use Rattle.price.proofs.Spanned.{accepted, refused}
use Rattle.price.proofs.window.Window.put.Goals as goal

pub returns-then-not-takes : goal.returns-then-not-takes
returns-then-not-takes g c =
    record {
      same = refl {a = c.args.entry};
      unchanged = refl {a = c.args.self.now};
      full =
          λ h holds fits.
          refused g.P.Price.pricing g.P.Price.meaning c.args.self.now.entries.now c.args.self.now.span h holds.spans c.args.from c.args.entry (omega arith) holds.memory
          (λ takes. both_ways c.takes.result c.if-not-takes.true (c.takes.ensures.1 takes))
          fits;
    }

pub returns : goal.returns
returns g c =
    let p = g.P.Price.pricing in
    let meaning = g.P.Price.meaning in
    let w = c.args.self.now in
    let takes = c.takes.ensures.0 c.if-not-takes.false in
    record {
      accepted = λ h holds. accepted p meaning w.entries.now w.span h holds.spans c.args.from c.args.entry (length w.entries.now) takes;
      room = λ full. omega (arith, takes.room);
      holds =
          λ h holds.
          record {
            memory = c.keep-self.auto.entries ∙ holds.memory;
            spans = c.keep-self.ensures h holds.spans (accepted p meaning w.entries.now w.span h holds.spans c.args.from c.args.entry (length w.entries.now) takes);
          };
    }
