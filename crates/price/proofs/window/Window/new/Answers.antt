use Rattle.std.proofs.Common.{length, refl}
use Rattle.price.proofs.Spanned.{spans_none}
use Rattle.price.proofs.window.Window.new.Goals as goal

pub returns : goal.returns
returns g c =
    let xs = c.args.entries.now in
    record { memory = refl; spans = spans_none g.P.Price.pricing g.P.Price.meaning xs c.start.result (length xs) c.args.limit c.start.ensures }
