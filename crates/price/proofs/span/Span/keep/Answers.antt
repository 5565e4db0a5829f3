use Rattle.std.proofs.Common.{◌≡◌, ◌+◌, ◌-◌, ◌≤◌, length, set, refl, arith}
use Rattle.price.proofs.Spots.{part_has, part_long}
use Rattle.price.proofs.Keeps.{kept_moved, kept_put}
use Rattle.price.proofs.Spanned.{spans_put}
use Rattle.price.proofs.span.Span.keep.Goals as goal

pub returns : goal.returns
returns g c =
    λ h old fits.
    let p = g.P.Price.pricing in
    let meaning = g.P.Price.meaning in
    let xs = c.args.entries.now in
    let s = c.args.self in
    let place = s.back - (length c.kept-kept.result.now - c.cheaper.result) in
    let part = c.kept-kept.ensures.part old.kept.ordered old.kept.inside in
    let from = c.args.from in
    let near = c.args.near in
    let stands = part_has xs s.front s.back c.kept-kept.result.now part in
    let long = part_long xs s.front s.back c.kept-kept.result.now part old.kept.ordered old.kept.inside in
    let at : place ≡ s.front + c.cheaper.result = omega (arith, c.cheaper.ensures.high) in
    let high : place ≤ s.back = omega arith in
    spans_put p meaning xs s h old from near fits (set xs place near) _ refl refl refl
    (kept_put p meaning g.met.P.Price.lawful xs s.front s.back place h from near
    (kept_moved p meaning xs s.front s.back from h fits.onward old.kept)
    fits
    (omega arith)
    high
    (omega arith)
    (λ a d l m n. c.cheaper.ensures.dropped (a - s.front) d (omega arith) (stands (a - s.front) a d (omega arith) m n))
    (λ d l n. c.cheaper.ensures.stopped d (omega arith) (stands (c.cheaper.result - 1) (place - 1) d (omega arith) (omega arith) n)))
