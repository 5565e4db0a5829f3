use Rattle.std.proofs.Common.{refl, sym, ap, ◌∙◌, subst, arith}
use Rattle.price.specs.History.{moved, Told}
use Rattle.search.specs.Rows.{Hands}
use Rattle.search.proofs.choosing.hand_over.Goals as goal

pub returns-in_default : goal.returns-in_default
returns-in_default g c = λ h holds on. absurd (let l = c.in_default.ensures.later h holds in omega arith)

pub returns-in_err-entry : goal.returns-in_err-entry
returns-in_err-entry g c =
    λ h holds on.
    let m = g.P.Price.pricing in
    let meaning = g.P.Price.meaning in
    let a = c.in-Ok.ensures in
    (a.holds h holds, λ bounded. subst (Hands m meaning (moved h c.args.from)) (sym c.from_residual.ensures) (subst (Told m meaning (moved h c.args.from)) c.in_err-entry.was (a.tells h holds)))

pub returns : goal.returns
returns g c =
    λ h holds on.
    let a = c.in-Ok.ensures in
    let l = subst (Told g.P.Price.pricing g.P.Price.meaning (moved h c.args.from)) c.in_ok-entry.was (a.tells h holds) in
    let e = c.in_ok-entry.entry in
    let gap_is = c.gap_from.ensures in (
      a.holds h holds,
      λ bounded. record {
        entry = e;
        least = l;
        place_is = refl;
        price_is = c.charged.ensures (bounded.shallow l.index e l.stands) (omega (arith, gap_is, bounded.near l.index e l.stands l.within)) ∙ ap (g.P.Price.pricing.charged (g.P.Price.meaning e.price)) gap_is;
      },
    )
