use Rattle.std.proofs.Common.{◌≡◌, ℕ, Some, None, Option, sym, ◌∙◌, subst}
use Rattle.price.specs.Pricing.{Pricing}
use Rattle.search.specs.Rows.{Chosen, neither, only_on, only_over, on, over}
use Rattle.search.specs.declared.choosing.Over.{Over}
use Rattle.search.proofs.choosing.choose.Goals as goal

chosen_at : {P : Type 0} (p : Pricing) (meaning : P → p.Meaning) (x x' : Option P) (y y' : Option (Over P)) (r : Option P) (s : ℕ) → x ≡ x' → y ≡ y' → Chosen p meaning x' y' r s → Chosen p meaning x y r s
chosen_at p meaning x x' y y' r s e f h = subst (λ i. i) (λ i. Chosen p meaning (sym e i) (sym f i) r s) h

pub returns-in-None-None : goal.returns-in-None-None
returns-in-None-None g c = chosen_at g.P.Price.pricing g.P.Price.meaning c.args.on None c.args.over None None _ c.in-None-None.is-0 c.in-None-None.is-1 neither

pub returns-in-None-Some : goal.returns-in-None-Some
returns-in-None-Some g c = chosen_at g.P.Price.pricing g.P.Price.meaning c.args.on None c.args.over (Some c.in-None-Some.o) _ _ c.in-None-Some.is-0 c.in-None-Some.is-1 only_over

pub returns-in-Some-None : goal.returns-in-Some-None
returns-in-Some-None g c = chosen_at g.P.Price.pricing g.P.Price.meaning c.args.on (Some c.in-Some-None.a) c.args.over None _ _ c.in-Some-None.is-0 c.in-Some-None.is-1 only_on

pub returns-then-not_above : goal.returns-then-not_above
returns-then-not_above g c = chosen_at g.P.Price.pricing g.P.Price.meaning c.args.on (Some c.in-Some-Some.a) c.args.over (Some c.in-Some-Some.o) _ _ c.in-Some-Some.is-0 c.in-Some-Some.is-1 (on (λ d e. sym (c.not_above.ensures d e) ∙ c.if-not_above.true))

pub returns-else-not_above : goal.returns-else-not_above
returns-else-not_above g c = chosen_at g.P.Price.pricing g.P.Price.meaning c.args.on (Some c.in-Some-Some.a) c.args.over (Some c.in-Some-Some.o) _ _ c.in-Some-Some.is-0 c.in-Some-Some.is-1 (over (λ d e. sym (c.not_above.ensures d e) ∙ c.if-not_above.false))
