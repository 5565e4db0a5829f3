use Rattle.price.proofs.Widest.{no_price}
use Rattle.price.proofs.widest_gap.turned_by_one_column.Goals as goal

pub returns-clause-no_price : goal.returns-clause-no_price
returns-clause-no_price c = no_price
