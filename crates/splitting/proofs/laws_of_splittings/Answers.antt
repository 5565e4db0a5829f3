use Rattle.splitting.proofs.laws_of_splittings.Goals as goal
use Rattle.splitting.proofs.Laws.{two_views, splittings_kept, splittings_bounded}

pub returns : goal.returns
returns g c = record { views = two_views g.P.Price.pricing; kept = splittings_kept g.P.Price.pricing; bounded = splittings_bounded g.P.Price.pricing }
