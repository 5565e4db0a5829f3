use Rattle.splitting.proofs.least_rest.Goals as goal
use Rattle.splitting.proofs.AnswerLaws.{from_rests}
use Rattle.splitting.proofs.Farther.{farther}
use Rattle.splitting.proofs.Laws.{least_rests}

pub returns : goal.returns
returns g c = record { step = least_rests g.P.Price.pricing; farther = farther g.P.Price.pricing; answer = from_rests g.P.Price.pricing }
