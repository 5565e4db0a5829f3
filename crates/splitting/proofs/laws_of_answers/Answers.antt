use Rattle.splitting.proofs.laws_of_answers.Goals as goal
use Rattle.splitting.proofs.AnswerLaws.{unique, harmless, alike}

pub returns : goal.returns
returns g c = record { unique = unique g.P.Price.pricing; harmless = harmless g.P.Price.pricing; alike = alike g.P.Price.pricing }
