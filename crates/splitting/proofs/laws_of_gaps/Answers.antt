use Rattle.splitting.proofs.laws_of_gaps.Goals as goal
use Rattle.splitting.proofs.Laws.{gaps_lawful}

pub returns : goal.returns
returns c = gaps_lawful
