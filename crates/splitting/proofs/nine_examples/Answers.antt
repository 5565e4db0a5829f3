use Rattle.splitting.proofs.nine_examples.Goals as goal
use Rattle.splitting.proofs.Examples.{examples}

pub returns : goal.returns
returns c = examples
