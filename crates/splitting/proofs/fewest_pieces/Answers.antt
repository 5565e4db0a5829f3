use Rattle.splitting.proofs.fewest_pieces.Goals as goal
use Rattle.splitting.proofs.Minimum.{fewest_pieces, changes_counted}

pub returns : goal.returns
returns c = record { fewest = fewest_pieces; counted = changes_counted }
