-- What a price of this repository means.
use Rattle.std.specs.Prelude.{ℕ}
use Rattle.price.specs.Prices.{Tally}
use Rattle.price.specs.declared.changes.Changes.{Changes}
use Rattle.price.specs.declared.changes_then_silence.ChangesThenSilence.{ChangesThenSilence}

abbrev pub changes_of : Changes → ℕ
changes_of c = c.count

abbrev pub tally_of : ChangesThenSilence → Tally
tally_of c = record { changes = c.changes; silence = c.silence }
