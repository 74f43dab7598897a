use Rattle.whips_choices.proofs.Placed.{keyed_is}
use Rattle.whips_choices.proofs.key_columns.Goals as goal

pub returns : goal.returns
returns c = keyed_is
