use Rattle.whips_model.proofs.Rising.{value_keyed}
use Rattle.whips_model.proofs.value_is_keyed.Goals as goal

pub returns : goal.returns
returns c = value_keyed
