use Rattle.whips_store_laws.proofs.Whole.{change_keeps}
use Rattle.whips_store_laws.proofs.change_keeps_sound.Goals as goal

pub returns : goal.returns
returns c = change_keeps
