use Rattle.whips_store_laws.proofs.Whole.{begin_keeps}
use Rattle.whips_store_laws.proofs.begin_keeps_sound.Goals as goal

pub returns : goal.returns
returns c = begin_keeps
