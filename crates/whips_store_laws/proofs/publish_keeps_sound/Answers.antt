use Rattle.whips_store_laws.proofs.Whole.{publish_keeps}
use Rattle.whips_store_laws.proofs.publish_keeps_sound.Goals as goal

pub returns : goal.returns
returns c = publish_keeps
