use Rattle.whips_faithful_laws.proofs.First.{first_sound}
use Rattle.whips_faithful_laws.proofs.first_store_is_sound.Goals as goal

pub returns : goal.returns
returns c = first_sound
