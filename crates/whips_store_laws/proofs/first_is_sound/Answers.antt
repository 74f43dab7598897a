use Rattle.whips_store_laws.proofs.First.{first_is_sound}
use Rattle.whips_store_laws.proofs.first_is_sound.Goals as goal

pub returns : goal.returns
returns c = first_is_sound
