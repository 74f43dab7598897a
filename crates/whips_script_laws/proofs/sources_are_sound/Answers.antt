use Rattle.whips_script_laws.proofs.Made.{sources_sound}
use Rattle.whips_script_laws.proofs.sources_are_sound.Goals as goal

pub returns : goal.returns
returns c = sources_sound
