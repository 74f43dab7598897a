use Rattle.whips_script_laws.proofs.Scripted.{script_accepted}
use Rattle.whips_script_laws.proofs.scripts_are_accepted.Goals as goal

pub returns : goal.returns
returns c = script_accepted
