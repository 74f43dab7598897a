use Rattle.whips_script_laws.proofs.Scripted.{view_accepted}
use Rattle.whips_script_laws.proofs.views_are_accepted.Goals as goal

pub returns : goal.returns
returns c = view_accepted
