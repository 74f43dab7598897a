use Rattle.whips_list_laws.proofs.lists_are_right.Goals as goal
use Rattle.whips_list_laws.proofs.States.{lists_are_right as lists}

pub returns : goal.returns
returns c = lists
