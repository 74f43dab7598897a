use Rattle.whips_board_look.proofs.Whole.{counted}
use Rattle.whips_board_look.proofs.loads_are_counted.Goals as goal

pub returns : goal.returns
returns c = counted
