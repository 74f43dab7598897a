use Rattle.whips_board_look.proofs.Whole.{phases_read}
use Rattle.whips_board_look.proofs.phases_are_read.Goals as goal

pub returns : goal.returns
returns c base history log ex at p next says = phases_read base history log ex at p next says
