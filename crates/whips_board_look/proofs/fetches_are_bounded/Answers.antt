use Rattle.whips_board_look.proofs.Whole.{bounded}
use Rattle.whips_board_look.proofs.fetches_are_bounded.Goals as goal

pub returns : goal.returns
returns c base log at x i v seen phase next says = bounded base log at x i v seen phase next says
