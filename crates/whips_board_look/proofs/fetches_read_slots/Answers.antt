use Rattle.whips_board_look.proofs.Whole.{read_slots}
use Rattle.whips_board_look.proofs.fetches_read_slots.Goals as goal

pub returns : goal.returns
returns c base history log ex start started p at x i v q next seen begin low order fetch fresh lx fits count live = read_slots base history log ex start started p at x i v q next seen begin low order fetch fresh lx fits count live
