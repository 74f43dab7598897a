use Rattle.whips_board_look.proofs.Whole.{read_starts}
use Rattle.whips_board_look.proofs.fetches_read_starts.Goals as goal

pub returns : goal.returns
returns c base history log ex start started p at x i q next seen begin order fetch fresh lx fits = read_starts base history log ex start started p at x i q next seen begin order fetch fresh lx fits
