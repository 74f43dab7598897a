use Rattle.whips_slots.proofs.Small.{board_small}
use Rattle.whips_slots.proofs.boards_are_small.Goals as goal

pub returns : goal.returns
returns c s h = board_small s h
