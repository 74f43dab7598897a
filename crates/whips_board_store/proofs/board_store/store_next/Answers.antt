use Rattle.whips_board_store.proofs.Calls.{board_length, next_is, next_slot, next_lawful}
use Rattle.whips_board_store.proofs.board_store.store_next.Goals as goal

pub store_change-requires-clause-board : goal.store_change-requires-clause-board
store_change-requires-clause-board g c = board_length c.args.setup.now c.args.words.now c.args.plain.now c.requires.kept

pub store_change-requires-clause-slot : goal.store_change-requires-clause-slot
store_change-requires-clause-slot g c = next_slot c.args.setup.now c.args.words.now c.args.plain.now c.requires.kept c.in-Some.x c.in-Some.i c.in-Some.change.now c.in-Some.ensures

pub store_change-requires-clause-lawful : goal.store_change-requires-clause-lawful
store_change-requires-clause-lawful g c = next_lawful c.args.setup.now c.args.words.now c.args.plain.now c.requires.kept c.in-Some.x c.in-Some.i c.in-Some.change.now c.in-Some.ensures

pub returns-in-Some : goal.returns-in-Some
returns-in-Some g c = record {
  view = c.in-Some.x;
  slot = c.in-Some.i;
  change = c.in-Some.change.now;
  others = c.in-Some.ensures.first.others;
  next = next_is c.args.setup.now c.args.words.now c.args.plain.now c.requires.kept c.in-Some.x c.in-Some.i c.in-Some.change.now c.in-Some.ensures;
  stored = c.store_change.ensures;
}
