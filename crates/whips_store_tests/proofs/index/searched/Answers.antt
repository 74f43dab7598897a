use Rattle.whips_store_tests.proofs.FourSlots.{are_kept}
use Rattle.whips_store_tests.proofs.index.searched.Goals as goal

pub find_slot-requires-clause-kept : goal.find_slot-requires-clause-kept
find_slot-requires-clause-kept c = are_kept _ c.requires.records
