use Rattle.whips_slot_index.proofs.slots.+row_in.Given as goal

abbrev pub decreases-row_in : goal.decreases-row_in
decreases-row_in l = l.count
