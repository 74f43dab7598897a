use Rattle.whips_slot_index.proofs.slots.+nothing_in.Given as goal

abbrev pub decreases-nothing_in : goal.decreases-nothing_in
decreases-nothing_in l = l.count
