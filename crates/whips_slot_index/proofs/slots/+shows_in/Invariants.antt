use Rattle.whips_slot_index.proofs.slots.+shows_in.Given as goal

abbrev pub decreases-shows_in : goal.decreases-shows_in
decreases-shows_in l = l.count
