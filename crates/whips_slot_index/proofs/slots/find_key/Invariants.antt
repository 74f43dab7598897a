use Rattle.whips_store.specs.Versions.{versions_in_use, shows_key}
use Rattle.whips_net.specs.Made.{change_key}
use Rattle.whips_slot_index.proofs.Found.{NoneYet}
use Rattle.whips_slot_index.proofs.slots.find_key.Given as goal

abbrev pub invariant-loop-i : goal.invariant-loop-i
invariant-loop-i l = NoneYet (shows_key l.schema.key l.n (versions_in_use l.n l.c) (change_key l.schema.key l.change)) l.records l.i
