use Rattle.whips_store.specs.Versions.{is_free}
use Rattle.whips_slot_index.proofs.Found.{NoneYet}
use Rattle.whips_slot_index.proofs.slots.find_free.Given as goal

abbrev pub invariant-loop-i : goal.invariant-loop-i
invariant-loop-i l = NoneYet (is_free l.n l.c) l.records l.i
