use Rattle.std.proofs.Common.{take}
use Rattle.whips_slot_index.specs.Slots.{all_steps}
use Rattle.whips_slot_index.specs.Indexes.{AreVisited}
use Rattle.whips_slot_index.proofs.index.SlotIndex.visit_all.Given as goal

abbrev pub invariant-loop-place : goal.invariant-loop-place
invariant-loop-place l = AreVisited l.schema.key (all_steps l.records) (take l.place-index l.places) l.initial.self l.self
