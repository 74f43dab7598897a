use Rattle.std.proofs.Common.{◌≡◌, length, take}
use Rattle.whips_slot_index.specs.Slots.{all_steps}
use Rattle.whips_slot_index.specs.Indexes.{unknown_keys}
use Rattle.whips_slot_index.proofs.index.SlotIndex.has_slots_for.Given as goal

abbrev pub invariant-loop-i : goal.invariant-loop-i
invariant-loop-i l = l.unknown ≡ length (unknown_keys l.schema.key l.self.versions l.self.committed (all_steps l.records) (take l.i l.keys))
