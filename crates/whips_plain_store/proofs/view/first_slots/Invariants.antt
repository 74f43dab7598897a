use Rattle.std.proofs.Common.{◌≡◌}
use Rattle.whips_store.specs.First.{first_records}
use Rattle.whips_slot_index.specs.Slots.{all_steps}
use Rattle.whips_plain_store.proofs.view.first_slots.Given as goal

abbrev pub invariant-loop : goal.invariant-loop
invariant-loop l = all_steps l.records.items ≡ first_records l.rows l.counter
