use Rattle.std.proofs.Common.{◌≡◌, map, take}
use Rattle.whips_store.specs.First.{first_steps}
use Rattle.whips_slot_index.specs.Slots.{all_steps}
use Rattle.whips_plain_store.proofs.view.row_records.Given as goal

abbrev pub invariant-loop-row : goal.invariant-loop-row
invariant-loop-row l = all_steps l.records.items ≡ map first_steps (take l.row-index l.rows)
