use Rattle.std.proofs.Common.{◌≡◌, take}
use Rattle.whips_store.specs.Versions.{rows_shown_at}
use Rattle.whips_slot_index.specs.Slots.{all_steps}
use Rattle.whips_plain_store.specs.Plain.{put_all}
use Rattle.whips_plain_store.proofs.need.put_shown.Given as goal

abbrev pub invariant-loop-i : goal.invariant-loop-i
invariant-loop-i l = l.rows ≡ record l.initial.rows { rows = put_all l.initial.rows.columns.key l.initial.rows.rows (rows_shown_at l.n l.v (take l.i (all_steps l.records))) }
