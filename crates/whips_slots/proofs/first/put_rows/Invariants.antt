use Rattle.std.proofs.Common.{◌≡◌, ◌++◌, take}
use Rattle.std.specs.List.{flat_map}
use Rattle.whips_slots.specs.Boards.{row_slot}
use Rattle.whips_slots.proofs.first.put_rows.Given as goal

abbrev pub invariant-loop-row : goal.invariant-loop-row
invariant-loop-row l = l.words.items ≡ l.initial.words.items ++ flat_map (row_slot l.zeros) (take l.row-index l.rows)
