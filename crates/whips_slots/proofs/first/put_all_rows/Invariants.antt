use Rattle.std.proofs.Common.{◌≡◌, ◌++◌, take}
use Rattle.std.specs.List.{flat_map}
use Rattle.whips_rel.specs.Chunks.{joined}
use Rattle.whips_slots.specs.Boards.{row_slot}
use Rattle.whips_slots.proofs.first.put_all_rows.Given as goal

abbrev pub invariant-loop-chunk : goal.invariant-loop-chunk
invariant-loop-chunk l = l.words.items ≡ l.initial.words.items ++ flat_map (row_slot l.zeros) (joined (take l.chunk-index l.chunk-items))
