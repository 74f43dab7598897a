use Rattle.std.proofs.Common.{◌≡◌, take}
use Rattle.whips_update_reading.specs.Updates.{key_kinds}
use Rattle.whips_update_reading.proofs.row.key_kinds.Given as goal

abbrev pub invariant-loop-column : goal.invariant-loop-column
invariant-loop-column l = l.found.items ≡ key_kinds l.kinds (take l.column-index l.key)
