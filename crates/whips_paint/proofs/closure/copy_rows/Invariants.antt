use Rattle.std.proofs.Common.{◌≡◌, take}
use Rattle.whips_flow.specs.Painted.{rows_with}
use Rattle.whips_paint.proofs.closure.copy_rows.Given as goal

abbrev pub invariant-loop-row : goal.invariant-loop-row
invariant-loop-row l = l.copies.items ≡ rows_with l.numbers (take l.row-index l.rows)
