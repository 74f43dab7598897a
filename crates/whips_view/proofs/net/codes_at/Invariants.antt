use Rattle.std.proofs.Common.{◌≡◌, take}
use Rattle.whips_model.specs.Tuples.{at_columns}
use Rattle.whips_view.proofs.net.codes_at.Given as goal

abbrev pub invariant-loop-column : goal.invariant-loop-column
invariant-loop-column l = l.codes ≡ at_columns (take l.column-index l.columns) l.tuple
