use Rattle.std.proofs.Common.{◌≡◌}
use Rattle.whips_view.specs.ViewDefs.{row_columns}
use Rattle.whips_manager_tests.proofs.actions.rows_of.Given as goal

abbrev pub invariant-loop-row : goal.invariant-loop-row
invariant-loop-row l = l.rows.columns ≡ row_columns l.view
