use Rattle.std.proofs.Common.{◌≡◌, ◌≤◌}
use Rattle.whips_view.specs.ViewDefs.{row_columns}
use Rattle.whips_manager_tests.proofs.feed.feed.Given as goal

abbrev pub invariant-loop-message : goal.invariant-loop-message
invariant-loop-message l = (l.fed.manager.view ≡ l.view) × (l.fed.manager.state.last ≤ l.fed.taken) × (l.fed.taken ≤ l.message-index) × (l.fed.rows.columns ≡ row_columns l.view)
