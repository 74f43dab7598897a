use Rattle.std.proofs.Common.{sym}
use Rattle.whips_store_tests.proofs.Handed.{net_handed}
use Rattle.whips_store_tests.proofs.plain_view.changes_to.Goals as goal

pub returns-clause-net : goal.returns-clause-net
returns-clause-net c =
    net_handed c.args.view.now c.current-before.result.now c.in_ok-after.after.rows c.in_ok-changes.changes.items c.current-before.ensures (sym c.if-not-are_rows_within.ensures) c.in_ok-changes.ensures
