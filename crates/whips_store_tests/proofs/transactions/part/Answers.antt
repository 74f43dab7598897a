-- The rows passed the test of their numbers, and the changes are those that `net` found.
use Rattle.std.proofs.Common.{sym}
use Rattle.whips_store.specs.Stores.{view_in}
use Rattle.whips_store_tests.proofs.Handed.{net_handed}
use Rattle.whips_store_tests.proofs.transactions.part.Goals as goal

pub returns-clause-net : goal.returns-clause-net
returns-clause-net g c =
    net_handed (view_in (g.S.Store.state c.args.store.now) c.args.x) c.current-before.result.now c.in_ok-after.after.rows c.in_ok-changes.changes.items c.current-before.ensures (sym c.if-not-are_rows_within.ensures) c.in_ok-changes.ensures
