use Rattle.std.proofs.Common.{sym, arith}
use Rattle.whips_store_tests.proofs.Handed.{all_within}
use Rattle.whips_store_tests.proofs.plain_view.two_rows.Goals as goal

pub returns-clause-sound : goal.returns-clause-sound
returns-clause-sound c = c.in_ok-view.ensures.sound 2 (omega arith) (all_within c.in_ok-rows.rows.columns.kinds c.in_ok-rows.rows.rows (sym c.if-not-are_rows_within.ensures))
