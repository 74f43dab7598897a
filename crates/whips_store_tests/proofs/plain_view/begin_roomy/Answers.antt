use Rattle.std.proofs.Common.{refl}
use Rattle.whips_store_laws.proofs.Views.{view_begun}
use Rattle.whips_store_tests.proofs.plain_view.begin_roomy.Goals as goal

pub returns-clause-begun : goal.returns-clause-begun
returns-clause-begun c = rw c.begin.ensures (view_begun 2 0 _ _ _ refl c.requires.sound (rw (← c.requires.columns) c.schema-table.ensures.sound) c.requires.net c.requires.room)
