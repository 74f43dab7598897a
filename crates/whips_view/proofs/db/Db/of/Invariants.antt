use Rattle.std.proofs.Common.{take}
use Rattle.whips_states.specs.States.{AreSoundTables}
use Rattle.whips_view.proofs.db.Db.of.Given as goal

abbrev pub invariant-loop-relation : goal.invariant-loop-relation
invariant-loop-relation l = AreSoundTables (take l.relation-index l.relation-items)
