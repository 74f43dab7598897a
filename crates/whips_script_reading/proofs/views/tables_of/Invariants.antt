use Rattle.std.proofs.Common.{◌≡◌, take}
use Rattle.whips_script_reading.specs.Views.{tables_of}
use Rattle.whips_script_reading.proofs.views.tables_of.Given as goal

abbrev pub invariant-loop-relation : goal.invariant-loop-relation
invariant-loop-relation l = l.tables.items ≡ tables_of (take l.relation-index l.relations)
