use Rattle.std.proofs.Common.{◌≡◌, take}
use Rattle.whips_script_reading.specs.Views.{schemas_of}
use Rattle.whips_script_reading.proofs.views.schemas_of.Given as goal

abbrev pub invariant-loop-relation : goal.invariant-loop-relation
invariant-loop-relation l = l.schemas.items ≡ schemas_of (take l.relation-index l.relations)
