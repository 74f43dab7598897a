use Rattle.std.proofs.Common.{◌≡◌, take}
use Rattle.whips_setup.proofs.setup.copy_relations.Given as goal

abbrev pub invariant-loop-relation : goal.invariant-loop-relation
invariant-loop-relation l = l.copies.items ≡ take l.relation-index l.relations
