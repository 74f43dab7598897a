use Rattle.std.proofs.Common.{◌≡◌, [], ◌∷◌}
use Rattle.whips_model.specs.declared.Kind.TheVariants.{Number}
use Rattle.whips_data_tests.proofs.rel.put_many.Given as goal

abbrev pub invariant-loop-i : goal.invariant-loop-i
invariant-loop-i l = l.relation.columns.kinds ≡ Number ∷ Number ∷ []
