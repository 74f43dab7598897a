use Rattle.std.proofs.Common.{◌≡◌, map, take}
use Rattle.std.specs.Option.{unwrap_or}
use Rattle.whips_model.specs.declared.Kind.TheVariants.{Number}
use Rattle.whips_view.specs.ViewDefs.{kind_of}
use Rattle.whips_view.proofs.view.kinds_of.Given as goal

abbrev pub invariant-loop-at : goal.invariant-loop-at
invariant-loop-at l = l.kinds.items ≡ map (λ at. unwrap_or (kind_of l.bases at) Number) (take l.at-index l.out)
