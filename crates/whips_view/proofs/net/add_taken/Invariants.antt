use Rattle.std.proofs.Common.{◌≡◌, ◌++◌, map, take}
use Rattle.std.specs.List.{filter}
use Rattle.whips_model.specs.Tuples.{at_columns}
use Rattle.whips_states.specs.Concerns.{meets_part}
use Rattle.whips_view.proofs.net.add_taken.Given as goal

abbrev pub invariant-loop-row : goal.invariant-loop-row
invariant-loop-row l = l.taken.items ≡ l.initial.taken.items ++ map (λ x. (l.part, x)) (map (at_columns l.key) (filter (meets_part l.view.parts l.part) (take l.row-index l.rows)))
