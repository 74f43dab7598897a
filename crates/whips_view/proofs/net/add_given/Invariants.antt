use Rattle.std.proofs.Common.{◌≡◌, ◌++◌, map, take}
use Rattle.std.specs.List.{filter}
use Rattle.whips_states.specs.Concerns.{meets_part}
use Rattle.whips_view.proofs.net.add_given.Given as goal

abbrev pub invariant-loop-row : goal.invariant-loop-row
invariant-loop-row l = l.given.items ≡ l.initial.given.items ++ map (λ x. (l.part, x)) (filter (meets_part l.view.parts l.part) (take l.row-index l.rows))
