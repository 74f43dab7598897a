use Rattle.std.proofs.Common.{◌≡◌, ◌++◌, map}
use Rattle.whips_lists.specs.Lists.{places_from}
use Rattle.whips_core.specs.Groups.{answers_of}
use Rattle.whips_core.proofs.order.push_answers.Given as goal

abbrev pub invariant-loop-y : goal.invariant-loop-y
invariant-loop-y l = l.groups.items ≡ l.initial.groups.items ++ map (answers_of l.views) (places_from 0 l.y)
