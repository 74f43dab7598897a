use Rattle.std.proofs.Common.{◌≡◌, take}
use Rattle.whips_lists.specs.Lists.{map_with_place}
use Rattle.whips_contents.specs.Contents.{new_loaded_manager}
use Rattle.whips_core.proofs.queues.managers_of.Given as goal

abbrev pub invariant-loop-x : goal.invariant-loop-x
invariant-loop-x l = l.managers.items ≡ map_with_place new_loaded_manager 0 (take l.x l.setup.views)
