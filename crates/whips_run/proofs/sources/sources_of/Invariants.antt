use Rattle.std.proofs.Common.{◌≡◌, map, take, drop}
use Rattle.whips_lists.specs.Lists.{map_with_place}
use Rattle.whips_contents.specs.Contents.{new_loaded_source}
use Rattle.whips_run.proofs.sources.sources_of.Given as goal

abbrev pub invariant-loop-y : goal.invariant-loop-y
invariant-loop-y l = (l.sources.items ≡ map_with_place (new_loaded_source l.setup) 0 (take l.y l.fn.work)) × (map (λ list. list.items) l.lists.items ≡ drop l.y l.fn.work)
