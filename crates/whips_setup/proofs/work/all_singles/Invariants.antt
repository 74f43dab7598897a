use Rattle.std.proofs.Common.{◌≡◌, map}
use Rattle.whips_setup.specs.Workloads.{one_each}
use Rattle.whips_setup.proofs.work.all_singles.Given as goal

abbrev pub invariant-loop-list : goal.invariant-loop-list
invariant-loop-list l = map (λ list. list.items) l.made.items ≡ one_each (map (λ list. list.items) l.yielded)
