use Rattle.std.proofs.Common.{◌≡◌, take}
use Rattle.std.specs.List.{AllByRecursion}
use Rattle.whips_store.specs.First.{views_at_first}
use Rattle.whips_plain.specs.Plain.{HasFewSlots}
use Rattle.whips_plain.proofs.first.first_views.Given as goal

abbrev pub invariant-loop-x : goal.invariant-loop-x
invariant-loop-x l = record {
  made : l.views.items ≡ take l.x (views_at_first l.setup.initial l.setup.views l.setup.slots);
  slots : AllByRecursion HasFewSlots l.views.items;
}
