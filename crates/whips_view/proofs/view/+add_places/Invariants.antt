use Rattle.std.proofs.Common.{◌≡◌, ◌++◌, length, map, take}
use Rattle.whips_choices.specs.Places.{place_of}
use Rattle.whips_view.proofs.view.+add_places.Given as goal

abbrev pub decreases-add_places : goal.decreases-add_places
decreases-add_places l = length l.bases.now

abbrev pub invariant-loop-column : goal.invariant-loop-column
invariant-loop-column l = l.places.items ≡ l.initial.places.items ++ map (place_of l.out l.part) (take l.column-index l.column-items)
