use Rattle.std.proofs.Common.{◌≡◌, map, take}
use Rattle.whips_choices.specs.Places.{place_of}
use Rattle.whips_actions.proofs.edit.places_at.Given as goal

abbrev pub invariant-loop-column : goal.invariant-loop-column
invariant-loop-column l = l.places.items ≡ map (place_of l.out l.part) (take l.column-index l.column-items)
