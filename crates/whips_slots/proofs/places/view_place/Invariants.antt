use Rattle.std.proofs.Common.{◌≡◌, suc}
use Rattle.whips_slot_words.specs.Words.{view_offset}
use Rattle.whips_slot_words.specs.StoreLaws.{shape_of}
use Rattle.whips_slots.proofs.places.view_place.Given as goal

abbrev pub invariant-loop-y : goal.invariant-loop-y
invariant-loop-y l = l.place ≡ suc (view_offset l.setup.versions (shape_of l.setup).views l.y)
