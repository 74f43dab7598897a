use Rattle.std.proofs.Common.{ℕ, ◌<◌}
use Rattle.whips_lists.specs.Members.{Has}
use Rattle.whips_slot_index.proofs.index.places_below.Given as goal

abbrev pub invariant-loop-place : goal.invariant-loop-place
invariant-loop-place l = (i : ℕ) → i < l.place → Has i l.places.items
