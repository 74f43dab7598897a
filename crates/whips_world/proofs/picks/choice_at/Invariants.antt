use Rattle.std.proofs.Common.{◌≡◌, ◌+◌, ◌≤◌, length}
use Rattle.std.specs.Prelude.{map, slice_get}
use Rattle.whips_world.specs.Readers.{session_of}
use Rattle.whips_world.specs.Picks.{session_choices}
use Rattle.whips_world.proofs.Counted.{joined}
use Rattle.whips_world.proofs.picks.choice_at.Given as goal

abbrev pub invariant-loop-s : goal.invariant-loop-s
invariant-loop-s l = (l.left + length (joined (λ s. session_choices l.may_scan l.views s (slice_get (map session_of l.readers) s)) l.s) ≡ l.place) × (l.s ≤ length (joined (λ s. session_choices l.may_scan l.views s (slice_get (map session_of l.readers) s)) l.s))
