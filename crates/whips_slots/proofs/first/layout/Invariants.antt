use Rattle.std.proofs.Common.{◌≡◌}
use Rattle.whips_slots.proofs.Layouts.{laid}
use Rattle.whips_slots.proofs.first.layout.Given as goal

abbrev pub invariant-loop-x : goal.invariant-loop-x
invariant-loop-x l = l.words.items ≡ laid l.setup l.x
