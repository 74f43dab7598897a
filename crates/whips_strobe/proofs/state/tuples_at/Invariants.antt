use Rattle.std.proofs.Common.{◌≡◌, take}
use Rattle.whips_strobe.specs.Parts.{tuples_at}
use Rattle.whips_strobe.proofs.state.tuples_at.Given as goal

abbrev pub invariant-loop-entry : goal.invariant-loop-entry
invariant-loop-entry l = l.tuples ≡ tuples_at l.part (take l.entry-index l.entries)
