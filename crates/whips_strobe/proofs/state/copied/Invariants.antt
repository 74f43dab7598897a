use Rattle.std.proofs.Common.{◌≡◌, take}
use Rattle.whips_strobe.proofs.state.copied.Given as goal

abbrev pub invariant-loop-i : goal.invariant-loop-i
invariant-loop-i l = l.copy ≡ take l.i l.partials
