use Rattle.std.proofs.Common.{◌≡◌, take}
use Rattle.whips_script_writing.proofs.source.homes_of.Given as goal

abbrev pub invariant-loop-r : goal.invariant-loop-r
invariant-loop-r l = l.homes.items ≡ take l.r l.setup.homes
