use Rattle.std.proofs.Common.{◌≡◌, take}
use Rattle.whips_view_reading.specs.Views.{homes_of}
use Rattle.whips_view_reading.proofs.relations.homes_of.Given as goal

abbrev pub invariant-loop-number : goal.invariant-loop-number
invariant-loop-number l = l.found.items ≡ homes_of l.homes (take l.number-index l.numbers)
