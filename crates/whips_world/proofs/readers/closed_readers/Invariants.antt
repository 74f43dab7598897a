use Rattle.std.proofs.Common.{◌≡◌, replicate}
use Rattle.whips_world.specs.Readers.{closed_reader}
use Rattle.whips_world.proofs.readers.closed_readers.Given as goal

abbrev pub invariant-loop : goal.invariant-loop
invariant-loop l = l.readers.items ≡ replicate l.counter (closed_reader l.views)
