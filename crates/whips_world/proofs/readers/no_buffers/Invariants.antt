use Rattle.std.proofs.Common.{◌≡◌, None, replicate}
use Rattle.whips_world.proofs.readers.no_buffers.Given as goal

abbrev pub invariant-loop : goal.invariant-loop
invariant-loop l = l.buffers.items ≡ replicate l.counter None
