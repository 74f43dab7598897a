use Rattle.std.proofs.Common.{◌≡◌}
use Rattle.whips_contents.specs.Events.{all_asked}
use Rattle.whips_core.proofs.queues.ask_all.Given as goal

abbrev pub invariant-loop-y : goal.invariant-loop-y
invariant-loop-y g l = l.sources ≡ all_asked l.x l.initial.sources l.yielded
