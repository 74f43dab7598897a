use Rattle.std.proofs.Common.{◌≡◌, take}
use Rattle.whips_contents.specs.Contents.{numbered_transaction}
use Rattle.whips_contents.specs.Events.{all_with_input}
use Rattle.whips_core.proofs.queues.send_all.Given as goal

abbrev pub invariant-loop-x : goal.invariant-loop-x
invariant-loop-x l = l.managers ≡ all_with_input (numbered_transaction l.n l.t) l.initial.managers (take l.x-index l.concerned)
