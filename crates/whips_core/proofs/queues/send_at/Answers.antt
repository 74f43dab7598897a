use Rattle.std.proofs.Common.{length, refl}
use Rattle.whips_core.proofs.Places.{written, past}
use Rattle.whips_contents.specs.Events.{with_input}
use Rattle.whips_core.specs.Queues.{input_of}
use Rattle.whips_core.proofs.queues.send_at.Goals as goal

pub returns-in_ok-send : goal.returns-in_ok-send
returns-in_ok-send c = written (length c.args.managers.now) c.args.managers.now c.args.x refl (with_input (input_of c.args.input)) _ c.send.new.self c.if-at-managers.true c.in_ok-send.ensures

pub returns-else-at-managers : goal.returns-else-at-managers
returns-else-at-managers c = past (length c.args.managers.now) c.args.managers.now c.args.x refl (with_input (input_of c.args.input)) c.if-at-managers.false
