use Rattle.std.proofs.Common.{sym}
use Rattle.whips_states.specs.Net.{taken_at}
use Rattle.whips_view.specs.ViewDefs.{keyed}
use Rattle.whips_view.proofs.Netted.{part_more}
use Rattle.whips_view.proofs.view.ViewDef.taken.Goals as goal

pub loop-part-preserved : goal.loop-part-preserved
loop-part-preserved c = rw (c.in_ok-take.ensures, c.deref.ensures.value, c.t.view_is, c.loop-part.invariant) (sym (part_more c.loop-part.part (taken_at (keyed c.args.self.now) c.args.t.now)))
