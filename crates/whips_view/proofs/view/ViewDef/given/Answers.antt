use Rattle.std.proofs.Common.{sym}
use Rattle.whips_states.specs.Net.{given_at}
use Rattle.whips_view.specs.ViewDefs.{keyed}
use Rattle.whips_view.proofs.Netted.{part_more}
use Rattle.whips_view.proofs.view.ViewDef.given.Goals as goal

pub loop-part-preserved : goal.loop-part-preserved
loop-part-preserved c = rw (c.in_ok-give.ensures, c.deref.ensures.value, c.t.view_is, c.loop-part.invariant) (sym (part_more c.loop-part.part (given_at (keyed c.args.self.now) c.args.t.now)))
