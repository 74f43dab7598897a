use Rattle.std.proofs.Common.{sym, ◌∙◌, arith}
use Rattle.whips_contents.specs.Events.{is_enabled_loaded}
use Rattle.whips_core.specs.Groups.{event_of}
use Rattle.whips_core.proofs.Tested.{counted_passing, counted_failing}
use Rattle.whips_core.proofs.order.count_in.Goals.{then-enabled_at, else-enabled_at}
use Rattle.whips_core.proofs.order.count_in.Goals as goal

pub loop-i-preserved : goal.loop-i-preserved
loop-i-preserved g c =
    let test = is_enabled_loaded c.args.pipeline.now in
    let event = event_of c.args.group.kind in
    let h = c.loop-i.invariant in
    elim c.if-enabled_at.branch [
      | then-enabled_at w ↦ let e = counted_passing test event c.loop-i.i (sym c.enabled_at.ensures ∙ w.if-enabled_at.true) in (omega (arith, w.count-is, e, h.0), omega (arith, w.count-is, h.1))
      | else-enabled_at w ↦ let e = counted_failing test event c.loop-i.i (sym c.enabled_at.ensures ∙ w.if-enabled_at.false) in (omega (arith, w.count-is, e, h.0), omega (arith, w.count-is, h.1))
    ]
