use Rattle.std.proofs.Common.{Some, sym, ap, ◌∙◌, arith}
use Rattle.whips_contents.specs.Events.{is_enabled_loaded}
use Rattle.whips_core.specs.Groups.{event_of}
use Rattle.whips_core.proofs.Tested.{counted_passing, counted_failing, nth_is}
use Rattle.whips_core.proofs.order.nth_in.Goals.{then-enabled_at+else-left-eq0, else-enabled_at}
use Rattle.whips_core.proofs.order.nth_in.Goals as goal

pub returns-then-left-eq0 : goal.returns-then-left-eq0
returns-then-left-eq0 g c =
    nth_is (is_enabled_loaded c.args.pipeline.now) (event_of c.args.group.kind) c.loop-i.i c.args.group.count c.args.place c.loop-i-test.true (omega (arith, c.loop-i.invariant, c.if-left-eq0.true)) (sym c.enabled_at.ensures ∙ c.if-enabled_at.true)
    ∙ ap (λ e. Some e) (sym c.event_of.ensures)

pub loop-i-preserved : goal.loop-i-preserved
loop-i-preserved g c =
    let test = is_enabled_loaded c.args.pipeline.now in
    let event = event_of c.args.group.kind in
    let h = c.loop-i.invariant in
    elim c.if-enabled_at.branch [
      | then-enabled_at+else-left-eq0 w ↦ let e = counted_passing test event c.loop-i.i (sym c.enabled_at.ensures ∙ w.if-enabled_at.true) in omega (arith, w.left-is, w.if-left-eq0.false, e, h)
      | else-enabled_at w ↦ let e = counted_failing test event c.loop-i.i (sym c.enabled_at.ensures ∙ w.if-enabled_at.false) in omega (arith, w.left-is, e, h)
    ]
