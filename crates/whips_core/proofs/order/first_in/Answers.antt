use Rattle.std.proofs.Common.{Some, sym, ap, ◌∙◌}
use Rattle.whips_contents.specs.Events.{is_enabled_loaded}
use Rattle.whips_core.specs.Groups.{event_of}
use Rattle.whips_core.proofs.Tested.{first_is, none_more}
use Rattle.whips_core.proofs.order.first_in.Goals as goal

pub returns-then-enabled_at : goal.returns-then-enabled_at
returns-then-enabled_at g c = ap (λ e. Some e) c.event_of.ensures ∙ sym (first_is (is_enabled_loaded c.args.pipeline.now) (event_of c.args.group.kind) c.loop-i.i c.args.group.count c.loop-i-test.true c.loop-i.invariant (sym c.enabled_at.ensures ∙ c.if-enabled_at.true))

pub loop-i-preserved : goal.loop-i-preserved
loop-i-preserved g c = none_more (is_enabled_loaded c.args.pipeline.now) (event_of c.args.group.kind) c.loop-i.i c.loop-i.invariant (sym c.enabled_at.ensures ∙ c.if-enabled_at.false)
