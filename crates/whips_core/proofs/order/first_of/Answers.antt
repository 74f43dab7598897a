use Rattle.std.proofs.Common.{sym, ◌∙◌}
use Rattle.whips_contents.specs.Events.{is_enabled_loaded}
use Rattle.whips_core.specs.declared.order.EventKind.TheVariants.{Publish}
use Rattle.whips_core.specs.declared.order.EventGroup.{EventGroup}
use Rattle.whips_core.proofs.Tested.{none_in_more, first_in_all}
use Rattle.whips_core.proofs.order.first_of.Goals as goal

abbrev none_here : EventGroup
none_here = record { kind = Publish; count = 0 }

pub returns-in-Some : goal.returns-in-Some
returns-in-Some g c = sym (first_in_all (is_enabled_loaded c.args.pipeline.now) c.args.groups.now c.loop-group.group-index none_here c.loop-group-test.true c.in-Some.e c.loop-group.invariant (sym c.first_in.ensures ∙ c.in-Some.is))

pub loop-group-preserved : goal.loop-group-preserved
loop-group-preserved g c = none_in_more (is_enabled_loaded c.args.pipeline.now) c.args.groups.now c.loop-group.group-index none_here c.loop-group-test.true c.loop-group.invariant (sym c.first_in.ensures ∙ c.in_default.is)
