use Rattle.std.proofs.Common.{length, ap, sym, arith}
use Rattle.std.specs.Prelude.{filter}
use Rattle.std.proofs.lemmas.Option.{slice_get_past}
use Rattle.std.proofs.lemmas.List.{take_all}
use Rattle.whips_core.specs.Groups.{events_of}
use Rattle.whips_contents.specs.Events.{is_enabled_loaded}
use Rattle.whips_core.specs.declared.order.EventKind.TheVariants.{Publish}
use Rattle.whips_core.specs.declared.order.EventGroup.{EventGroup}
use Rattle.whips_core.proofs.Tested.{left_more, nth_in_all}
use Rattle.whips_core.proofs.order.nth_of.Goals as goal

abbrev none_here : EventGroup
none_here = record { kind = Publish; count = 0 }

pub returns-in-Ok : goal.returns-in-Ok
returns-in-Ok g c = sym (nth_in_all (is_enabled_loaded c.args.pipeline.now) c.args.groups.now c.loop-group.group-index none_here c.loop-group-test.true c.args.place c.loop-group.left c.in-Ok.e c.loop-group.invariant c.in-Ok.ensures)

pub returns : goal.returns
returns g c =
    let test = is_enabled_loaded c.args.pipeline.now in
    let all = ap (λ gs. length (filter test (events_of gs))) (take_all c.loop-group.group-index c.args.groups.now c.loop-group-test.false) in
    sym (slice_get_past (filter test (events_of c.args.groups.now)) c.args.place (omega (arith, c.loop-group.invariant, all)))

pub loop-group-preserved : goal.loop-group-preserved
loop-group-preserved g c = left_more (is_enabled_loaded c.args.pipeline.now) c.args.groups.now c.loop-group.group-index none_here c.loop-group-test.true c.args.place c.loop-group.left c.in-Err.behind c.loop-group.invariant c.in-Err.ensures
