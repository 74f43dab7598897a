use Rattle.whips_contents.specs.Events.{is_enabled_loaded}
use Rattle.whips_core.specs.Groups.{group_of}
use Rattle.whips_core.specs.declared.order.EventKind.TheVariants as kind
use Rattle.whips_core.proofs.Tested.{counted_group, counted_seven}
use Rattle.whips_core.proofs.order.count_first.Goals as goal

pub returns-clause-count : goal.returns-clause-count
returns-clause-count g c =
    let test = is_enabled_loaded c.args.pipeline.now in
    let v = c.args.views in
    let s = c.args.sources in
    let of_publish = counted_group test c.group.result (group_of kind.Publish 1) c.count_in.result c.count_in.ensures.count c.group.ensures in
    let of_change = counted_group test c.group-2.result (group_of kind.Change 1) c.count_in-2.result c.count_in-2.ensures.count c.group-2.ensures in
    let of_begin = counted_group test c.group-3.result (group_of kind.Begin 1) c.count_in-3.result c.count_in-3.ensures.count c.group-3.ensures in
    let of_act = counted_group test c.group-4.result (group_of kind.Act v) c.count_in-4.result c.count_in-4.ensures.count c.group-4.ensures in
    let of_rel = counted_group test c.group-5.result (group_of kind.Rel 1) c.count_in-5.result c.count_in-5.ensures.count c.group-5.ensures in
    let of_manage = counted_group test c.group-6.result (group_of kind.Manage v) c.count_in-6.result c.count_in-6.ensures.count c.group-6.ensures in
    let of_integrate = counted_group test c.group-7.result (group_of kind.Integrate s) c.count_in-7.result c.count_in-7.ensures.count c.group-7.ensures in
    counted_seven test (group_of kind.Publish 1) (group_of kind.Change 1) (group_of kind.Begin 1) (group_of kind.Act v) (group_of kind.Rel 1) (group_of kind.Manage v) (group_of kind.Integrate s) c.count_in.result c.count_in-2.result c.count_in-3.result c.count_in-4.result c.count_in-5.result c.count_in-6.result c.count_in-7.result
    of_publish of_change of_begin of_act of_rel of_manage of_integrate
