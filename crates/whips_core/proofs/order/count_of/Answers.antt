use Rattle.whips_contents.specs.Events.{is_enabled_loaded}
use Rattle.whips_core.specs.Groups.{group_of}
use Rattle.whips_core.specs.declared.order.EventKind.TheVariants.{Commit}
use Rattle.whips_core.proofs.Tested.{counted_group, counted_all}
use Rattle.whips_core.proofs.order.count_of.Goals as goal

pub returns : goal.returns
returns g c =
    let test = is_enabled_loaded c.args.pipeline.now in
    let last = counted_group test c.group.result (group_of Commit c.args.sources) c.count_in.result c.count_in.ensures.count c.group.ensures in
    counted_all test c.args.views c.args.sources c.count_first.result c.count_answers.result c.count_in.result c.count_first.ensures.count c.count_answers.ensures.count last
