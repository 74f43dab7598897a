use Rattle.std.proofs.Common.{arith}
use Rattle.whips_contents.specs.Events.{is_enabled_loaded}
use Rattle.whips_core.specs.Groups.{answers_of}
use Rattle.whips_core.proofs.Tested.{counted_group, counted_answers}
use Rattle.whips_core.proofs.order.count_answers.Goals as goal

pub loop-y-preserved : goal.loop-y-preserved
loop-y-preserved g c =
    let test = is_enabled_loaded c.args.pipeline.now in
    let one = counted_group test c.group.result (answers_of c.args.views c.loop-y.y) c.count_in-count.result c.count_in-count.ensures.count c.group.ensures in (
      counted_answers test c.args.views c.loop-y.y c.loop-y.count c.count_in-count.result c.loop-y.invariant.0 one,
      omega (arith, c.loop-y.invariant.1, c.count_in-count.ensures.few),
    )
