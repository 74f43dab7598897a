use Rattle.std.proofs.Common.{rules}
use Rattle.whips_plain.proofs.Steps.{none_in_all}
use Rattle.whips_plain.proofs.views.first_left.Goals as goal

pub returns : goal.returns
returns c = none_in_all c.args.views.now c.loop-x.x c.loop-x.invariant (search rules)
