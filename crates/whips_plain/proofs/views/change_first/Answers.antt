use Rattle.std.proofs.Common.{◌/◌, rules}
use Rattle.whips_plain.proofs.Steps.{change_there, none_there}
use Rattle.whips_plain.proofs.views.change_first.Goals as goal

pub returns-then-left-gt0 : goal.returns-then-left-gt0
returns-then-left-gt0 c = change_there c.args.n (c.args.phase / 2) c.args.views.now.items c.loop-x.views.items c.index.result.now c.index_mut.result.now c.change_next.new.self c.left.result c.loop-x.x c.loop-x.invariant.same c.loop-x.invariant.none (search rules) c.index.ensures c.left.ensures (search rules) c.index_mut.ensures.value c.change_next.ensures.changed

pub returns : goal.returns
returns c = none_there c.args.n (c.args.phase / 2) c.args.views.now.items c.loop-x.views.items c.loop-x.x c.loop-x.invariant.same c.loop-x.invariant.none (search rules)
