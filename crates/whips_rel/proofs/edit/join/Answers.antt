use Rattle.std.proofs.Common.{◌+◌, refl, arith}
use Rattle.whips_rel.proofs.Chunks.{joined_two, both_full}
use Rattle.whips_rel.proofs.edit.join.Goals as goal

pub returns-clause-same : goal.returns-clause-same
returns-clause-same c = rw c.remove.ensures.items (joined_two c.args.chunks.now.items c.args.at (c.args.at + 1) c.index-4.result.now c.index-5.result.now c.in-Ok.both (omega (arith, c.if-at-len-2.false, c.len-else-at-len-2.ensures)) c.index-4.ensures c.index-5.ensures c.in-Ok.ensures refl)

pub returns-clause-full : goal.returns-clause-full
returns-clause-full c = rw c.remove.ensures.items (both_full c.args.chunks.now.items c.args.at (c.args.at + 1) c.index-4.result.now c.index-5.result.now c.in-Ok.both (omega (arith, c.if-at-len-2.false, c.len-else-at-len-2.ensures)) c.requires c.index-4.ensures c.in-Ok.ensures)
