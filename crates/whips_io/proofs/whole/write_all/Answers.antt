use Rattle.std.proofs.Common.{arith, length-drop, length-take}
use Rattle.whips_io.proofs.Moved.{Appends-rest}
use Rattle.whips_io.proofs.whole.write_all.Goals as goal

pub loop-at-preserved : goal.loop-at-preserved
loop-at-preserved g c =
    let bound = simp (length-take, length-drop) at c.in-Ok.ensures.bound in
    let some = simp (length-take, length-drop) at c.in-Ok.ensures.some in
    record {
      in_range = omega arith;
      kept = omega (arith, c.in-Ok.ensures.cause.kept);
      written = Appends-rest c.args.bytes.now c.loop-at.at c.in-Ok.n _ _ _ c.loop-at.invariant.written c.in-Ok.ensures.bytes;
      counted = omega (arith, c.in-Ok.ensures.counted, some);
    }
