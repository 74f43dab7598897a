use Rattle.std.proofs.Common.{rules}
use Rattle.std.proofs.lemmas.Fn.{always_returns_same}
use Rattle.whips_row_buf.proofs.Order.{parted, inserted, passes}
use Rattle.whips_row_buf.proofs.buffer.RowBuf.place.Goals as goal

pub returns : goal.returns
returns c =
    let key = c.self.inside.schema.key in
    let point = c.partition_point.ensures.partitioned (passes key c.args.codes.now) (always_returns_same _ _ _ (λ a r g called. search rules)) (rw c.deref.ensures.value (parted key c.args.codes.now c.self.inside.rows.items c.self.invariant.0.ordered)) in
    rw (← c.self.view_is, ← c.deref.ensures.value) (record { bound = c.partition_point.ensures.bound; place = inserted key c.args.codes.now c.deref.result.now c.partition_point.result c.partition_point.ensures.bound point })
