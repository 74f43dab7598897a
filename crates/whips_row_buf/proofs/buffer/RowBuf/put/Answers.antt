use Rattle.std.proofs.Common.{◌≡◌, ◌<◌, ◌≤◌, length, rules, arith, sym, subst}
use Rattle.std.specs.Prelude.{vec_capacity, vec_len, insert}
use Rattle.whips_row_buf.specs.Buffers.{Buffer, put_behind}
use Rattle.whips_row_buf.proofs.Order.{parts_after_put}
use Rattle.whips_row_buf.proofs.buffer.RowBuf.put.Goals as goal

pub invariant_of-self-in-Some-2 : goal.invariant_of-self-in-Some-2
invariant_of-self-in-Some-2 c =
    let i = c.self.invariant in
    let buffer : Buffer = record { columns = c.self.inside.schema; rows = c.self.inside.rows.items; room = c.self.inside.room } in
    let room : length c.self.inside.rows.items < c.self.inside.room = subst (λ (b : Buffer). length b.rows < b.room) (sym c.self.view_is) c.requires.room in
    let width : length c.args.codes.now ≡ length c.self.inside.schema.kinds = subst (λ (b : Buffer). length c.args.codes.now ≡ length b.columns.kinds) (sym c.self.view_is) c.requires.width in
    let place : insert c.self.inside.rows.items c.place-at.result c.args.codes.now ≡ put_behind c.self.inside.schema.key c.args.codes.now c.self.inside.rows.items =
    subst (λ (b : Buffer). insert b.rows c.place-at.result c.args.codes.now ≡ put_behind b.columns.key c.args.codes.now b.rows) (sym c.self.view_is) c.place-at.ensures.place in
    let capacity : c.self.inside.room ≤ vec_capacity c.self.inside.rows = i.3 in
    let spare : c.self.inside.room ≤ vec_capacity c.self.inside.spare = i.4 in
    let counted : length c.self.inside.rows.items ≡ vec_len c.self.inside.rows = search rules in
    let parts = parts_after_put buffer c.self.inside.spare.items c.pop.new.self.items c.insert-put.new.self.items c.in-Some.line c.args.codes.now c.set.new.self c.place-at.result c.insert-put.result i.0 i.1 i.2 room width c.in-Some.ensures.items c.set.ensures (c.insert-put.ensures.succeeds (omega arith)) c.insert-put.ensures.items place in
    let grown : vec_capacity c.self.inside.rows ≤ vec_capacity c.insert-put.new.self = c.insert-put.ensures.capacity in
    let kept : vec_capacity c.pop.new.self ≡ vec_capacity c.self.inside.spare = c.pop.ensures.capacity in
    (parts.0, parts.1, parts.2, omega arith, omega arith, i.5)
