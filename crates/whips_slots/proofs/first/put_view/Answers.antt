use Rattle.std.proofs.Common.{◌+◌, ◌≡◌, suc, length, ap, ◌∙◌, arith}
use Rattle.whips_model.specs.Tuples.{Columns}
use Rattle.whips_slots.proofs.Layouts.{view_put}
use Rattle.whips_slots.proofs.first.put_view.Goals as goal

pub returns : goal.returns
returns c =
    let same = ap length (c.kinds.ensures.kinds ∙ ap (λ (t : Columns). t.kinds) c.schema.ensures.schema) in
    let entry : length c.kinds.result.now + 1 ≡ suc (length c.args.rows.now.columns.kinds) = omega (arith, same) in
    view_put c.args.versions (length c.args.rows.now.columns.kinds) c.args.slots (length c.kinds.result.now + 1) c.len.result c.args.rows.now.rows c.args.words.now.items c.put_all_rows.new.words.items c.put_zeros.new.words.items
    entry c.len.ensures c.in_ok-put_all_rows.ensures c.in_ok-put_zeros.ensures
