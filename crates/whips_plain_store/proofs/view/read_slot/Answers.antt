use Rattle.std.proofs.Common.{◌≡◌, length, sym, ap, ◌∙◌}
use Rattle.whips_model.specs.Tuples.{Columns}
use Rattle.whips_plain_store.proofs.Steps.{wide_row}
use Rattle.whips_plain_store.proofs.view.read_slot.Goals as goal

pub put-requires-clause-width : goal.put-requires-clause-width
put-requires-clause-width c =
    let wide = wide_row c.args.records.now c.args.i (length c.args.schema.now.kinds) c.args.n c.args.v c.index-records-i.result c.in-Some.row.now c.requires.slot c.index-records-i.is c.requires.widths c.in-Some.ensures in
    ap length c.codes.ensures ∙ wide ∙ sym (ap (λ (columns : Columns). length columns.kinds) c.requires.columns)
