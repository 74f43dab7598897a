use Rattle.std.proofs.Common.{◌∙◌, sym, ap, subst}
use Rattle.std.specs.Prelude.{map}
use Rattle.std.proofs.Math.ListN.{set}
use Rattle.std.proofs.lemmas.List.Edits.{map_over_more}
use Rattle.whips_flow.specs.Painted.{painted_row}
use Rattle.whips_paint.specs.Table.{ViewTable, table_of, IsInOrder}
use Rattle.whips_paint.proofs.Ready.{whole_slice}
use Rattle.whips_paint.proofs.Tables.{order_paint, painted_whole}
use Rattle.whips_paint.proofs.table.Table.paint.Goals as goal

pub loop-row-preserved : goal.loop-row-preserved
loop-row-preserved c =
    ap (set c.loop-row.row-items c.loop-row.row-index) (c.paint.ensures ∙ ap (painted_row c.args.view c.args.upto) (sym c.row-item.is))
    ∙ map_over_more (painted_row c.args.view c.args.upto) c.deref_mut-row-items.result.now c.loop-row.row-items c.loop-row.row-index c.row-item.result c.loop-row-test.true c.loop-row.invariant c.row-item.is

pub invariant_of-self : goal.invariant_of-self
invariant_of-self c =
    let was : ViewTable = table_of c.self.inside.views c.self.inside.rows.items c.self.inside.last_announced in
    subst (λ rows. IsInOrder (table_of c.self.inside.views rows c.self.inside.last_announced))
    (sym (whole_slice _ c.loop-row.row-items _ (c.loop-row.auto.row-items ∙ c.deref_mut-row-items.ensures.len)
    ∙ painted_whole c.args.view c.args.upto c.deref_mut-row-items.result.now c.loop-row.row-items c.loop-row.row-index c.loop-row.invariant c.loop-row-test.false
    ∙ ap (map (painted_row c.args.view c.args.upto)) c.deref_mut-row-items.ensures.value))
    (order_paint was c.args.view c.args.upto c.self.invariant)
