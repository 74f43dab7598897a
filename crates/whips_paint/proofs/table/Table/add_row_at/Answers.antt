use Rattle.std.proofs.Common.{List, ◌<◌, ◌∙◌, [], ◌∷◌, ◌++◌, sym, ap, subst}
use Rattle.whips_flow.specs.Painted.{Colour, Row}
use Rattle.whips_paint.specs.Table.{ViewTable, table_of, IsInOrder}
use Rattle.whips_paint.proofs.Tables.{order_push}
use Rattle.whips_paint.proofs.table.Table.add_row_at.Goals as goal

pub invariant_of-self-2 : goal.invariant_of-self-2
invariant_of-self-2 c =
    let was : ViewTable = table_of c.self.inside.views c.self.inside.rows.items c.self.inside.last_announced in
    let entered : List Colour → Row = λ entries. record { number = c.args.number; source = c.args.source; place = c.args.place; entries = entries } in
    let above = subst (λ (t : ViewTable). t.table.last_announced < c.args.number) (sym c.self.view_is) c.requires.above in
    subst (λ rows. IsInOrder (table_of c.self.inside.views rows c.args.number))
    (sym (c.in_ok-push.ensures.items ∙ ap (λ r. c.self.inside.rows.items ++ r ∷ []) (c.new-row.ensures ∙ ap entered c.in_ok-entries.ensures)))
    (order_push was c.args.number c.args.source c.args.place c.args.concerned.now c.self.invariant above)
