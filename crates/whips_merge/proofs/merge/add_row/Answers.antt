use Rattle.std.proofs.Common.{◌≡◌, None, sym, ap, subst}
use Rattle.whips_paint.specs.Table.{ViewTable, ready_numbers}
use Rattle.whips_merge.proofs.Unready.{unready_announced}
use Rattle.whips_merge.proofs.merge.add_row.Goals as goal

pub returns-in-Ok-clause-unready : goal.returns-in-Ok-clause-unready
returns-in-Ok-clause-unready c =
    let t = c.args.table.now in
    subst (λ l. ready_numbers l ≡ None) (sym (ap (λ (z : ViewTable). z.table.rows) c.in-Ok.ensures.ok)) (unready_announced t.table.rows t.views c.args.number c.args.source c.args.place c.args.concerned.now c.requires.some c.requires.there c.requires.unready)
