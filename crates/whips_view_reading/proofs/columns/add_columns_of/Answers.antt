use Rattle.std.proofs.Common.{◌++◌, sym, ap, ◌∙◌}
use Rattle.std.proofs.lemmas.List.{append-nil}
use Rattle.std.proofs.lemmas.Option.{slice_get_past}
use Rattle.whips_view_reading.specs.Columns.{columns_at}
use Rattle.whips_view_reading.proofs.columns.add_columns_of.Goals as goal

pub returns-in-None : goal.returns-in-None
returns-in-None c =
    sym (append-nil c.args.columns.now.items)
    ∙ ap (λ o. c.args.columns.now.items ++ columns_at c.args.part o) (sym (slice_get_past c.args.relations.now c.args.number c.in-None.ensures.lookup.3))
