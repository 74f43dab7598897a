use Rattle.std.proofs.Common.{not, ◌∙◌}
use Rattle.whips_model.specs.Tuples.{at_columns, has_key}
use Rattle.whips_model.specs.Search.{IsRowAt}
use Rattle.whips_model.proofs.Keyed.{remove_is_without, keyed_filter}
use Rattle.whips_view.proofs.net.take_out.Goals as goal

pub returns-in-Ok-clause-rows : goal.returns-in-Ok-clause-rows
returns-in-Ok-clause-rows c =
    let key = c.args.schema.now.key in
    let k = at_columns key c.args.tuple.now in
    let at : IsRowAt key c.args.rows.now.items k c.in-Ok.at = rw (← c.deref.ensures.value) c.in-Ok.ensures.found in
    c.remove.ensures.items ∙ remove_is_without key k c.args.rows.now.items c.in-Ok.at c.requires at

pub returns-in-Ok-clause-keyed : goal.returns-in-Ok-clause-keyed
returns-in-Ok-clause-keyed c =
    let key = c.args.schema.now.key in
    let k = at_columns key c.args.tuple.now in
    let at : IsRowAt key c.args.rows.now.items k c.in-Ok.at = rw (← c.deref.ensures.value) c.in-Ok.ensures.found in
    rw (c.remove.ensures.items ∙ remove_is_without key k c.args.rows.now.items c.in-Ok.at c.requires at) (keyed_filter key (λ t. not (has_key key k t)) c.args.rows.now.items c.requires)
