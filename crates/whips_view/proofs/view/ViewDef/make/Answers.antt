use Rattle.std.proofs.Common.{◌≡◌, None, length, map, get_or}
use Rattle.whips_view.specs.ViewDefs.{no_columns}
use Rattle.whips_view.specs.Refusals.{relation_refusal}
use Rattle.whips_view.proofs.view.ViewDef.make.Goals as goal

pub returns-clause-made : goal.returns-clause-made
returns-clause-made c =
    let there : relation_refusal (length c.args.schemas.now.items) c.args.parts.relations ≡ None = rw (← c.deref.ensures.value) c.in_ok-check_lists.ensures.relations in
    let bases : c.in_ok-bases.bases.items ≡ map (λ r. get_or c.args.schemas.now.items r no_columns) c.args.parts.relations = rw (← c.relations.ensures) c.in_ok-bases.ensures.bases in
    rw (c.in_ok-check_lists.ensures.limits, there, c.in_ok-check_lists.ensures.once, ← bases) c.over.ensures.made

pub returns-clause-refused : goal.returns-clause-refused
returns-clause-refused c =
    let there : relation_refusal (length c.args.schemas.now.items) c.args.parts.relations ≡ None = rw (← c.deref.ensures.value) c.in_ok-check_lists.ensures.relations in
    let bases : c.in_ok-bases.bases.items ≡ map (λ r. get_or c.args.schemas.now.items r no_columns) c.args.parts.relations = rw (← c.relations.ensures) c.in_ok-bases.ensures.bases in
    rw (c.in_ok-check_lists.ensures.limits, there, c.in_ok-check_lists.ensures.once, ← bases) c.over.ensures.refused
