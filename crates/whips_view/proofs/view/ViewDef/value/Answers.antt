use Rattle.whips_view.proofs.Valued.{bases_there, value_table}
use Rattle.whips_view.proofs.view.ViewDef.value.Goals as goal

pub value_rows-requires-clause-relations : goal.value_rows-requires-clause-relations
value_rows-requires-clause-relations c = rw (c.relations.ensures.relations, c.parts.ensures.parts) (bases_there c.args.db.now c.args.self.now.parts.relations c.args.self.now.bases c.requires)

pub from_rows-requires : goal.from_rows-requires
from_rows-requires c = rw (c.in_ok-copy.ensures, c.schema.ensures, c.in_ok-rows.ensures, c.relations.ensures.relations, c.parts.ensures.parts) (value_table c.args.db.now c.relations.ensures.sound c.args.self.now c.parts.ensures.sound c.requires)
