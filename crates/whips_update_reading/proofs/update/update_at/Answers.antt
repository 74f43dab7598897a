use Rattle.serde_json.specs.View.{view}
use Rattle.whips_reading.specs.Places.{path_steps}
use Rattle.whips_update_reading.proofs.Edits.{update_found, update_made}
use Rattle.whips_update_reading.proofs.update.update_at.Goals as goal

pub returns-clause-update : goal.returns-clause-update
returns-clause-update c = update_found c.args.scope.now.texts c.args.tables.now.items c.args.target.relation c.index_mut.result.now c.make_update.new.relation c.args.target.change (path_steps c.args.path.now) (view c.args.values.now) c.requires c.index_mut.ensures.value c.make_update.result c.make_update.ensures.update

pub returns-clause-made : goal.returns-clause-made
returns-clause-made c = update_made c.args.scope.now.texts c.args.tables.now.items c.args.target.relation c.index_mut.result.now c.make_update.new.relation c.args.target.change (path_steps c.args.path.now) (view c.args.values.now) c.requires c.index_mut.ensures.value c.make_update.result c.make_update.ensures.made
