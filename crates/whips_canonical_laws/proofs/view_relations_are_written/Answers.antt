use Rattle.whips_canonical_laws.proofs.Views.{view_relations_written}
use Rattle.whips_canonical_laws.proofs.view_relations_are_written.Goals as goal

pub returns : goal.returns
returns c = view_relations_written
