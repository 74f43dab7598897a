use Rattle.whips_gen.proofs.Small.{views_small}
use Rattle.whips_gen.proofs.views_are_small.Goals as goal

pub returns : goal.returns
returns c = views_small
