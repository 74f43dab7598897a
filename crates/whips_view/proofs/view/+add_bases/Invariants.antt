use Rattle.std.proofs.Common.{length}
use Rattle.whips_view.proofs.view.+add_bases.Given as goal

abbrev pub decreases-add_bases : goal.decreases-add_bases
decreases-add_bases l = length l.relations.now
