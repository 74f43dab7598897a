use Rattle.std.proofs.Common.{length}
use Rattle.whips_script_reading.proofs.views.Ground.+add_views_from.Given as goal

abbrev pub decreases-add_views_from : goal.decreases-add_views_from
decreases-add_views_from l = length l.items.now
