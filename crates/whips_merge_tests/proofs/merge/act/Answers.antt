use Rattle.whips_merge_tests.proofs.Kept.{act_keeps}
use Rattle.whips_merge_tests.proofs.merge.act.Goals as goal

pub returns-clause-cuts : goal.returns-clause-cuts
returns-clause-cuts c = rw c.in_ok-act.ensures.taken (act_keeps 2 _ _ c.requires.cuts)
