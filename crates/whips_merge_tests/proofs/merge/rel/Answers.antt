use Rattle.whips_merge_tests.proofs.Kept.{rel_keeps}
use Rattle.whips_merge_tests.proofs.merge.rel.Goals as goal

pub returns-clause-cuts : goal.returns-clause-cuts
returns-clause-cuts c = rw c.in_ok-rel.ensures.taken (rel_keeps 2 _ _ c.requires.cuts)
