use Rattle.whips_merge_tests.proofs.Kept.{next_keeps, front_cuts}
use Rattle.whips_merge_tests.proofs.merge.next.Goals as goal

pub returns-clause-cuts : goal.returns-clause-cuts
returns-clause-cuts c = rw c.next.ensures.left (next_keeps 2 _ c.requires.cuts)

pub returns-clause-cut : goal.returns-clause-cut
returns-clause-cut c = rw c.next.ensures.next (front_cuts 2 _ c.requires.cuts.transactions)
