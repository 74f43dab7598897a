use Rattle.std.proofs.Common.{refl}
use Rattle.whips_merge_tests.proofs.merge.new.Goals as goal

pub returns-clause-cuts : goal.returns-clause-cuts
returns-clause-cuts c = rw c.in_ok-new.ensures (record { cut = rw c.in_ok-setup.ensures.sources refl; transactions = tt })
