use Rattle.std.proofs.Common.{arith, refl}
use Rattle.whips_setup.proofs.Bases.{bases_more}
use Rattle.whips_setup.proofs.limits.+are_bases.Goals as goal

pub returns-then-not-is_source : goal.returns-then-not-is_source
returns-then-not-is_source t c =
    rw (bases_more c.args.at.now c.args.initial.now c.args.relations.now c.args.homes.now c.args.view.now.bases c.args.part c.base-base.result.now (omega arith) (omega arith) c.base-base.ensures, ← c.is_source.ensures, c.if-not-is_source.true) refl

pub returns-then-not-is_over : goal.returns-then-not-is_over
returns-then-not-is_over t c =
    rw (bases_more c.args.at.now c.args.initial.now c.args.relations.now c.args.homes.now c.args.view.now.bases c.args.part c.base-base.result.now (omega arith) (omega arith) c.base-base.ensures, ← c.is_source.ensures, ← c.is_over.ensures, c.if-not-is_source.false, c.if-not-is_over.true) refl

pub returns-else-not-is_over : goal.returns-else-not-is_over
returns-else-not-is_over t c =
    rw (bases_more c.args.at.now c.args.initial.now c.args.relations.now c.args.homes.now c.args.view.now.bases c.args.part c.base-base.result.now (omega arith) (omega arith) c.base-base.ensures, ← c.is_source.ensures, ← c.is_over.ensures, c.if-not-is_source.false, c.if-not-is_over.false) c.are_bases.ensures
