use Rattle.std.proofs.Common.{ap, subst, ◌∙◌}
use Rattle.whips_core.specs.Cores.{CoreData, IsRun}
use Rattle.whips_core.proofs.Carried.{run_of}
use Rattle.whips_core.proofs.cores.Core.store.Goals as goal

pub returns-clause-carries : goal.returns-clause-carries
returns-clause-carries g c = λ on. subst (λ (d : CoreData). IsRun d.setup d.loaded) c.self.view_is
    (run_of c.self.inside.setup c.self.inside.pipeline (c.self.invariant.0 (ap (λ (d : CoreData). d.stopped) c.self.view_is ∙ on)).carried)
