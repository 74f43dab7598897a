use Rattle.std.proofs.Common.{length, ap, ◌∙◌}
use Rattle.whips_core.specs.Cores.{CoreData}
use Rattle.whips_core.proofs.Carried.{cut_long}
use Rattle.whips_core.proofs.cores.Core.cut.Goals as goal

pub returns-clause-long : goal.returns-clause-long
returns-clause-long g c = λ on. ap length c.cut.ensures
    ∙ (cut_long c.self.inside.setup c.self.inside.pipeline (c.self.invariant.0 (ap (λ (d : CoreData). d.stopped) c.self.view_is ∙ on)).carried
    ∙ ap (λ (d : CoreData). d.setup.sources) c.self.view_is)
