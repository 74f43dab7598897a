use Rattle.std.proofs.Common.{length, sym, ap, ◌∙◌}
use Rattle.std.specs.Prelude.{filter}
use Rattle.whips_flow.specs.Progress.{pipeline_events}
use Rattle.whips_contents.specs.Events.{is_enabled_loaded}
use Rattle.whips_core.specs.Cores.{CoreData}
use Rattle.whips_core.proofs.cores.Core.enabled_count.Goals as goal

pub returns : goal.returns
returns g c = λ f a b. c.count_of.ensures f
    (a ∙ sym (ap (λ (d : CoreData). length d.setup.views) c.self.view_is) ∙ sym c.views.ensures)
    (b ∙ sym (ap (λ (d : CoreData). d.setup.sources) c.self.view_is) ∙ sym c.sources.ensures.sources)
    ∙ ap (λ (d : CoreData). length (filter (is_enabled_loaded d.loaded) (pipeline_events f))) c.self.view_is
