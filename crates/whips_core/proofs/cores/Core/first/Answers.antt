use Rattle.std.proofs.Common.{length, sym, ap, ap₂, ◌∙◌}
use Rattle.std.specs.Prelude.{find}
use Rattle.whips_contents.specs.Events.{is_enabled_loaded}
use Rattle.whips_core.specs.Cores.{CoreData}
use Rattle.whips_core.specs.Groups.{events_of}
use Rattle.whips_core.proofs.cores.Core.first.Goals as goal

pub returns : goal.returns
returns g c = λ f a b. c.first_of.ensures
    ∙ ap₂ (λ (d : CoreData) events. find (is_enabled_loaded d.loaded) events) c.self.view_is
    (ap events_of c.deref.ensures.value ∙ c.self.invariant.1.are f (a ∙ sym (ap (λ (d : CoreData). length d.setup.views) c.self.view_is))
    (b ∙ sym (ap (λ (d : CoreData). d.setup.sources) c.self.view_is)))
