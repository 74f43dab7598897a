use Rattle.std.proofs.Common.{◌≡◌, true, refl, sym, ap, subst, ◌∙◌}
use Rattle.whips_flow.specs.declared.event.Event.TheVariants.{Publish}
use Rattle.whips_contents.specs.Events.{is_enabled_loaded}
use Rattle.whips_core.specs.Cores.{CoreData}
use Rattle.whips_core.proofs.Carried.{closed_same}
use Rattle.whips_core.proofs.cores.Core.publish.Goals as goal

pub invariant_of-self-2 : goal.invariant_of-self-2
invariant_of-self-2 g c = (
  λ on. closed_same c.self.inside.setup c.self.inside.pipeline c.publish.new.self c.self.inside.integrator Publish (c.self.invariant.0 (ap (λ (d : CoreData). d.stopped) c.self.view_is ∙ c.requires.runs)) (subst (λ (d : CoreData). is_enabled_loaded d.loaded (Publish) ≡ true) (sym c.self.view_is) c.requires.enabled) refl c.in_ok-publish.ensures refl,
  c.self.invariant.1,
)
