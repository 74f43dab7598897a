use Rattle.std.proofs.Common.{◌≡◌, true, refl, sym, ap, subst, ◌∙◌}
use Rattle.whips_flow.specs.declared.event.Event.TheVariants.{Integrate}
use Rattle.whips_contents.specs.Events.{is_enabled_loaded}
use Rattle.whips_core.specs.Cores.{CoreData}
use Rattle.whips_core.proofs.Carried.{closed, calls_fit}
use Rattle.whips_core.proofs.cores.Core.integrate.Goals as goal

pub integrate-requires-clause-there : goal.integrate-requires-clause-there
integrate-requires-clause-there g c = (calls_fit c.self.inside.setup c.self.inside.pipeline (c.self.invariant.0 (ap (λ (d : CoreData). d.stopped) c.self.view_is ∙ c.requires.runs)).carried).messages c.args.y (subst (λ (d : CoreData). is_enabled_loaded d.loaded (Integrate c.args.y) ≡ true) (sym c.self.view_is) c.requires.enabled)

pub invariant_of-self-2 : goal.invariant_of-self-2
invariant_of-self-2 g c = (
  λ on. closed c.self.inside.setup c.self.inside.pipeline c.integrate.new.self c.self.inside.integrator c.integrate.new.integrator (Integrate c.args.y) (c.self.invariant.0 (ap (λ (d : CoreData). d.stopped) c.self.view_is ∙ c.requires.runs)) (subst (λ (d : CoreData). is_enabled_loaded d.loaded (Integrate c.args.y) ≡ true) (sym c.self.view_is) c.requires.enabled) refl c.in_ok-integrate.ensures.ok c.in_ok-integrate.ensures.counted,
  c.self.invariant.1,
)
