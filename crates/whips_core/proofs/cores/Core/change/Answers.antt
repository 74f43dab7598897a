use Rattle.std.proofs.Common.{◌≡◌, true, refl, sym, subst}
use Rattle.whips_flow.specs.declared.event.Event.TheVariants.{Change}
use Rattle.whips_contents.specs.Events.{is_enabled_loaded}
use Rattle.whips_core.specs.Cores.{CoreData}
use Rattle.whips_core.proofs.Carried.{closed_same}
use Rattle.whips_core.proofs.cores.Core.change.Goals as goal

pub invariant_of-self : goal.invariant_of-self
invariant_of-self g c = (
  λ on. closed_same c.self.inside.setup c.self.inside.pipeline c.change.new.self c.self.inside.integrator Change (c.self.invariant.0 on) (subst (λ (d : CoreData). is_enabled_loaded d.loaded (Change) ≡ true) (sym c.self.view_is) c.requires.enabled) refl c.change.ensures refl,
  c.self.invariant.1,
)
