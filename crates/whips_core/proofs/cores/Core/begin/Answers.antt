use Rattle.std.proofs.Common.{◌≡◌, true, sym, ap, subst, ◌∙◌}
use Rattle.whips_lists.specs.Lists.{front}
use Rattle.whips_flow.specs.declared.event.Event.TheVariants.{Begin}
use Rattle.whips_contents.specs.Events.{is_enabled_loaded}
use Rattle.whips_core.specs.Cores.{CoreData}
use Rattle.whips_core.proofs.Carried.{calls_fit, closed_same, begun_numbering}
use Rattle.whips_core.proofs.cores.Core.begin.Goals as goal

pub begin-requires-clause-fits : goal.begin-requires-clause-fits
begin-requires-clause-fits g c = (calls_fit c.self.inside.setup c.self.inside.pipeline (c.self.invariant.0 (ap (λ (d : CoreData). d.stopped) c.self.view_is ∙ c.requires.runs)).carried).begins

pub invariant_of-self : goal.invariant_of-self
invariant_of-self g c = (
  λ on. closed_same c.self.inside.setup c.self.inside.pipeline c.begin.new.self c.self.inside.integrator Begin (c.self.invariant.0 on) (subst (λ (d : CoreData). is_enabled_loaded d.loaded Begin ≡ true) (sym c.self.view_is) c.requires.enabled)
      c.in-Ok.ensures.room c.in-Ok.ensures.ok (begun_numbering c.self.inside.setup c.self.inside.pipeline (front c.self.inside.pipeline.merge.transactions)),
  c.self.invariant.1,
)
