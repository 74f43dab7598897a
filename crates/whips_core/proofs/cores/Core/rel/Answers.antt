use Rattle.std.proofs.Common.{◌≡◌, true, refl, sym, ap, subst, ◌∙◌}
use Rattle.whips_flow.specs.declared.event.Event.TheVariants.{Rel}
use Rattle.whips_contents.specs.Events.{is_enabled_loaded}
use Rattle.whips_core.specs.Cores.{CoreData}
use Rattle.whips_lists.specs.Lists.{front}
use Rattle.whips_core_laws.specs.Calls.{FitsRel}
use Rattle.whips_core.proofs.Carried.{closed_same, if_some, calls_fit, released_numbering}
use Rattle.whips_core.proofs.cores.Core.rel.Goals as goal

pub rel-requires-clause-fits : goal.rel-requires-clause-fits
rel-requires-clause-fits g c = if_some (FitsRel c.self.inside.pipeline.merge) (front c.self.inside.pipeline.announcements) (λ a first. (calls_fit c.self.inside.setup c.self.inside.pipeline (c.self.invariant.0 (ap (λ (d : CoreData). d.stopped) c.self.view_is ∙ c.requires.runs)).carried).announcements a first)

pub invariant_of-self-2 : goal.invariant_of-self-2
invariant_of-self-2 g c = (
  λ on. closed_same c.self.inside.setup c.self.inside.pipeline c.rel.new.self c.self.inside.integrator Rel (c.self.invariant.0 (ap (λ (d : CoreData). d.stopped) c.self.view_is ∙ c.requires.runs)) (subst (λ (d : CoreData). is_enabled_loaded d.loaded (Rel) ≡ true) (sym c.self.view_is) c.requires.enabled) refl c.in_ok-rel.ensures (released_numbering c.self.inside.pipeline (front c.self.inside.pipeline.announcements)),
  c.self.invariant.1,
)
