use Rattle.std.proofs.Common.{◌≡◌, true, refl, sym, ap, subst, ◌∙◌}
use Rattle.whips_flow.specs.declared.event.Event.TheVariants.{Answer}
use Rattle.whips_contents.specs.Events.{is_enabled_loaded}
use Rattle.whips_core.specs.Cores.{CoreData}
use Rattle.whips_source.specs.Asks.{IsAskTo}
use Rattle.whips_contents.specs.Events.{oldest_ask_to}
use Rattle.whips_core.proofs.Carried.{closed_same, if_some, calls_fit}
use Rattle.whips_core.proofs.cores.Core.answer.Goals as goal

pub answer-requires-clause-fits : goal.answer-requires-clause-fits
answer-requires-clause-fits g c = λ z at. if_some (IsAskTo z.site.views z.site.source) (oldest_ask_to c.args.x z) (λ ask oldest. (calls_fit c.self.inside.setup c.self.inside.pipeline (c.self.invariant.0 (ap (λ (d : CoreData). d.stopped) c.self.view_is ∙ c.requires.runs)).carried).asks c.args.y c.args.x z ask at oldest)

pub invariant_of-self-2 : goal.invariant_of-self-2
invariant_of-self-2 g c = (
  λ on. closed_same c.self.inside.setup c.self.inside.pipeline c.answer.new.self c.self.inside.integrator (Answer c.args.y c.args.x) (c.self.invariant.0 (ap (λ (d : CoreData). d.stopped) c.self.view_is ∙ c.requires.runs)) (subst (λ (d : CoreData). is_enabled_loaded d.loaded (Answer c.args.y c.args.x) ≡ true) (sym c.self.view_is) c.requires.enabled) refl c.in_ok-answer.ensures refl,
  c.self.invariant.1,
)
