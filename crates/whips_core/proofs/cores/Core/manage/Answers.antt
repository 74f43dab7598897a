use Rattle.std.proofs.Common.{◌≡◌, true, refl, sym, ap, subst, ◌∙◌}
use Rattle.whips_flow.specs.declared.event.Event.TheVariants.{Manage}
use Rattle.whips_contents.specs.Events.{is_enabled_loaded}
use Rattle.whips_core.specs.Cores.{CoreData}
use Rattle.std.specs.Prelude.{slice_get}
use Rattle.whips_lists.specs.Lists.{front}
use Rattle.whips_core_laws.specs.Calls.{FitsInput}
use Rattle.whips_core.proofs.Carried.{closed_same, if_some, calls_fit, input_there, managed_is, managed_numbering}
use Rattle.whips_core.proofs.cores.Core.manage.Goals as goal

pub manage-requires : goal.manage-requires
manage-requires g c = record { fits = λ m at. if_some (FitsInput m.manager) (front m.messages) (λ i first. (calls_fit c.self.inside.setup c.self.inside.pipeline (c.self.invariant.0 (ap (λ (d : CoreData). d.stopped) c.self.view_is ∙ c.requires.runs)).carried).inputs c.args.x m i at first) }

pub invariant_of-self-2 : goal.invariant_of-self-2
invariant_of-self-2 g c =
    let enabled = subst (λ (d : CoreData). is_enabled_loaded d.loaded (Manage c.args.x) ≡ true) (sym c.self.view_is) c.requires.enabled in
    let t = input_there c.self.inside.pipeline c.args.x enabled in (
      λ on. closed_same c.self.inside.setup c.self.inside.pipeline c.manage.new.self c.self.inside.integrator (Manage c.args.x) (c.self.invariant.0 (ap (λ (d : CoreData). d.stopped) c.self.view_is ∙ c.requires.runs)) enabled refl
          (c.in_ok-manage.ensures t.0 t.1 t.2 t.3 ∙ managed_is c.self.inside.pipeline c.args.x t.0 t.1 t.2 t.3) (managed_numbering c.self.inside.pipeline c.args.x (slice_get c.self.inside.pipeline.managers c.args.x)),
      c.self.invariant.1,
    )
