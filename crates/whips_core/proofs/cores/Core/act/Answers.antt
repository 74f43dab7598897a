use Rattle.std.proofs.Common.{◌≡◌, ◌<◌, true, refl, sym, ap, subst, ◌∙◌, length}
use Rattle.whips_flow.specs.declared.event.Event.TheVariants.{Act}
use Rattle.whips_contents.specs.Events.{is_enabled_loaded}
use Rattle.whips_core.specs.Cores.{CoreData}
use Rattle.whips_contents.specs.Events.{oldest_list, after_list}
use Rattle.whips_actions.specs.declared.action.ActionList.{ActionList}
use Rattle.whips_lists.proofs.Options.{some_of}
use Rattle.whips_core.proofs.Carried.{closed_same, if_some, calls_fit, acted_numbering, core_after}
use Rattle.whips_core.proofs.cores.Core.act.Goals as goal

pub act-requires-clause-fits : goal.act-requires-clause-fits
act-requires-clause-fits g c = if_some (λ (list : ActionList). list.view < length c.self.inside.pipeline.merge.lists) (oldest_list c.self.inside.pipeline c.args.x) (λ list oldest. (calls_fit c.self.inside.setup c.self.inside.pipeline (c.self.invariant.0 (ap (λ (d : CoreData). d.stopped) c.self.view_is ∙ c.requires.runs)).carried).lists c.args.x list oldest)

pub invariant_of-self-2 : goal.invariant_of-self-2
invariant_of-self-2 g c =
    let enabled = subst (λ (d : CoreData). is_enabled_loaded d.loaded (Act c.args.x) ≡ true) (sym c.self.view_is) c.requires.enabled in
    let t = some_of (oldest_list c.self.inside.pipeline c.args.x) enabled in (
      λ on. closed_same c.self.inside.setup c.self.inside.pipeline c.act.new.self c.self.inside.integrator (Act c.args.x) (c.self.invariant.0 (ap (λ (d : CoreData). d.stopped) c.self.view_is ∙ c.requires.runs)) enabled refl
          (c.in_ok-act.ensures t.0 t.1 ∙ sym (ap (λ o. after_list c.args.x o c.self.inside.pipeline) t.1)) (acted_numbering c.self.inside.pipeline c.args.x (oldest_list c.self.inside.pipeline c.args.x)),
      c.self.invariant.1,
    )

pub returns-clause-ok : goal.returns-clause-ok
returns-clause-ok g c =
    let enabled = subst (λ (d : CoreData). is_enabled_loaded d.loaded (Act c.args.x) ≡ true) (sym c.self.view_is) c.requires.enabled in
    let t = some_of (oldest_list c.self.inside.pipeline c.args.x) enabled in
    core_after (record { setup = c.self.inside.setup; loaded = c.self.inside.pipeline; stopped = c.self.inside.is_stopped }) c.args.self.now c.act.new.self (Act c.args.x) c.self.view_is c.requires.runs
    (c.in_ok-act.ensures t.0 t.1 ∙ sym (ap (λ o. after_list c.args.x o c.self.inside.pipeline) t.1))
