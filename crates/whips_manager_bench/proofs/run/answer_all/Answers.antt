use Rattle.std.proofs.Common.{Option, subst, IfSome}
use Rattle.whips_view.specs.ViewDefs.{View}
use Rattle.whips_actions.specs.Lists.{AreActionsOf}
use Rattle.whips_actions.specs.declared.action.ActionList.{ActionList}
use Rattle.whips_manager_bench.proofs.run.answer_all.Goals as goal

pub returns-in-Some : goal.returns-in-Some
returns-in-Some c =
    let of_view = subst (λ (v : View). IfSome c.in_ok-list.list (λ (l : ActionList). AreActionsOf v l.actions)) c.loop-ask.invariant c.in_ok-list.ensures.actions in
    subst (λ (o : Option ActionList). IfSome o (λ (l : ActionList). AreActionsOf c.args.view.now l.actions)) c.in-Some.is of_view
