use Rattle.std.proofs.Common.{◌≡◌, IfSome, arith, ap, subst, sym, ◌∙◌}
use Rattle.whips_view.specs.ViewDefs.{View, keyed, row_columns}
use Rattle.whips_actions.specs.declared.action.ActionList.{ActionList}
use Rattle.whips_actions.specs.Lists.{AreActionsOf}
use Rattle.whips_view.specs.Widths.{widths_of}
use Rattle.whips_managers.specs.Messages.{HaveWidths}
use Rattle.whips_strobe.specs.Strobes.{ManagerData}
use Rattle.whips_manager_tests.proofs.Told.{have_widths, last_taken}
use Rattle.whips_manager_tests.proofs.feed.update.Goals as goal

pub update-requires-clause-widths : goal.update-requires-clause-widths
update-requires-clause-widths c =
    subst (λ (v : View). HaveWidths (keyed v) (widths_of v) c.args.t.now) (sym c.requires.view) (have_widths c.args.view.now c.args.t.now c.requires.relations c.requires.tuples)

pub returns-clause-last : goal.returns-clause-last
returns-clause-last c =
    let is : c.update.new.self.state.last ≡ c.args.number =
    ap (λ (m : ManagerData). m.state.last) c.in_ok-update.ensures.state
    ∙ last_taken (keyed c.args.manager.now.view) (row_columns c.args.manager.now.view) c.args.manager.now.state c.args.number c.args.t.now in
    omega arith

pub returns-clause-actions : goal.returns-clause-actions
returns-clause-actions c =
    subst (λ (v : View). IfSome c.in_ok-update.field-0.list (λ (l : ActionList). AreActionsOf v l.actions)) c.requires.view c.in_ok-update.ensures.actions
