use Rattle.std.proofs.Common.{ap, ◌∙◌}
use Rattle.whips_view.specs.ViewDefs.{keyed, row_columns}
use Rattle.whips_strobe.specs.Strobes.{ManagerData}
use Rattle.whips_manager_tests.proofs.Told.{last_kept}
use Rattle.whips_manager_tests.proofs.feed.answer.Goals as goal

pub returns-clause-last : goal.returns-clause-last
returns-clause-last c =
    ap (λ (m : ManagerData). m.state.last) c.in_ok-reply.ensures.state
    ∙ last_kept (keyed c.args.manager.now.view) (row_columns c.args.manager.now.view) c.args.manager.now.state c.args.reply.update c.args.reply.origin c.args.reply.partials
