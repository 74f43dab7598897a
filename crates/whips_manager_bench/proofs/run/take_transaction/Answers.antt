use Rattle.std.proofs.Common.{subst, sym, ap, ◌∙◌}
use Rattle.whips_view.specs.ViewDefs.{View, keyed, row_columns}
use Rattle.whips_view.specs.Widths.{widths_of}
use Rattle.whips_managers.specs.Messages.{HaveWidths}
use Rattle.whips_strobe.specs.Strobes.{ManagerData}
use Rattle.whips_manager_bench.proofs.Fed.{pairs_wide, last_taken}
use Rattle.whips_manager_bench.proofs.run.take_transaction.Goals as goal

pub update-requires-clause-widths : goal.update-requires-clause-widths
update-requires-clause-widths c = subst (λ (v : View). HaveWidths (keyed v) (widths_of v) c.args.t.now) (sym c.requires.view) (pairs_wide c.args.view.now c.args.t.now c.requires.pairs c.requires.widths)

pub returns-clause-last : goal.returns-clause-last
returns-clause-last c =
    ap (λ (m : ManagerData). m.state.last) c.in_ok-out.ensures.state
    ∙ last_taken (keyed c.args.manager.now.view) (row_columns c.args.manager.now.view) c.args.number c.args.manager.now.state c.args.t.now
