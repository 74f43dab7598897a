use Rattle.std.proofs.Common.{◌∙◌, Some, sym, ap}
use Rattle.std.specs.Prelude.{not}
use Rattle.whips_flow.specs.Painted.{is_ready, is_waiting}
use Rattle.whips_paint.proofs.Ready.{none_later, some_same, waiting_first}
use Rattle.whips_paint.proofs.closure.first_ready.Goals as goal

pub returns-in_default : goal.returns-in_default
returns-in_default c =
    let rows = c.args.rows.now in
    sym (none_later (λ r. not (is_waiting r)) (is_ready rows) rows (waiting_first rows) (sym c.first_done.ensures ∙ c.in_default.is))

pub returns-then-branch : goal.returns-then-branch
returns-then-branch c =
    let rows = c.args.rows.now in
    sym (some_same (λ r. not (is_waiting r)) (is_ready rows) rows c.in-Some.place (waiting_first rows) (sym c.first_done.ensures ∙ c.in-Some.is) (c.in_ok-is_ready_at.ensures ∙ ap (λ b. Some b) c.if-branch.true))
