use Rattle.std.proofs.Common.{◌∙◌, Some, sym, ap}
use Rattle.std.specs.List.{list_all, zip}
use Rattle.whips_paint.specs.Marks.{is_fit_pair}
use Rattle.whips_paint.proofs.Ready.{ready_at}
use Rattle.whips_paint.proofs.closure.is_ready_at.Goals as goal

pub returns : goal.returns
returns c =
    let rows = c.args.rows.now in
    ready_at rows c.in_ok-marks.marks.items c.args.place c.requires.order c.requires.place c.in_ok-marks.ensures
    ∙ ap (λ b. Some b) (sym (c.none_waits.ensures ∙ ap (λ ms. list_all is_fit_pair (zip rows ms)) c.deref.ensures.value))
