use Rattle.std.proofs.Common.{◌<◌, length, sym, ◌∙◌, arith}
use Rattle.std.proofs.lemmas.List.{length-map}
use Rattle.whips_model.specs.Tuples.{Columns}
use Rattle.whips_view.specs.ViewDefs.{keyed}
use Rattle.whips_strobe.proofs.Fitted.{found_different}
use Rattle.whips_strobe.proofs.fits.are_different.Goals as goal

pub returns-then-differ_at : goal.returns-then-differ_at
returns-then-differ_at c =
    let keys = length-map c.args.view.now.bases (λ (b : Columns). b.key) in
    let width = c.width-part-end.ensures.width in
    let below = c.loop-part-test.true in
    let lt : c.loop-part.part < length (keyed c.args.view.now).keys = omega arith in
    sym (found_different (keyed c.args.view.now).keys c.args.p.now c.args.q.now (length (keyed c.args.view.now).keys) c.loop-part.part lt (sym c.differ_at.ensures ∙ c.if-differ_at.true))
