use Rattle.std.proofs.Common.{◌∙◌, ap, subst}
use Rattle.std.proofs.Math.ListN.{set}
use Rattle.whips_paint.specs.Marks.{IsSpread}
use Rattle.whips_paint.specs.declared.marks.Mark.TheVariants.{Found}
use Rattle.whips_paint.specs.declared.bounds.Side.TheVariants.{Needed}
use Rattle.whips_paint.proofs.Ready.{whole_slice}
use Rattle.whips_paint.proofs.closure.closure_marks.Goals as goal

pub returns : goal.returns
returns c =
    let rows = c.args.rows.now in
    let began = c.deref_mut.ensures.value ∙ ap (λ blank. set blank c.args.place Found) (c.in_ok-marks.ensures.items_if_clones_equal (λ y e. e)) in
    let spread = subst (λ old. IsSpread Needed rows old c.spread.new.marks) began c.in_ok-spread.ensures.spread in
    rw (whole_slice _ c.spread.new.marks _ (c.spread.ensures.size ∙ c.deref_mut.ensures.len)) spread
