use Rattle.std.proofs.Common.{◌∙◌, ap, subst}
use Rattle.std.specs.Prelude.{position}
use Rattle.whips_paint.specs.Marks.{IsSpread, is_clear}
use Rattle.whips_paint.specs.declared.bounds.Side.TheVariants.{Needing}
use Rattle.whips_paint.proofs.Ready.{first_ready_place, whole_slice}
use Rattle.whips_paint.proofs.closure.first_unmarked.Goals as goal

pub returns : goal.returns
returns c =
    let began = c.deref_mut.ensures.value ∙ c.in_ok-marks.ensures in
    let spread = subst (λ old. IsSpread Needing c.args.rows.now old c.spread.new.marks) began c.in_ok-spread.ensures.spread in
    c.first_clear.ensures
    ∙ ap (position is_clear) (c.deref.ensures.value ∙ whole_slice _ c.spread.new.marks _ (c.spread.ensures.size ∙ c.deref_mut.ensures.len))
    ∙ first_ready_place c.args.rows.now c.spread.new.marks c.requires spread
