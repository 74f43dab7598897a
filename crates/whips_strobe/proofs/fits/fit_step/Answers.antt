use Rattle.std.proofs.Common.{◌≡◌, ◌+◌, true, false, sym, ◌∙◌}
use Rattle.whips_view.specs.ViewDefs.{keyed}
use Rattle.whips_view.specs.Widths.{widths_of}
use Rattle.whips_strobe.proofs.Fitted.{replied_to, replied_from, differ_is, is_differ}
use Rattle.whips_strobe.proofs.fits.fit_step.Goals as goal

pub returns-then-are_filled_after : goal.returns-then-are_filled_after
returns-then-are_filled_after c = (
  λ h. (
    replied_to (keyed c.args.view.now) (widths_of c.args.view.now) c.args.origin (c.args.step + 1) c.args.partials.now (sym c.are_filled_after.ensures ∙ c.if-are_filled_after.true),
    differ_is (keyed c.args.view.now).keys c.args.partials.now (sym c.all_differ.ensures ∙ h),
  ),
  λ f. c.all_differ.ensures ∙ is_differ (keyed c.args.view.now).keys c.args.partials.now f.1,
)

pub returns-else-are_filled_after : goal.returns-else-are_filled_after
returns-else-are_filled_after c = (
  λ h. let e : true ≡ false = sym h ∙ c.if-are_filled_after.false in absurd (cc),
  λ f. c.are_filled_after.ensures ∙ replied_from (keyed c.args.view.now) (widths_of c.args.view.now) c.args.origin (c.args.step + 1) c.args.partials.now f.0,
)
