use Rattle.std.proofs.Common.{◌∙◌}
use Rattle.whips_view.specs.ViewDefs.{keyed}
use Rattle.whips_strobe.proofs.Fitted.{filled_origin, filled_asked}
use Rattle.whips_strobe.proofs.fits.is_filled.Goals as goal

pub returns-then-part-origin : goal.returns-then-part-origin
returns-then-part-origin c = filled_origin (keyed c.args.view.now) c.args.origin c.args.step c.args.part c.if-part-origin.true

pub returns-else-part-origin : goal.returns-else-part-origin
returns-else-part-origin c =
    c.is_asked.ensures ∙ filled_asked (keyed c.args.view.now) c.args.origin c.args.step c.args.part c.sources.result.now c.home.result c.sources.ensures.sources c.home.ensures c.if-part-origin.false
