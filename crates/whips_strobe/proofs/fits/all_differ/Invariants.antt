use Rattle.std.proofs.Common.{◌≡◌, drop}
use Rattle.whips_view.specs.ViewDefs.{keyed}
use Rattle.whips_strobe.specs.Fitting.{all_differ}
use Rattle.whips_strobe.proofs.fits.all_differ.Given as goal

abbrev pub invariant-loop-i : goal.invariant-loop-i
invariant-loop-i l = all_differ (keyed l.view).keys (drop l.i l.partials) ≡ all_differ (keyed l.view).keys l.partials
