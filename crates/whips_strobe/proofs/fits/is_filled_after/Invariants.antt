use Rattle.std.proofs.Common.{◌≡◌, ◌+◌, true}
use Rattle.whips_view.specs.ViewDefs.{keyed}
use Rattle.whips_view.specs.Widths.{widths_of}
use Rattle.whips_strobe.specs.Fitting.{are_filled_before}
use Rattle.whips_strobe.proofs.fits.is_filled_after.Given as goal

abbrev pub invariant-loop-part : goal.invariant-loop-part
invariant-loop-part l = are_filled_before (keyed l.view) (widths_of l.view) l.origin (l.step + 1) l.partial l.part ≡ true
