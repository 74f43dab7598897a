use Rattle.std.proofs.Common.{◌≡◌, false}
use Rattle.whips_view.specs.ViewDefs.{keyed}
use Rattle.whips_strobe.specs.Fitting.{differ_below}
use Rattle.whips_strobe.proofs.fits.are_different.Given as goal

abbrev pub invariant-loop-part : goal.invariant-loop-part
invariant-loop-part l = differ_below (keyed l.view).keys l.p l.q l.part ≡ false
