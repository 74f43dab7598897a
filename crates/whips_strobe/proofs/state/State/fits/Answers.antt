use Rattle.std.proofs.Common.{◌≡◌, true, false, sym, ◌∙◌}
use Rattle.whips_strobe.proofs.state.State.fits.Goals as goal

pub returns-then-is_open : goal.returns-then-is_open
returns-then-is_open c = rw (← c.as_slice.ensures) (
  λ h. let sound = c.fit_step.ensures.0 h in record { open_query = sym c.is_open.ensures ∙ c.if-is_open.true; filled = sound.0; differ = sound.1 },
  λ f. c.fit_step.ensures.1 (f.filled, f.differ),
)

pub returns-else-is_open : goal.returns-else-is_open
returns-else-is_open c = (
  λ h. let e : true ≡ false = sym h ∙ c.if-is_open.false in absurd (cc),
  λ f. c.is_open.ensures ∙ f.open_query,
)
