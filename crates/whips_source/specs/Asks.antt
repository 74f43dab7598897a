-- What a source may be asked.
use Rattle.std.specs.Prelude.{◌≡◌, ℕ, List, slice_get, Some}
use Rattle.whips_steps.specs.Steps.{source_of_step}
use Rattle.whips_view.specs.ViewDefs.{View, keyed}
use Rattle.whips_query.specs.declared.asks.Ask.{Ask}
use Rattle.whips_query.specs.Asks.{IsAskOf}

-- The ask is one to this source: it names one of the views, and the source is the one that the step asks. From Strobe in its idea.
pub record IsAskTo (views : List View) (source : ℕ) (ask : Ask) : Type 0 where
  pub view : View
  pub there : slice_get views ask.view ≡ Some view
  pub is : IsAskOf view ask
  pub asked : source_of_step (keyed view) ask.origin ask.step ≡ source
