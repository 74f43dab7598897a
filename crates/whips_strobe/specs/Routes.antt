-- The sources that the queries of a view ask, by origin.
use Rattle.std.specs.Prelude.{ℕ, suc, List, length, map}
use Rattle.whips_lists.specs.Lists.{places_from}
use Rattle.whips_steps.specs.Steps.{asked_sources}
use Rattle.whips_view.specs.ViewDefs.{View, keyed}

-- The sources that a query from each part asks, and behind them those of a query that began at none of the parts.
abbrev pub routes_of : View → List (List ℕ)
routes_of view = map (asked_sources (keyed view)) (places_from 0 (suc (length view.bases)))
