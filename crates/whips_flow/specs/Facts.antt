-- What the pipeline asks of a script. Sources, views, parts of a view and sessions are named by their place from 0, the transactions of a source by their place from 1. A cut is a list with a count of transactions for each source.
use Rattle.std.specs.Prelude.{ℕ, Bool, List, length, Option}
use Rattle.whips_lists.specs.Lists.{places_from}

-- a view that has fewer slots than a transaction of the warehouse needs; own
pub record Shortage : Type 0 where
  pub view : ℕ
  pub need : ℕ
  pub slots : ℕ

-- the numbers and functions by which the pipeline sees a script; own
pub record Facts : Type 0 where
  -- the number of transactions of each source
  pub transactions : List ℕ
  -- the number of slots of each view
  pub slots : List ℕ
  -- how many versions are kept, and how many sessions there are
  pub versions : ℕ
  pub sessions : ℕ
  -- whether the transaction concerns the view
  pub concerns : (source place view : ℕ) → Bool
  -- the parts of the view at which the transaction leaves new tuples, each the origin of a query, in order
  pub origins : (source place view : ℕ) → List ℕ
  -- the sources that a query asks which begins at this part of the view, one for each step, in order
  pub asked_sources : (view origin : ℕ) → List ℕ
  -- the number of rows, over all views, that differ between the views' values at two cuts
  pub change_count : (before after : List ℕ) → ℕ
  -- the first view with fewer slots than its rows at all these cuts, oldest first, together need
  pub shortage : (cuts : List (List ℕ)) → Option Shortage
  -- the number of rows of each view at a cut
  pub row_counts : (cut : List ℕ) → List ℕ

abbrev pub source_places : Facts → List ℕ
source_places f = places_from 0 (length f.transactions)

abbrev pub view_places : Facts → List ℕ
view_places f = places_from 0 (length f.slots)
