-- The cut of a version.
use Rattle.std.specs.Prelude.{ℕ, max, List, fold}
use Rattle.whips_lists.specs.Lists.{changed_at}
use Rattle.whips_flow.specs.Painted.{Row}

-- the cut with the row's source counted up to the row's transaction, where it wasn't already
abbrev pub raised_cut : List ℕ → Row → List ℕ
raised_cut cut r = changed_at r.source (max r.place) cut

-- the cut after a row set: each source's count is the greatest place of its rows in the set, or as before; own
abbrev pub cut_after : List ℕ → List Row → List ℕ
cut_after cut rows = fold raised_cut cut rows
