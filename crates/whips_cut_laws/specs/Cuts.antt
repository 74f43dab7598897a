-- Cuts that advance.
use Rattle.std.specs.Prelude.{ℕ, ◌<◌, ◌≤◌, List, [], ◌∷◌, slice_get, slice_index, Option, Some, None}
use Rattle.std.specs.List.{AllByRecursion}
use Rattle.whips_flow.specs.Facts.{Facts}
use Rattle.whips_flow.specs.State.{Pipeline, Source, start, version_cuts}
use Rattle.whips_flow.specs.Progress.{after}
use Rattle.whips_flow.specs.declared.event.Event.{Event}

-- the next cut is nowhere below the one before, and above it at some source; own
pub record Advances (before next : List ℕ) : Type 0 where
  pub nowhere_below : (y : ℕ) → slice_index before y ≤ slice_index next y
  pub source : ℕ
  pub above : slice_index before source < slice_index next source

abbrev pub AdvanceFrom : List ℕ → List (List ℕ) → Type 0
AdvanceFrom cut [] = Unit {0}
AdvanceFrom cut (next ∷ cuts) = Advances cut next × AdvanceFrom next cuts

-- each cut advances on the one before it
abbrev pub AllAdvance : List (List ℕ) → Type 0
AllAdvance [] = Unit {0}
AllAdvance (cut ∷ cuts) = AdvanceFrom cut cuts

abbrev pub commit_count_of : Option Source → ℕ
commit_count_of None = 0
commit_count_of (Some s) = s.commit_count

-- how many transactions source y committed
abbrev pub committed_at : Pipeline → ℕ → ℕ
committed_at p y = commit_count_of (slice_get p.sources y)

-- the cuts of all versions advance, and none counts a transaction that isn't committed; own
pub record HasSoundCuts (p : Pipeline) : Type 0 where
  pub advance : AllAdvance (version_cuts p)
  pub within_commits : AllByRecursion (λ cut. (y : ℕ) → slice_index cut y ≤ committed_at p y) (version_cuts p)

-- after every list of events, of any facts; own
abbrev pub CutsAdvance : Type 0
CutsAdvance = (f : Facts) (es : List Event) → HasSoundCuts (after f (start f) es)
