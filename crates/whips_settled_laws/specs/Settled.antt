-- A pipeline in which nothing is on its way.
use Rattle.std.specs.Prelude.{◌≡◌, ℕ, ◌<◌, ◌≤◌, ◌%◌, List, [], length, slice_get, slice_index, Some, None}
use Rattle.std.specs.List.{AllByRecursion}
use Rattle.whips_flow.specs.Facts.{Facts}
use Rattle.whips_flow.specs.State.{Pipeline, Source, Manager, start}
use Rattle.whips_flow.specs.Progress.{after, first_enabled}
use Rattle.whips_flow.specs.declared.event.Event.{Event}

-- the sources that queries ask are sources of the run
abbrev pub AsksSourcesOfRun : Facts → Type 0
AsksSourcesOfRun f = (x o : ℕ) → AllByRecursion (λ y. y < length f.transactions) (f.asked_sources x o)

-- nothing is on its way from or to the source; own
pub record IsQuietSource (s : Source) : Type 0 where
  pub messages : s.messages ≡ []
  pub asks : AllByRecursion (λ q. q ≡ []) s.asks

-- nothing is on its way to the manager or from it, and all its queries are answered; own
pub record IsQuietManager (m : Manager) : Type 0 where
  pub messages : m.messages ≡ []
  pub open_steps : m.open_steps ≡ []
  pub lists : m.lists ≡ []

-- all transactions are committed and none is on its way to the views; own
pub record IsSettled (f : Facts) (p : Pipeline) : Type 0 where
  pub committed : (y : ℕ) (s : Source) → slice_get p.sources y ≡ Some s → slice_index f.transactions y ≤ s.commit_count
  pub sources : AllByRecursion IsQuietSource p.sources
  pub managers : AllByRecursion IsQuietManager p.managers
  pub announcements : p.announcements ≡ []
  pub rows : p.merge.table.rows ≡ []
  pub waiting_lists : AllByRecursion (λ js. js ≡ []) p.merge.waiting_lists
  pub row_sets : p.merge.row_sets ≡ []
  pub changes_left : p.writer.changes_left ≡ 0
  pub phase : p.writer.phase % 2 ≡ 0

-- after every list of events, where no event of the pipeline is enabled; own
abbrev pub NothingIsLeft : Type 0
NothingIsLeft = (f : Facts) (es : List Event) → AsksSourcesOfRun f → first_enabled f (after f (start f) es) ≡ None → IsSettled f (after f (start f) es)
