-- The last cut counts everything that concerns a view.
use Rattle.std.specs.Prelude.{◌≡◌, ℕ, ◌<◌, ◌≤◌, false, List, length, slice_index, None}
use Rattle.whips_flow.specs.Facts.{Facts}
use Rattle.whips_flow.specs.State.{start}
use Rattle.whips_flow.specs.Progress.{after, first_enabled}
use Rattle.whips_flow.specs.declared.event.Event.{Event}
use Rattle.whips_settled_laws.specs.Settled.{AsksSourcesOfRun}

-- where no event of the pipeline is enabled, a transaction that the current cut doesn't count concerns no view; own
abbrev pub LastCutIsComplete : Type 0
LastCutIsComplete = (f : Facts) (es : List Event) → AsksSourcesOfRun f → first_enabled f (after f (start f) es) ≡ None
    → (y k x : ℕ) → slice_index (after f (start f) es).writer.cut y < k → k ≤ slice_index f.transactions y → x < length f.slots → f.concerns y k x ≡ false
