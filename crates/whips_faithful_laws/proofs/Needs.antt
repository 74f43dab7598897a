-- How many slots a faithful store needs.
use Rattle.std.proofs.Common.{◌≡◌, ℕ, ◌/◌, ◌≤◌, List, [], ◌∷◌, ◌++◌, map, arith}
use Rattle.whips_model.specs.Tuples.{Codes}
use Rattle.whips_changes.specs.Changes.{need}
use Rattle.whips_store.specs.Versions.{versions_in_use, rows_shown_at}
use Rattle.whips_store.specs.Stores.{ViewState, view_in}
use Rattle.whips_store.specs.Calls.{slots_needed}
use Rattle.whips_store_laws.proofs.Slots.{readable_lives, half_even}
use Rattle.whips_store_laws.proofs.Places.{used}
use Rattle.whips_faithful_laws.specs.Faithful.{IsFaithfulView}
use Rattle.whips_faithful_laws.specs.Laws.{SlotsNeededAreForValues}
use Rattle.whips_faithful_laws.proofs.Puts.{needs_same}

pub view_need : (n phase : ℕ) (values : ℕ → List Codes) (v : ViewState) (after : List Codes) → 2 ≤ n → IsFaithfulView n phase values v
    → slots_needed n (phase / 2) v after ≡ need v.columns.key (map values (versions_in_use n (phase / 2)) ++ after ∷ [])
view_need n phase values v after two f = needs_same v.columns.key (λ w. rows_shown_at n w v.records) values (versions_in_use n (phase / 2)) after (λ w k.
    let u = used n (phase / 2) w k in
    let low = u.0 in
    let high = u.1 in
    (f.shown w (record { committed = omega arith; fresh = λ stale. readable_lives n (phase / 2) w phase two low (half_even phase) stale })).ordered)

pub needs : SlotsNeededAreForValues
needs values s x after two f lt = view_need s.versions s.phase (values x) (view_in s x) after two (f x lt)
