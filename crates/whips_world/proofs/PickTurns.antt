-- The turns of a picker.
--
-- `picks_full`, `no_pick`, `pick_done`: a turn where the run is full, where no event can be picked, and one that does an event.
use Rattle.std.proofs.Common.{◌≡◌, ℕ, zero, suc, true, false, Option, Some, None, refl, ap, ◌∙◌}
use Rattle.whips_flow.specs.Facts.{Facts}
use Rattle.whips_flow.specs.declared.event.Event.{Event}
use Rattle.whips_pick.specs.Picks.{next_state}
use Rattle.whips_runs.specs.World.{World, after_event}
use Rattle.whips_runs.specs.Picks.{choices, picked_choice, after_picked_plan}
use Rattle.whips_run_laws.proofs.Reaches.{chosen_first, chosen_second}

module _ (f : Facts) where
  -- what is left after this event, or after none
  abbrev turned : ℕ → ℕ → World → Option Event → World
  turned n state w o = elim o as (λ _. World) [ None ↦ w | Some e ↦ after_picked_plan n f state (after_event f e w) ]

  pub picks_full : (n state : ℕ) (w : World) → w.is_full ≡ true → after_picked_plan n f state w ≡ w
  picks_full zero state w t = refl
  picks_full (suc n) state w t = ap (turned n (next_state state) w) (chosen_first w.is_full None (picked_choice (next_state state) (choices f w)) t)

  pub no_pick : (n state : ℕ) (w : World) → w.is_full ≡ false → picked_choice (next_state state) (choices f w) ≡ None → after_picked_plan (suc n) f state w ≡ w
  no_pick n state w off none = ap (turned n (next_state state) w) (chosen_second w.is_full None (picked_choice (next_state state) (choices f w)) off ∙ none)

  pub pick_done : (n state : ℕ) (w : World) (e : Event) → w.is_full ≡ false → picked_choice (next_state state) (choices f w) ≡ Some e
      → after_picked_plan (suc n) f state w ≡ after_picked_plan n f (next_state state) (after_event f e w)
  pick_done n state w e off found = ap (turned n (next_state state) w) (chosen_second w.is_full None (picked_choice (next_state state) (choices f w)) off ∙ found)
