-- What every allowed event and every skip keeps holds along every run.
use Rattle.std.proofs.Common.{◌≡◌, ℕ, zero, suc, true, false, List, [], ◌∷◌, Some, None, cond, refl}
use Rattle.whips_flow.specs.Facts.{Facts}
use Rattle.whips_flow.specs.Progress.{is_enabled, first_enabled, pipeline_events}
use Rattle.whips_flow.specs.declared.event.Event.{Event}
use Rattle.whips_pick.specs.Picks.{next_state}
use Rattle.whips_runs.specs.Records.{skip}
use Rattle.whips_runs.specs.World.{World, is_allowed, after_event, after_turn, with_record, drained_world, after_listed_plan}
use Rattle.whips_runs.specs.Picks.{choices, picked_choice, after_picked_plan}
use Rattle.whips_lists.proofs.Options.{found_passes}
use Rattle.whips_run_laws.proofs.Reaches.{enabled_allowed, pick_allowed}

module _ (f : Facts) (P : World → Type 0) (event : (w : World) (e : Event) → w.is_full ≡ false → is_allowed f w e ≡ true → P w → P (after_event f e w)) where
  pub drained_keeps : (n : ℕ) (w : World) → P w → P (drained_world n f w)
  drained_keeps zero w h = h
  drained_keeps (suc n) w h = elim (w.is_full) as (λ b. w.is_full ≡ b → P (elim (cond b None (first_enabled f w.pipeline)) as (λ _. World) [ None ↦ w | Some e ↦ drained_world n f (after_event f e w) ])) [
    | true ↦ λ t. h
    | false ↦ λ t. elim (first_enabled f w.pipeline) as (λ o. first_enabled f w.pipeline ≡ o → P (elim o as (λ _. World) [ None ↦ w | Some e ↦ drained_world n f (after_event f e w) ])) [
      | None ↦ λ q. h
      | Some e ↦ λ found. drained_keeps n (after_event f e w) (event w e t (enabled_allowed f w e (found_passes (is_enabled f w.pipeline) (pipeline_events f) e found)) h)
    ] refl
  ] refl

  pub picked_keeps : (n state : ℕ) (w : World) → P w → P (after_picked_plan n f state w)
  picked_keeps zero state w h = h
  picked_keeps (suc n) state w h = elim (w.is_full) as (λ b. w.is_full ≡ b → P (elim (cond b None (picked_choice (next_state state) (choices f w))) as (λ _. World) [ None ↦ w | Some e ↦ after_picked_plan n f (next_state state) (after_event f e w) ])) [
    | true ↦ λ t. h
    | false ↦ λ t. elim (picked_choice (next_state state) (choices f w)) as (λ o. picked_choice (next_state state) (choices f w) ≡ o → P (elim o as (λ _. World) [ None ↦ w | Some e ↦ after_picked_plan n f (next_state state) (after_event f e w) ])) [
      | None ↦ λ q. h
      | Some e ↦ λ found. picked_keeps n (next_state state) (after_event f e w) (event w e t (pick_allowed f (next_state state) w e found) h)
    ] refl
  ] refl

  module _ (skipped : (w : World) (k : ℕ) (e : Event) → w.is_full ≡ false → P w → P (with_record (skip k e) w)) where
    turn_keeps : (k : ℕ) (e : Event) (w : World) → P w → P (after_turn f k e w)
    turn_keeps k e w h = elim (w.is_full) as (λ b. w.is_full ≡ b → P (cond b w (cond (is_allowed f w e) (after_event f e w) (with_record (skip k e) w)))) [
      | true ↦ λ t. h
      | false ↦ λ t. elim (is_allowed f w e) as (λ b. is_allowed f w e ≡ b → P (cond b (after_event f e w) (with_record (skip k e) w))) [
        | true ↦ λ a. event w e t a h
        | false ↦ λ a. skipped w k e t h
      ] refl
    ] refl

    pub listed_keeps : (k : ℕ) (es : List Event) (w : World) → P w → P (after_listed_plan f k es w)
    listed_keeps k [] w h = h
    listed_keeps k (e ∷ es) w h = listed_keeps (suc k) es (after_turn f k e w) (turn_keeps k e w h)
