-- A picked run is the listed one of the events that were picked.
use Rattle.std.proofs.Common.{◌≡◌, ℕ, zero, suc, true, false, List, [], ◌∷◌, Some, None, cond, refl, sym, ap, ◌∙◌}
use Rattle.whips_flow.specs.Facts.{Facts}
use Rattle.whips_flow.specs.declared.event.Event.{Event}
use Rattle.whips_pick.specs.Picks.{next_state}
use Rattle.whips_runs.specs.Records.{skip}
use Rattle.whips_runs.specs.World.{World, is_allowed, after_event, after_turn, with_record, start_world, finished_world, after_listed_plan}
use Rattle.whips_runs.specs.Picks.{choices, picked_choice, after_picked_plan, picked_events}
use Rattle.whips_run_laws.proofs.Reaches.{pick_allowed}
use Rattle.whips_headline_laws.specs.HeadlineLaws.{PickedRunsAreListed}

-- the turn of an event that is allowed
allowed_turn : (f : Facts) (k : ℕ) (e : Event) (w : World) → w.is_full ≡ false → is_allowed f w e ≡ true → after_turn f k e w ≡ after_event f e w
allowed_turn f k e w off en =
    ap (λ b. cond b w (cond (is_allowed f w e) (after_event f e w) (with_record (skip k e) w))) off
    ∙ ap (λ b. cond b (after_event f e w) (with_record (skip k e) w)) en

module _ (f : Facts) where
  same_world : (n k state : ℕ) (w : World) → after_picked_plan n f state w ≡ after_listed_plan f k (picked_events n f state w) w
  same_world zero k state w = refl
  same_world (suc n) k state w = elim (w.is_full) as (λ b. w.is_full ≡ b → elim (cond b None (picked_choice (next_state state) (choices f w))) as (λ _. World) [ None ↦ w | Some e ↦ after_picked_plan n f (next_state state) (after_event f e w) ]
      ≡ after_listed_plan f k (elim (cond b None (picked_choice (next_state state) (choices f w))) as (λ _. List Event) [ None ↦ [] | Some e ↦ e ∷ picked_events n f (next_state state) (after_event f e w) ]) w) [
        | true ↦ λ t. refl
        | false ↦ λ t. elim (picked_choice (next_state state) (choices f w)) as (λ o. picked_choice (next_state state) (choices f w) ≡ o → elim o as (λ _. World) [ None ↦ w | Some e ↦ after_picked_plan n f (next_state state) (after_event f e w) ]
            ≡ after_listed_plan f k (elim o as (λ _. List Event) [ None ↦ [] | Some e ↦ e ∷ picked_events n f (next_state state) (after_event f e w) ]) w) [
              | None ↦ λ q. refl
              | Some e ↦ λ found. same_world n (suc k) (next_state state) (after_event f e w)
                  ∙ ap (after_listed_plan f (suc k) (picked_events n f (next_state state) (after_event f e w))) (sym (allowed_turn f k e w t (pick_allowed f (next_state state) w e found)))
            ] refl
      ] refl

pub picked_listed : PickedRunsAreListed
picked_listed f start_number steps = ap (λ w. (finished_world f w).records) (same_world f steps 1 start_number (start_world f))
