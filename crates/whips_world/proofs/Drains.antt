-- A run goes on by the first enabled event until none is left: what is left of it stays the same.
--
-- `finished_next`: after the first enabled event the run ends as it would have ended before it; `finished_here`: where none is enabled, or the run is full, no event is left.
--
-- The idea: with as many turns as there is work the drain is at its end, so that more turns change nothing, and the turn that the event was may be left out.
--
-- One lemma carries it: `enough` (more turns than there is work change nothing).
use Rattle.std.proofs.Common.{◌≡◌, ℕ, zero, suc, ◌+◌, ◌<◌, ◌≤◌, Bool, true, false, List, [], ◌∷◌, ◌++◌, Option, Some, None, cond, refl, sym, ap, ◌∙◌, arith, inl, inr}
use Rattle.std.specs.Prelude.{map}
use Rattle.whips_flow.specs.Facts.{Facts, view_places}
use Rattle.whips_flow.specs.State.{Pipeline}
use Rattle.whips_flow.specs.Progress.{is_enabled, is_done, step, next, first_enabled, pipeline_events}
use Rattle.whips_flow.specs.Work.{work}
use Rattle.whips_flow.specs.declared.event.Event.{Event}
use Rattle.whips_lists.proofs.Options.{found_passes}
use Rattle.whips_drain_laws.specs.Drain.{IsRoomy, HasAllManagers}
use Rattle.whips_drain_laws.proofs.Falls.{falls}
use Rattle.whips_runs.specs.Records.{skip, final, final_rows}
use Rattle.whips_runs.specs.World.{World, is_allowed, after_event, after_turn, with_record, after_listed_plan, drained_world, finished_world, with_final_records}
use Rattle.whips_run_laws.proofs.Turns.{AtEnd, turn_step, drained_ends}
use Rattle.whips_run_laws.proofs.Reaches.{enabled_allowed, chosen_first, chosen_second}

module _ (f : Facts) where
  -- ---- one event

  -- a turn of the schedule, by whether the run is full and the event allowed
  pub turn_full : (place : ℕ) (e : Event) (w : World) → w.is_full ≡ true → after_turn f place e w ≡ w
  turn_full place e w t = chosen_first w.is_full w (cond (is_allowed f w e) (after_event f e w) (with_record (skip place e) w)) t

  pub turn_done : (place : ℕ) (e : Event) (w : World) → w.is_full ≡ false → is_allowed f w e ≡ true → after_turn f place e w ≡ after_event f e w
  turn_done place e w off allowed =
      chosen_second w.is_full w (cond (is_allowed f w e) (after_event f e w) (with_record (skip place e) w)) off ∙ chosen_first (is_allowed f w e) (after_event f e w) (with_record (skip place e) w) allowed

  pub turn_skipped : (place : ℕ) (e : Event) (w : World) → w.is_full ≡ false → is_allowed f w e ≡ false → after_turn f place e w ≡ with_record (skip place e) w
  turn_skipped place e w off not =
      chosen_second w.is_full w (cond (is_allowed f w e) (after_event f e w) (with_record (skip place e) w)) off ∙ chosen_second (is_allowed f w e) (after_event f e w) (with_record (skip place e) w) not

  -- a run that is full does no more events
  pub plan_full : (place : ℕ) (es : List Event) (w : World) → w.is_full ≡ true → after_listed_plan f place es w ≡ w
  plan_full place [] w t = refl
  plan_full place (e ∷ es) w t = ap (after_listed_plan f (suc place) es) (turn_full place e w t) ∙ plan_full (suc place) es w t

  -- an event that is allowed moves the pipeline by a step
  pub event_steps : (w : World) (e : Event) → w.is_full ≡ false → is_allowed f w e ≡ true → (after_event f e w).pipeline ≡ step f w.pipeline e
  event_steps w e off allowed = ap (λ z. z.pipeline) (sym (turn_done 0 e w off allowed)) ∙ turn_step f 0 e w off

  pub first_is_enabled : (p : Pipeline) (e : Event) → first_enabled f p ≡ Some e → is_enabled f p e ≡ true
  first_is_enabled p e found = found_passes (is_enabled f p) (pipeline_events f) e found

  pub step_falls : IsRoomy f → (p : Pipeline) (e : Event) → HasAllManagers f p → is_done f p e ≡ true → work f (next f p e) < work f p
  step_falls roomy p e shaped done = falls f p e roomy shaped done

  step_within : IsRoomy f → (p : Pipeline) (e : Event) → HasAllManagers f p → (b : Bool) → is_done f p e ≡ b → work f (step f p e) ≤ work f p
  step_within roomy p e shaped true done = let same = ap (λ b. work f (cond b (next f p e) p)) done in omega (arith, same, step_falls roomy p e shaped done)
  step_within roomy p e shaped false done = let same = ap (λ b. work f (cond b (next f p e) p)) done in omega (arith, same)

  -- ---- turns

  -- what is left after this event, or after none
  abbrev turned : ℕ → World → Option Event → World
  turned n w o = elim o as (λ _. World) [ None ↦ w | Some e ↦ drained_world n f (after_event f e w) ]

  one_turn : (n : ℕ) (w : World) (e : Event) → w.is_full ≡ false → first_enabled f w.pipeline ≡ Some e → drained_world (suc n) f w ≡ drained_world n f (after_event f e w)
  one_turn n w e off found = ap (turned n w) (chosen_second w.is_full None (first_enabled f w.pipeline) off ∙ found)

  no_turn : (n : ℕ) (w : World) → AtEnd f w → drained_world (suc n) f w ≡ w
  no_turn n w (inl t) = ap (turned n w) (chosen_first w.is_full None (first_enabled f w.pipeline) t)
  no_turn n w (inr none) = ap (turned n w) (same w.is_full none)
    where
      same : (b : Bool) → first_enabled f w.pipeline ≡ None → cond b None (first_enabled f w.pipeline) ≡ None
      same true q = refl
      same false q = q

  pub at_end_stays : (n : ℕ) (w : World) → AtEnd f w → drained_world n f w ≡ w
  at_end_stays zero w h = refl
  at_end_stays (suc n) w h = no_turn n w h

  -- a turn more is a turn at the end
  turn_later : (n : ℕ) (w : World) → drained_world (suc n) f w ≡ drained_world 1 f (drained_world n f w)
  turn_later zero w = refl
  turn_later (suc n) w = cases (turn_later n) w.is_full refl (first_enabled f w.pipeline) refl
    where
      stays : AtEnd f w → drained_world (suc (suc n)) f w ≡ drained_world 1 f (drained_world (suc n) f w)
      stays h = no_turn (suc n) w h ∙ sym (ap (drained_world 1 f) (no_turn n w h) ∙ no_turn 0 w h)

      cases : ((z : World) → drained_world (suc n) f z ≡ drained_world 1 f (drained_world n f z)) → (b : Bool) → w.is_full ≡ b → (o : Option Event) → first_enabled f w.pipeline ≡ o → drained_world (suc (suc n)) f w ≡ drained_world 1 f (drained_world (suc n) f w)
      cases rest true t o q = stays (inl t)
      cases rest false t None q = stays (inr q)
      cases rest false t (Some e) q = one_turn (suc n) w e t q ∙ (rest (after_event f e w) ∙ ap (drained_world 1 f) (sym (one_turn n w e t q)))

  -- more turns than there is work change nothing
  enough : (n k : ℕ) (w : World) → IsRoomy f → HasAllManagers f w.pipeline → work f w.pipeline ≤ n → drained_world (k + n) f w ≡ drained_world n f w
  enough n zero w roomy shaped le = let e : 0 + n ≡ n = omega arith in ap (λ m. drained_world m f w) e
  enough n (suc k) w roomy shaped le =
      let e : suc k + n ≡ suc (k + n) = omega arith in
      ap (λ m. drained_world m f w) e ∙ (turn_later (k + n) w
      ∙ (no_turn 0 (drained_world (k + n) f w) (drained_ends (k + n) f w roomy shaped (omega arith)) ∙ enough n k w roomy shaped le))

  within_turns : (n m : ℕ) (w : World) → IsRoomy f → HasAllManagers f w.pipeline → work f w.pipeline ≤ n → n ≤ m → drained_world m f w ≡ drained_world n f w
  within_turns n m w roomy shaped le more =
      let k = gap n m more in
      ap (λ z. drained_world z f w) k.1 ∙ enough n k.0 w roomy shaped le
    where
      gap : (n m : ℕ) → n ≤ m → (k : ℕ) × (m ≡ k + n)
      gap zero m h = (m, omega arith)
      gap (suc n) zero h = absurd (omega (arith, h))
      gap (suc n) (suc m) h = let k = gap n m (omega (arith, h)) in (k.0, omega (arith, k.1))

  -- ---- what is left of the run

  pub finished_next : (w : World) (e : Event) → IsRoomy f → HasAllManagers f w.pipeline → HasAllManagers f (after_event f e w).pipeline → w.is_full ≡ false → first_enabled f w.pipeline ≡ Some e
      → finished_world f (after_event f e w) ≡ finished_world f w
  finished_next w e roomy shaped then off found =
      let p = w.pipeline in
      let z = after_event f e w in
      let m = work f p in
      let steps = event_steps w e off (enabled_allowed f w e (first_is_enabled p e found)) in
      let within : work f z.pipeline ≤ m = let le = step_within roomy p e shaped (is_done f p e) refl in omega (arith, ap (work f) steps, le) in
      ap (with_final_records f) (sym (within_turns (work f z.pipeline) m z roomy then (omega arith) within) ∙ (sym (one_turn m w e off found) ∙ within_turns m (suc m) w roomy shaped (omega arith) (omega arith)))

  pub finished_here : (w : World) → AtEnd f w → finished_world f w ≡ with_final_records f w
  finished_here w h = ap (with_final_records f) (at_end_stays (work f w.pipeline) w h)

  pub finished_full : (w : World) → w.is_full ≡ true → finished_world f w ≡ w
  finished_full w t = finished_here w (inl t) ∙ ap (λ b. cond b w (record w { records = w.records ++ final f.transactions ∷ map final_rows (view_places f) })) t
