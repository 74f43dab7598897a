-- The turns of a plan whose events are picked.
--
-- `choices_same`: what the code may pick is what the run's machine may. `pick_due`: an event that is picked can be done, and comes before the turns that are left. `pick_stops`, `picks_over`: where none can be picked, and where no turn is left, the run is on its way to the end.
use Rattle.std.proofs.Common.{◌≡◌, ℕ, suc, ◌+◌, ◌≤◌, Bool, true, false, ltb, List, [], ◌∷◌, ◌++◌, length, Option, Some, None, cond, refl, sym, ap, ap₂, ◌∙◌, arith}
use Rattle.std.specs.Prelude.{map, filter, slice_get}
use Rattle.std.specs.List.{flat_map, AllByRecursion}
use Rattle.std.proofs.lemmas.List.{length-map}
use Rattle.whips_lists.specs.Lists.{places_from}
use Rattle.whips_flow.specs.Facts.{Facts, Shortage}
use Rattle.whips_flow.specs.Progress.{is_enabled, shortage_at, pipeline_events}
use Rattle.whips_flow.specs.declared.event.Event.{Event}
use Rattle.whips_flow.specs.declared.event.Event.TheVariants.{Commit, Answer, Integrate, Manage, Rel, Act, Begin, Change, Publish, SessionOpen, SessionScan, SessionFetch, SessionClose}
use Rattle.whips_pick.specs.Picks.{next_state}
use Rattle.whips_runs.specs.Sessions.{Session, Scan, scan_of}
use Rattle.whips_runs.specs.World.{World, after_event, after_pipeline_event, after_fetch, finished_world}
use Rattle.whips_runs.specs.Picks.{is_scan, choices, picked_choice, after_picked_plan}
use Rattle.whips_run_laws.proofs.Reaches.{pick_allowed}
use Rattle.whips_states.specs.States.{Updates}
use Rattle.whips_setup.specs.Setups.{SetupData}
use Rattle.whips_facts.specs.ScriptFacts.{facts_of}
use Rattle.whips_contents.specs.Events.{is_enabled_loaded}
use Rattle.whips_core_laws.proofs.Starts.{fits_start}
use Rattle.whips_report.specs.Told.{Telling}
use Rattle.whips_world.specs.Readers.{session_of, is_allowed_here}
use Rattle.whips_world.specs.Picks.{session_choices, choices_here}
use Rattle.whips_world.specs.Runs.{Start, Moment, turns_left, IsOnPlan, IsDue, IsOnWay}
use Rattle.whips_world.proofs.Moves.{enabled_is, slots_long}
use Rattle.whips_world.proofs.PickTurns.{no_pick, pick_done}
use Rattle.whips_world.proofs.Choices.{filter_same, choices_are}
use Rattle.whips_world.proofs.Turns.{allowed_is}

-- a fact of each element of any list
each : {A : Type 0} (P : A → Type 0) → ((a : A) → P a) → (xs : List A) → AllByRecursion P xs
each P h [] = tt
each P h (x ∷ xs) = (h x, each P h xs)

-- lists of the same, one behind the other
joined_same : {A B : Type 0} (g h : A → List B) → ((a : A) → g a ≡ h a) → (xs : List A) → flat_map g xs ≡ flat_map h xs
joined_same g h same [] = refl
joined_same g h same (x ∷ xs) = ap₂ (λ a b. a ++ b) (same x) (joined_same g h same xs)

-- ---- how many scans were begun

piped_count : (f : Facts) (e : Event) (w : World) (o : Option Shortage) → shortage_at f w.pipeline e ≡ o → (after_pipeline_event f e w).scan_count ≡ w.scan_count
piped_count f e w None q = moves q
  where
    moves : shortage_at f w.pipeline e ≡ None → (after_pipeline_event f e w).scan_count ≡ w.scan_count
    moves q = rw (q, after_pipeline_event) refl
piped_count f e w (Some v) q = ends q
  where
    ends : shortage_at f w.pipeline e ≡ Some v → (after_pipeline_event f e w).scan_count ≡ w.scan_count
    ends q = rw (q, after_pipeline_event) refl

fetch_count : (f : Facts) (s n : ℕ) (o : Option Scan) (w : World) → (after_fetch f s n o w).scan_count ≡ w.scan_count
fetch_count f s n None w = refl
fetch_count f s n (Some scan) w = refl

scans_counted : (f : Facts) (e : Event) (w : World) → (after_event f e w).scan_count ≡ cond (is_scan e) (suc w.scan_count) w.scan_count
scans_counted f (Commit y) w = refl
scans_counted f (Answer y x) w = refl
scans_counted f (Integrate y) w = refl
scans_counted f (Manage x) w = refl
scans_counted f Rel w = refl
scans_counted f (Act x) w = refl
scans_counted f Begin w = piped_count f Begin w (shortage_at f w.pipeline Begin) refl
scans_counted f Change w = refl
scans_counted f Publish w = refl
scans_counted f (SessionOpen s) w = refl
scans_counted f (SessionScan s x) w = refl
scans_counted f (SessionFetch s n) w = fetch_count f s n (scan_of (slice_get w.sessions s)) w
scans_counted f (SessionClose s) w = refl

-- at most one scan more
pub scans_within : (b : Bool) (scans i n : ℕ) → n ≡ cond b (suc scans) scans → scans ≤ i → n ≤ i + 1
scans_within true scans i n e le = omega (arith, e, le)
scans_within false scans i n e le = omega (arith, e, le)

-- ---- turns

module _ {K : Type 0} (told : Telling K) (a : Start K) (m : Moment K) (steps state scans : ℕ) (h : IsOnPlan told a m (turns_left steps state scans)) where
  abbrev facts : Facts
  facts = facts_of a.script

  pub sized_views : length facts.slots ≡ length m.core.setup.views
  sized_views = slots_long a.script ∙ ap (λ (s : SetupData). length s.views) (sym h.at.setup)

  pub sized_sources : length facts.transactions ≡ m.core.setup.sources
  sized_sources = length-map a.script.work (λ (ts : List Updates). length ts) ∙ ((fits_start a.script h.at.valid h.at.is_work).sources ∙ ap (λ (s : SetupData). s.sources) (sym h.at.setup))

  -- the same may be picked
  pub choices_same : length m.readers ≡ a.script.sessions → choices_here facts m.core m.readers scans ≡ choices facts h.run
  choices_same long =
      let w = h.run in
      let of : (v n : ℕ) → List Session → ℕ → List Event = λ v n ts s. session_choices (ltb n 1000) v s (slice_get ts s) in
      let piped : filter (is_enabled_loaded m.core.loaded) (pipeline_events facts) ≡ filter (is_enabled facts w.pipeline) (pipeline_events facts) =
      filter_same (is_enabled_loaded m.core.loaded) (is_enabled facts w.pipeline) (pipeline_events facts)
      (each (λ e. is_enabled_loaded m.core.loaded e ≡ is_enabled facts w.pipeline e) (enabled_is told a m.core m.sink w h.at) (pipeline_events facts)) in
      let sessions : flat_map (of (length m.core.setup.views) scans (map session_of m.readers)) (places_from 0 (length m.readers)) ≡ flat_map (of (length facts.slots) w.scan_count w.sessions) (places_from 0 facts.sessions) =
      ap₂ (λ v n. flat_map (of v scans (map session_of m.readers)) (places_from 0 n)) (sym sized_views) long
      ∙ ap₂ (λ n ts. flat_map (of (length facts.slots) n ts) (places_from 0 facts.sessions)) (sym h.counted) h.readers.sessions_are in
      ap₂ (λ xs ys. xs ++ ys) piped sessions ∙ sym (choices_are facts w)

  module _ (long : length m.readers ≡ a.script.sessions) (o : Option Event)
      (is : (f : Facts) → length f.slots ≡ length m.core.setup.views → length f.transactions ≡ m.core.setup.sources → o ≡ picked_choice (next_state state) (choices_here f m.core m.readers scans)) where
    found : picked_choice (next_state state) (choices facts h.run) ≡ o
    found = ap (picked_choice (next_state state)) (sym (choices_same long)) ∙ sym (is facts sized_views sized_sources)

    pub pick_may : (e : Event) → o ≡ Some e → is_allowed_here m.core m.readers e ≡ true
    pick_may e some = allowed_is told a m h.run h.at h.readers e ∙ pick_allowed facts (next_state state) h.run e (found ∙ some)

    pub pick_due : (e : Event) → o ≡ Some e → (n : ℕ) → steps ≡ suc n → IsDue told a m e (turns_left n (next_state state) (cond (is_scan e) (suc scans) scans))
    pick_due e some n more = record {
      run = h.run;
      at = h.at;
      readers = h.readers;
      goes_on = h.goes_on;
      counted = scans_counted facts e h.run ∙ ap (λ n. cond (is_scan e) (suc n) n) h.counted;
      ends = ap (finished_world facts) (sym (ap (λ n. after_picked_plan n facts state h.run) more ∙ pick_done facts n state h.run e h.goes_on (found ∙ some))) ∙ h.ends;
    }

    pub pick_stops : o ≡ None → (n : ℕ) → steps ≡ suc n → IsOnWay told a m.core m.sink
    pick_stops none n more = record {
      run = h.run;
      at = h.at;
      goes_on = h.goes_on;
      ends = ap (finished_world facts) (sym (ap (λ n. after_picked_plan n facts state h.run) more ∙ no_pick facts n state h.run h.goes_on (found ∙ none))) ∙ h.ends;
    }

  pub picks_over : steps ≡ 0 → IsOnWay told a m.core m.sink
  picks_over none = record {
    run = h.run;
    at = h.at;
    goes_on = h.goes_on;
    ends = ap (finished_world facts) (sym (ap (λ n. after_picked_plan n facts state h.run) none)) ∙ h.ends;
  }
