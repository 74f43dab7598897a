-- Each event of a run leads on.
use Rattle.std.proofs.Common.{◌≡◌, ℕ, zero, suc, Bool, true, false, ◌&&◌, not, List, [], ◌∷◌, ◌++◌, length, Some, None, cond, leb, refl, sym, ap, subst, ◌∙◌}
use Rattle.std.specs.Prelude.{map, filter, slice_get}
use Rattle.std.proofs.lemmas.Bool.{and_parts}
use Rattle.whips_flow.specs.Facts.{Facts, view_places}
use Rattle.whips_flow.specs.State.{Pipeline, start}
use Rattle.whips_flow.specs.Progress.{is_enabled, step, after, first_enabled, pipeline_events}
use Rattle.whips_flow.specs.Work.{work}
use Rattle.whips_flow.specs.declared.event.Event.{Event}
use Rattle.whips_flow.specs.declared.event.Event.TheVariants.{Commit, Answer, Integrate, Manage, Rel, Act, Begin, Change, Publish, SessionOpen, SessionScan, SessionFetch, SessionClose}
use Rattle.whips_pick.specs.Picks.{next_state, picked}
use Rattle.whips_runs.specs.World.{World, is_allowed, after_event, after_turn, with_record, start_world, drained_world, finished_world, after_listed_plan}
use Rattle.whips_runs.specs.Picks.{all_events, is_scan, choices, picked_choice, after_picked_plan}
use Rattle.whips_runs.specs.Records.{skip, final, final_rows}
use Rattle.whips_run_laws.specs.Reached.{IsReached, ListedRunsAreReached, PickedRunsAreReached}
use Rattle.whips_run_laws.proofs.Turns.{turn_step}
use Rattle.whips_lists.proofs.Options.{found_passes}

pub after_join : (f : Facts) (p : Pipeline) (es more : List Event) → after f p (es ++ more) ≡ after f (after f p es) more
after_join f p [] more = refl
after_join f p (e ∷ es) more = after_join f (step f p e) es more

step_reached : (f : Facts) (p : Pipeline) (e : Event) → IsReached f p → IsReached f (step f p e)
step_reached f p e r = record { events = r.events ++ e ∷ []; led = after_join f (start f) r.events (e ∷ []) ∙ ap (λ q. step f q e) r.led }

pub chosen_second : {A : Type 0} (b : Bool) (x y : A) → b ≡ false → cond b x y ≡ y
chosen_second true x y h = absurd (cc)
chosen_second false x y h = refl

pub chosen_first : {A : Type 0} (b : Bool) (x y : A) → b ≡ true → cond b x y ≡ x
chosen_first true x y h = refl
chosen_first false x y h = absurd (cc)

turn_reached : (f : Facts) (k : ℕ) (e : Event) (w : World) → IsReached f w.pipeline → IsReached f (after_turn f k e w).pipeline
turn_reached f k e w r = go (w.is_full) refl
  where
    go : (b : Bool) → w.is_full ≡ b → IsReached f (after_turn f k e w).pipeline
    go true h = subst (λ z. IsReached f z.pipeline) (sym (chosen_first w.is_full w (cond (is_allowed f w e) (after_event f e w) (with_record (skip k e) w)) h)) r
    go false h = subst (IsReached f) (sym (turn_step f k e w h)) (step_reached f w.pipeline e r)

-- an event that is allowed is a turn
event_reached : (f : Facts) (e : Event) (w : World) → w.is_full ≡ false → is_allowed f w e ≡ true → IsReached f w.pipeline → IsReached f (after_event f e w).pipeline
event_reached f e w h g r =
    let turn = chosen_second w.is_full w (cond (is_allowed f w e) (after_event f e w) (with_record (skip 0 e) w)) h ∙ chosen_first (is_allowed f w e) (after_event f e w) (with_record (skip 0 e) w) g in
    subst (λ z. IsReached f z.pipeline) turn (turn_reached f 0 e w r)

pub listed_plan_reached : (f : Facts) (k : ℕ) (es : List Event) (w : World) → IsReached f w.pipeline → IsReached f (after_listed_plan f k es w).pipeline
listed_plan_reached f k [] w r = r
listed_plan_reached f k (e ∷ es) w r = listed_plan_reached f (suc k) es (after_turn f k e w) (turn_reached f k e w r)

-- an enabled event of the pipeline is allowed
pub enabled_allowed : (f : Facts) (w : World) (e : Event) → is_enabled f w.pipeline e ≡ true → is_allowed f w e ≡ true
enabled_allowed f w (Commit y) h = h
enabled_allowed f w (Answer y x) h = h
enabled_allowed f w (Integrate y) h = h
enabled_allowed f w (Manage x) h = h
enabled_allowed f w Rel h = h
enabled_allowed f w (Act x) h = h
enabled_allowed f w Begin h = h
enabled_allowed f w Change h = h
enabled_allowed f w Publish h = h
enabled_allowed f w (SessionOpen s) h = absurd (cc)
enabled_allowed f w (SessionScan s x) h = absurd (cc)
enabled_allowed f w (SessionFetch s n) h = absurd (cc)
enabled_allowed f w (SessionClose s) h = absurd (cc)

pub drained_reached : (n : ℕ) (f : Facts) (w : World) → IsReached f w.pipeline → IsReached f (drained_world n f w).pipeline
drained_reached zero f w r = r
drained_reached (suc n) f w r = elim (w.is_full) as (λ b. w.is_full ≡ b → IsReached f (elim (cond b None (first_enabled f w.pipeline)) as (λ _. World) [ None ↦ w | Some e ↦ drained_world n f (after_event f e w) ]).pipeline) [
  | true ↦ λ h. r
  | false ↦ λ h. elim (first_enabled f w.pipeline) as (λ o. first_enabled f w.pipeline ≡ o → IsReached f (elim o as (λ _. World) [ None ↦ w | Some e ↦ drained_world n f (after_event f e w) ]).pipeline) [
    | None ↦ λ e. r
    | Some e ↦ λ found. drained_reached n f (after_event f e w) (event_reached f e w h (enabled_allowed f w e (found_passes (is_enabled f w.pipeline) (pipeline_events f) e found)) r)
  ] refl
] refl

same_pipeline : (b : Bool) (w z : World) → w.pipeline ≡ z.pipeline → w.pipeline ≡ (cond b w z).pipeline
same_pipeline true w z h = refl
same_pipeline false w z h = h

finished_reached : (f : Facts) (w : World) → IsReached f w.pipeline → IsReached f (finished_world f w).pipeline
finished_reached f w r =
    let z = drained_world (work f w.pipeline) f w in
    subst (IsReached f) (same_pipeline z.is_full z (record z { records = z.records ++ final f.transactions ∷ map final_rows (view_places f) }) refl) (drained_reached (work f w.pipeline) f w r)

pub start_reached : (f : Facts) → IsReached f (start f)
start_reached f = record { events = []; led = refl }

pub listed_reached : ListedRunsAreReached
listed_reached f es = finished_reached f (after_listed_plan f 1 es (start_world f)) (listed_plan_reached f 1 es (start_world f) (start_reached f))

-- ---- picks

got_passes : {A : Type 0} (test : A → Bool) (xs : List A) (i : ℕ) (a : A) → slice_get (filter test xs) i ≡ Some a → test a ≡ true
got_passes test [] i a h = absurd (cc)
got_passes test (x ∷ xs) i a h = elim (test x) as (λ b. test x ≡ b → slice_get (cond b (x ∷ filter test xs) (filter test xs)) i ≡ Some a → test a ≡ true) [
  | true ↦ λ e g. in_front i e g (λ j q. got_passes test xs j a q)
  | false ↦ λ e g. got_passes test xs i a g
] refl h
  where
    in_front : (i : ℕ) → test x ≡ true → slice_get (x ∷ filter test xs) i ≡ Some a → ((j : ℕ) → slice_get (filter test xs) j ≡ Some a → test a ≡ true) → test a ≡ true
    in_front zero e g more = let xa : x ≡ a = cc in subst (λ z. test z ≡ true) xa e
    in_front (suc i) e g more = more i g

pub pick_allowed : (f : Facts) (state : ℕ) (w : World) (e : Event) → picked_choice state (choices f w) ≡ Some e → is_allowed f w e ≡ true
pick_allowed f state w e h = (and_parts (is_allowed f w e) (not (is_scan e && leb 1000 w.scan_count)) (got_passes (λ e. is_allowed f w e && not (is_scan e && leb 1000 w.scan_count)) (all_events f) (picked (length (choices f w)) state) e h)).0

pub picked_plan_reached : (n : ℕ) (f : Facts) (state : ℕ) (w : World) → IsReached f w.pipeline → IsReached f (after_picked_plan n f state w).pipeline
picked_plan_reached zero f state w r = r
picked_plan_reached (suc n) f state w r = elim (w.is_full) as (λ b. w.is_full ≡ b → IsReached f (elim (cond b None (picked_choice (next_state state) (choices f w))) as (λ _. World) [ None ↦ w | Some e ↦ after_picked_plan n f (next_state state) (after_event f e w) ]).pipeline) [
  | true ↦ λ h. r
  | false ↦ λ h. elim (picked_choice (next_state state) (choices f w)) as (λ o. picked_choice (next_state state) (choices f w) ≡ o → IsReached f (elim o as (λ _. World) [ None ↦ w | Some e ↦ after_picked_plan n f (next_state state) (after_event f e w) ]).pipeline) [
    | None ↦ λ e. r
    | Some e ↦ λ found. picked_plan_reached n f (next_state state) (after_event f e w) (event_reached f e w h (pick_allowed f (next_state state) w e found) r)
  ] refl
] refl

pub picked_reached : PickedRunsAreReached
picked_reached f start_number steps = finished_reached f (after_picked_plan steps f start_number (start_world f)) (picked_plan_reached steps f start_number (start_world f) (start_reached f))
