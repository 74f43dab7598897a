-- The turns of a run's plan.
--
-- `turn_skips`, `turn_does`: a listed event that can't be done, and one of the core that can, leave the core on the plan of its run, or the run full. `opens_turn`, `scans_turn`, `fetches_turn`, `closes_turn`: so does each event of a session. `plan_told`, `due_told`, `does_tried`: what was told by then is a first part of the report.
--
-- The idea: the core's numbers are the machine's, so the same events are allowed; an event of a session leaves the pipeline, and what it reads is the view's value at the cut of its version, since the store is faithful to these values.
--
-- Two lemmas carry it: `allowed_is` (the same events are allowed) and `fetch_reports` (what is told of a fetch is what the run reports).
use Rattle.std.proofs.Common.{◌≡◌, ℕ, zero, suc, ◌+◌, ◌/◌, ◌<◌, ◌≤◌, Bool, true, false, ◌&&◌, List, [], ◌∷◌, ◌++◌, length, drop, replicate, append-nil, Option, Some, None, refl, sym, ap, ap₂, subst, ◌∙◌, arith, inl}
use Rattle.std.specs.Prelude.{map, nat_lt, is_some, slice_get, slice_index, slice_index_or, IsSome}
use Rattle.std.proofs.lemmas.Bool.{and_parts, ltb-true}
use Rattle.whips_lists.specs.Lists.{changed_at}
use Rattle.whips_flow.specs.Facts.{Facts, Shortage}
use Rattle.whips_flow.specs.Events.{is_pipeline_event}
use Rattle.whips_flow.specs.State.{version_cuts}
use Rattle.whips_flow.specs.Progress.{shortage_at}
use Rattle.whips_flow.specs.declared.event.Event.{Event}
use Rattle.whips_flow.specs.declared.event.Event.TheVariants.{Commit, Answer, Integrate, Manage, Rel, Act, Begin, Change, Publish, SessionOpen, SessionScan, SessionFetch, SessionClose}
use Rattle.whips_runs.specs.Sessions.{Scan, not_open, open_at, slots_of, visited_scan, is_not_open, is_open, scan_of}
use Rattle.whips_runs.specs.Records.{skip, opened}
use Rattle.whips_runs.specs.World.{World, phase_of, is_allowed, with_record, with_session, after_event, after_open, after_scan, after_pipeline_event, after_listed_plan, start_world, finished_world}
use Rattle.whips_run_laws.proofs.Reaches.{enabled_allowed}
use Rattle.whips_setup.specs.Setups.{SetupData}
use Rattle.whips_facts.specs.Scripts.{Script, SlottedView, slotted_views, value_at, view_at}
use Rattle.whips_facts.specs.ScriptFacts.{facts_of}
use Rattle.whips_store.specs.Stores.{ViewState, StoreState, no_view}
use Rattle.whips_faithful_laws.specs.Scans.{IsLater}
use Rattle.whips_writer_laws.specs.Needs.{AreViewsOf, cut_of_version, values_at}
use Rattle.whips_row_buf.specs.Buffers.{Buffer}
use Rattle.whips_session.specs.declared.session.Fetched.{Fetched}
use Rattle.whips_session.specs.declared.session.Fetched.TheVariants.{More, Done, Expired}
use Rattle.whips_session.specs.Sessions.{scan_in, state_of, scan_after, IsVisit}
use Rattle.whips_session.specs.Laws.{record_of}
use Rattle.whips_session.proofs.Fetches.{events}
use Rattle.whips_session_laws.specs.Readers.{slots_in, IsReader}
use Rattle.whips_store.specs.First.{store_at_first}
use Rattle.whips_contents.specs.Contents.{start_loaded}
use Rattle.whips_contents.specs.Events.{is_enabled_loaded, is_full_for, step_loaded}
use Rattle.whips_setup.specs.declared.plan.Plan.{Plan}
use Rattle.whips_setup.specs.declared.plan.Plan.TheVariants.{Listed, Picked}
use Rattle.whips_reports.specs.Reported.{Reported, reported, rows_of, run_of}
use Rattle.whips_headline_laws.proofs.Told.{Told, event_told, skip_told}
use Rattle.whips_core_laws.specs.Core.{loaded_after, Carries}
use Rattle.whips_core_laws.proofs.Calls.{after_more}
use Rattle.whips_core_laws.proofs.Carried.{stores_go_on}
use Rattle.whips_core.specs.Cores.{CoreData}
use Rattle.whips_report.specs.Told.{Telling, TellsOn, FailsLater}
use Rattle.whips_report.specs.Recs.{alone}
use Rattle.whips_world.specs.Lines.{event_lines}
use Rattle.whips_world.specs.Readers.{ReaderData, closed_reader, session_in, session_of, IsReaderIn, AreReaders, is_allowed_here, opened_session, open_line, rows_read, fetch_line, HasBegunScan, HasFetchedFrom, ChangedAt}
use Rattle.whips_world.specs.Runs.{IsFirstPart, Start, Moment, Left, events_left, turns_left, all_left, after_left, HasCounted, whole, IsAt, IsOnPlan, IsDue, IsTurned, IsOnWay, IsBegun, TellsPart}
use Rattle.whips_world.proofs.Grows.{first_of_first, grows_same, event_grows, skip_grows, rest_grows, turns_grow, run_grows}
use Rattle.whips_world.proofs.Drains.{turn_done, turn_skipped, plan_full, finished_here}
use Rattle.whips_world.proofs.PickTurns.{picks_full}
use Rattle.whips_world.proofs.Moves.{store_long, carries, enabled_is, event_reports, event_full, event_at, slots_long}
use Rattle.whips_world.proofs.Reading.{map_there, all_there, reader_there, none_open, readers_stay, readers_open, readers_close, readers_scan, readers_fetch}

-- ---- the machine's sessions

-- an event of the pipeline leaves the sessions
sessions_stay : (f : Facts) (e : Event) (w : World) (o : Option Shortage) → shortage_at f w.pipeline e ≡ o → (after_pipeline_event f e w).sessions ≡ w.sessions
sessions_stay f e w None q = moves q
  where
    moves : shortage_at f w.pipeline e ≡ None → (after_pipeline_event f e w).sessions ≡ w.sessions
    moves q = rw (q, after_pipeline_event) refl
sessions_stay f e w (Some v) q = ends q
  where
    ends : shortage_at f w.pipeline e ≡ Some v → (after_pipeline_event f e w).sessions ≡ w.sessions
    ends q = rw (q, after_pipeline_event) refl

-- ---- slots and cuts

-- the slots of a view that is there
slots_there : (ws : List SlottedView) (vs : List ViewState) (x : ℕ) → AreViewsOf ws vs → x < length vs → slice_index (map (λ (v : SlottedView). v.slots) ws) x ≡ length (slice_index_or vs x no_view).records
slots_there [] [] x h lt = absurd (omega (arith, lt))
slots_there [] (v ∷ vs) x h lt = absurd h
slots_there (w ∷ ws) [] x h lt = absurd h
slots_there (w ∷ ws) (v ∷ vs) zero h lt = sym h.0.1
slots_there (w ∷ ws) (v ∷ vs) (suc x) h lt = slots_there ws vs x h.1 (omega (arith, lt))

-- a version that was committed has its cut among the versions
cut_there : (older : List (List ℕ)) (cut target : List ℕ) (v : ℕ) → v ≤ length older → slice_index_or (older ++ cut ∷ target ∷ []) v [] ≡ slice_index_or (older ++ cut ∷ []) v []
cut_there [] cut target zero le = refl
cut_there [] cut target (suc v) le = absurd (omega (arith, le))
cut_there (c ∷ older) cut target zero le = refl
cut_there (c ∷ older) cut target (suc v) le = cut_there older cut target v (omega (arith, le))

-- ---- what is left

-- a run that is full stops
left_full : (f : Facts) (left : Left) (w : World) → w.is_full ≡ true → after_left f left w ≡ w
left_full f (events_left place es) w t = plan_full f place es w t
left_full f (turns_left steps state scans) w t = picks_full f steps state w t

-- what was reported is a first part of what is reported at the end
left_grows : (s : Script) (left : Left) (w : World) → Told (facts_of s) w → IsFirstPart (reported s w) (reported s (finished_world (facts_of s) (after_left (facts_of s) left w)))
left_grows s (events_left place es) w h = rest_grows s place es w h
left_grows s (turns_left steps state scans) w h = turns_grow s steps state w h

module _ {K : Type 0} (told : Telling K) (a : Start K) (m : Moment K) (w : World) (at : IsAt told a m.core m.sink w) (are : AreReaders m.core.loaded.store m.readers w.sessions) where
  -- the same events are allowed
  pub allowed_is : (e : Event) → is_allowed_here m.core m.readers e ≡ is_allowed (facts_of a.script) w e
  allowed_is e = by e
    where
      views : length m.core.setup.views ≡ length (facts_of a.script).slots
      views = ap (λ (s : SetupData). length s.views) at.setup ∙ sym (slots_long a.script)

      by : (e : Event) → is_allowed_here m.core m.readers e ≡ is_allowed (facts_of a.script) w e
      by (Commit y) = enabled_is told a m.core m.sink w at (Commit y)
      by (Answer y x) = enabled_is told a m.core m.sink w at (Answer y x)
      by (Integrate y) = enabled_is told a m.core m.sink w at (Integrate y)
      by (Manage x) = enabled_is told a m.core m.sink w at (Manage x)
      by Rel = enabled_is told a m.core m.sink w at Rel
      by (Act x) = enabled_is told a m.core m.sink w at (Act x)
      by Begin = enabled_is told a m.core m.sink w at Begin
      by Change = enabled_is told a m.core m.sink w at Change
      by Publish = enabled_is told a m.core m.sink w at Publish
      by (SessionOpen s) = ap (λ ts. is_not_open (slice_get ts s)) are.sessions_are
      by (SessionScan s x) = ap₂ (λ ts n. is_open (slice_get ts s) && nat_lt x n) are.sessions_are views
      by (SessionFetch s n) = ap (λ ts. is_some (scan_of (slice_get ts s)) && nat_lt 0 n) are.sessions_are
      by (SessionClose s) = ap (λ ts. is_open (slice_get ts s)) are.sessions_are

-- lines that the run goes on with, where it fails at them, are a first part of the report with those before them
tried : {K : Type 0} (told : Telling K) (a : Start K) (m : Moment K) (w : World) → IsAt told a m.core m.sink w → (failed : Telling K) → FailsLater told failed → (l : K) (z : World) (lines : List Reported)
    → IsFirstPart (reported a.script z) (reported a.script (whole a)) → reported a.script z ≡ reported a.script w ++ lines → failed m.sink l lines → TellsPart failed a l
tried told a m w at failed later l z lines part is bad = (
  reported a.script w ++ lines,
  subst (λ xs. IsFirstPart xs (reported a.script (whole a))) is part,
  later a.sink m.sink l (reported a.script w) lines at.reports bad,
)

-- ---- before a turn

module _ {K : Type 0} (told : Telling K) (on : TellsOn told) (a : Start K) (m : Moment K) (left : Left) (h : IsOnPlan told a m left) where
  -- what was told by then
  pub plan_told : (l : K) → told m.sink l [] → TellsPart told a l
  plan_told l lines = (
    reported a.script h.run ++ [],
    subst (λ xs. IsFirstPart xs (reported a.script (whole a))) (sym (append-nil (reported a.script h.run)))
        (subst (λ z. IsFirstPart (reported a.script h.run) (reported a.script z)) h.ends (left_grows a.script left h.run h.at.kept)),
    on a.sink m.sink l (reported a.script h.run) [] h.at.reports lines,
  )

-- ---- a listed event that can't be done, and one that can

module _ {K : Type 0} (told : Telling K) (on : TellsOn told) (a : Start K) (m : Moment K) (place : ℕ) (e : Event) (rest : List Event) (h : IsOnPlan told a m (events_left place (e ∷ rest))) where
  off : is_allowed_here m.core m.readers e ≡ false → is_allowed (facts_of a.script) h.run e ≡ false
  off not = sym (allowed_is told a m h.run h.at h.readers e) ∙ not

  skipped_ends : is_allowed_here m.core m.readers e ≡ false → finished_world (facts_of a.script) (after_listed_plan (facts_of a.script) (suc place) rest (with_record (skip place e) h.run)) ≡ whole a
  skipped_ends not =
      ap (λ z. finished_world (facts_of a.script) (after_listed_plan (facts_of a.script) (suc place) rest z)) (sym (turn_skipped (facts_of a.script) place e h.run h.goes_on (off not))) ∙ h.ends

  pub skips_tried : (failed : Telling K) → FailsLater told failed → is_allowed_here m.core m.readers e ≡ false → (l : K) → failed m.sink l (alone (skip place e) ∷ []) → TellsPart failed a l
  skips_tried failed later not l bad =
      let z = with_record (skip place e) h.run in
      tried told a m h.run h.at failed later l z (alone (skip place e) ∷ [])
      (subst (λ y. IsFirstPart (reported a.script z) (reported a.script y)) (skipped_ends not) (rest_grows a.script (suc place) rest z (skip_told (facts_of a.script) h.run place e h.goes_on h.at.kept)))
      (skip_grows a.script h.run place e h.at.kept) bad

  pub turn_skips : is_allowed_here m.core m.readers e ≡ false → (l : K) → told m.sink l (alone (skip place e) ∷ []) → IsOnPlan told a (record m { sink = l }) (events_left (suc place) rest)
  turn_skips not l lines = record {
    run = with_record (skip place e) h.run;
    at = record {
      valid = h.at.valid;
      is_work = h.at.is_work;
      setup = h.at.setup;
      events = h.at.events;
      loaded = h.at.loaded;
      pipeline = h.at.pipeline;
      kept = skip_told (facts_of a.script) h.run place e h.goes_on h.at.kept;
      reports = subst (told a.sink l) (sym (skip_grows a.script h.run place e h.at.kept)) (on a.sink m.sink l (reported a.script h.run) (alone (skip place e) ∷ []) h.at.reports lines);
    };
    readers = h.readers;
    goes_on = h.goes_on;
    counted = tt;
    ends = skipped_ends not;
  }

  pub listed_due : is_allowed_here m.core m.readers e ≡ true → IsDue told a m e (events_left (suc place) rest)
  listed_due may =
      let allowed : is_allowed (facts_of a.script) h.run e ≡ true = sym (allowed_is told a m h.run h.at h.readers e) ∙ may in
      record {
        run = h.run;
        at = h.at;
        readers = h.readers;
        goes_on = h.goes_on;
        counted = tt;
        ends = ap (λ z. finished_world (facts_of a.script) (after_listed_plan (facts_of a.script) (suc place) rest z)) (sym (turn_done (facts_of a.script) place e h.run h.goes_on allowed)) ∙ h.ends;
      }

-- ---- an event that can be done

module _ {K : Type 0} (told : Telling K) (on : TellsOn told) (a : Start K) (m : Moment K) (e : Event) (left : Left) (h : IsDue told a m e left) where
  here : Carries a.script m.core.loaded h.run.pipeline
  here = carries told a m.core m.sink h.run h.at

  allowed_here : is_allowed_here m.core m.readers e ≡ true → is_allowed (facts_of a.script) h.run e ≡ true
  allowed_here may = sym (allowed_is told a m h.run h.at h.readers e) ∙ may

  -- how the run goes on after the event
  done_ends : (z : World) → after_event (facts_of a.script) e h.run ≡ z → finished_world (facts_of a.script) (after_left (facts_of a.script) left z) ≡ whole a
  done_ends z is = ap (λ z. finished_world (facts_of a.script) (after_left (facts_of a.script) left z)) (sym is) ∙ h.ends

  -- ---- what was told

  -- the report after the event is a first part
  done_part : is_allowed (facts_of a.script) h.run e ≡ true → IsFirstPart (reported a.script (after_event (facts_of a.script) e h.run)) (reported a.script (whole a))
  done_part allowed =
      let z = after_event (facts_of a.script) e h.run in
      subst (λ y. IsFirstPart (reported a.script z) (reported a.script y)) h.ends (left_grows a.script left z (event_told (facts_of a.script) h.run e h.goes_on allowed h.at.kept))

  pub due_told : is_allowed_here m.core m.readers e ≡ true → (l : K) → told m.sink l [] → TellsPart told a l
  due_told may l lines =
      let z = after_event (facts_of a.script) e h.run in (
        reported a.script h.run ++ [],
        subst (λ xs. IsFirstPart xs (reported a.script (whole a))) (sym (append-nil (reported a.script h.run)))
            (first_of_first (reported a.script h.run) (reported a.script z) (reported a.script (whole a)) (event_grows a.script h.run e h.at.kept) (done_part (allowed_here may))),
        on a.sink m.sink l (reported a.script h.run) [] h.at.reports lines,
      )

  module _ (failed : Telling K) (later : FailsLater told failed) where
    done_tried : is_allowed (facts_of a.script) h.run e ≡ true → (l : K) (lines : List Reported) → reported a.script (after_event (facts_of a.script) e h.run) ≡ reported a.script h.run ++ lines → failed m.sink l lines → TellsPart failed a l
    done_tried allowed l lines is bad = tried told a m h.run h.at failed later l (after_event (facts_of a.script) e h.run) lines (done_part allowed) is bad

    pub does_tried : is_enabled_loaded m.core.loaded e ≡ true → (l : K) → failed m.sink l (event_lines m.core.setup m.core.loaded e) → TellsPart failed a l
    does_tried en l bad =
        done_tried (enabled_allowed (facts_of a.script) h.run e (sym (enabled_is told a m.core m.sink h.run h.at e) ∙ en)) l (event_lines m.core.setup m.core.loaded e)
        (event_reports told a m.core m.sink h.run h.at e en ∙ ap (λ s. reported a.script h.run ++ event_lines s m.core.loaded e) (sym h.at.setup)) bad

  -- ---- an event of the core

  piped_sessions : is_enabled_loaded m.core.loaded e ≡ true → (after_event (facts_of a.script) e h.run).sessions ≡ h.run.sessions
  piped_sessions en = by e en
    where
      by : (e : Event) → is_enabled_loaded m.core.loaded e ≡ true → (after_event (facts_of a.script) e h.run).sessions ≡ h.run.sessions
      by (Commit y) en = refl
      by (Answer y x) en = refl
      by (Integrate y) en = refl
      by (Manage x) en = refl
      by Rel en = refl
      by (Act x) en = refl
      by Begin en = sessions_stay (facts_of a.script) Begin h.run (shortage_at (facts_of a.script) h.run.pipeline Begin) refl
      by Change en = refl
      by Publish en = refl
      by (SessionOpen s) en = absurd (cc)
      by (SessionScan s x) en = absurd (cc)
      by (SessionFetch s n) en = absurd (cc)
      by (SessionClose s) en = absurd (cc)

  module _ (d : CoreData) (l : K) (en : is_enabled_loaded m.core.loaded e ≡ true) (same : d.setup ≡ m.core.setup) (is : d.loaded ≡ step_loaded m.core.setup m.core.loaded e)
      (lines : told m.sink l (event_lines m.core.setup m.core.loaded e)) where
    after_at : IsAt told a d l (after_event (facts_of a.script) e h.run)
    after_at = event_at told a m.core m.sink h.run h.at on d l e h.goes_on en same is lines

    after_readers : AreReaders d.loaded.store m.readers (after_event (facts_of a.script) e h.run).sessions
    after_readers =
        let goes = stores_go_on a.script h.at.valid h.at.is_work h.at.events (e ∷ []) in
        let first = start_loaded a.script.setup a.script.work (store_at_first a.script.setup) in
        let loaded : d.loaded ≡ loaded_after a.script (h.at.events ++ e ∷ []) = is ∙ (ap₂ (λ s l. step_loaded s l e) h.at.setup h.at.loaded ∙ sym (after_more a.script.setup h.at.events first e)) in
        let store = m.core.loaded.store in
        let after : IsLater store d.loaded.store =
        subst (λ l. IsLater l.store d.loaded.store) (sym h.at.loaded) (subst (λ l. IsLater (loaded_after a.script h.at.events).store l.store) (sym loaded) goes) in
        readers_stay store d.loaded.store m.readers h.run.sessions (after_event (facts_of a.script) e h.run).sessions after (piped_sessions en) h.readers

    done_full : (after_event (facts_of a.script) e h.run).is_full ≡ is_full_for m.core.setup m.core.loaded e
    done_full = event_full told a m.core m.sink h.run h.at e en h.goes_on ∙ ap (λ s. is_full_for s m.core.loaded e) (sym h.at.setup)

    pub turn_does : (full : Bool) → full ≡ is_full_for m.core.setup m.core.loaded e → IsTurned told a (record { core = d; readers = m.readers; sink = l }) left full
    turn_does false room = record {
      run = after_event (facts_of a.script) e h.run;
      at = after_at;
      readers = after_readers;
      goes_on = done_full ∙ sym room;
      counted = h.counted;
      ends = h.ends;
    }
    turn_does true fills =
        let f = facts_of a.script in
        let z = after_event f e h.run in
        let stops : z.is_full ≡ true = done_full ∙ sym fills in
        record {
          run = z;
          at = after_at;
          full = stops;
          ends = sym (finished_here f z (inl stops)) ∙ (ap (finished_world f) (sym (left_full f left z stops)) ∙ h.ends);
          rests = λ off. absurd (cc);
        }

  -- ---- an event of a session

  -- the pipeline stays, and these lines are told
  quiet_at : is_allowed (facts_of a.script) h.run e ≡ true → (z : World) → after_event (facts_of a.script) e h.run ≡ z → z.pipeline ≡ h.run.pipeline
      → (l : K) (lines : List Reported) → reported a.script z ≡ reported a.script h.run ++ lines → told m.sink l lines → IsAt told a m.core l z
  quiet_at allowed z is piped l lines grows said = record {
    valid = h.at.valid;
    is_work = h.at.is_work;
    setup = h.at.setup;
    events = h.at.events;
    loaded = h.at.loaded;
    pipeline = piped ∙ h.at.pipeline;
    kept = subst (λ w. Told (facts_of a.script) w) is (event_told (facts_of a.script) h.run e h.goes_on allowed h.at.kept);
    reports = subst (told a.sink l) (sym grows) (on a.sink m.sink l (reported a.script h.run) lines h.at.reports said);
  }

  quiet_turn : is_allowed (facts_of a.script) h.run e ≡ true → (z : World) → after_event (facts_of a.script) e h.run ≡ z → z.pipeline ≡ h.run.pipeline → z.is_full ≡ h.run.is_full
      → (l : K) (lines : List Reported) → reported a.script z ≡ reported a.script h.run ++ lines → told m.sink l lines → (readers : List ReaderData) → AreReaders m.core.loaded.store readers z.sessions
      → IsOnPlan told a (record { core = m.core; readers = readers; sink = l }) left
  quiet_turn allowed z is piped off l lines grows said readers are =
      record { run = z; at = quiet_at allowed z is piped l lines grows said; readers = are; goes_on = off ∙ h.goes_on; counted = subst (HasCounted left) is h.counted; ends = done_ends z is }

  abbrev store : StoreState
  store = m.core.loaded.store

  phase_is : store.phase ≡ phase_of h.run
  phase_is = here.store.phase

-- ---- the events of sessions

module _ {K : Type 0} (told : Telling K) (on : TellsOn told) (a : Start K) (m : Moment K) (left : Left) where
  -- ---- a session opens

  module _ (s : ℕ) (h : IsDue told a m (SessionOpen s) left) where
    open_grows : reported a.script (after_open s h.run) ≡ reported a.script h.run ++ open_line s m.core.loaded.store ∷ []
    open_grows =
        grows_same a.script h.run (after_open s h.run) (opened s (phase_of h.run / 2) (phase_of h.run) ∷ []) h.at.kept refl refl
        ∙ ap (λ p. reported a.script h.run ++ alone (opened s (p / 2) p) ∷ []) (sym (phase_is told on a m (SessionOpen s) left h))

    pub opens_turn : is_allowed_here m.core m.readers (SessionOpen s) ≡ true → (l : K) → told m.sink l (open_line s m.core.loaded.store ∷ [])
        → IsOnPlan told a (record { core = m.core; readers = changed_at s (λ (r : ReaderData). record r { session = Some (opened_session m.core.loaded.store) }) m.readers; sink = l }) left
    opens_turn may l said =
        let store = m.core.loaded.store in
        let readers = changed_at s (λ (r : ReaderData). record r { session = Some (opened_session store) }) m.readers in
        let r = reader_there is_not_open refl m.readers s may in
        let phase = phase_is told on a m (SessionOpen s) left h in
        quiet_turn told on a m (SessionOpen s) left h (allowed_here told on a m (SessionOpen s) left h may) (after_open s h.run) refl refl refl l (open_line s store ∷ []) open_grows said readers
        (subst (λ p. AreReaders store readers (changed_at s (λ _. open_at (p / 2)) h.run.sessions)) phase (readers_open store m.readers h.run.sessions s r.0 r.1 h.readers))

    pub opens_tried : (failed : Telling K) → FailsLater told failed → is_allowed_here m.core m.readers (SessionOpen s) ≡ true → (l : K) → failed m.sink l (open_line s m.core.loaded.store ∷ []) → TellsPart failed a l
    opens_tried failed later may l bad =
        done_tried told on a m (SessionOpen s) left h failed later (allowed_here told on a m (SessionOpen s) left h may) l (open_line s m.core.loaded.store ∷ []) open_grows bad

  -- ---- a session closes

  pub closes_turn : (s : ℕ) → IsDue told a m (SessionClose s) left → told m.sink m.sink [] → is_allowed_here m.core m.readers (SessionClose s) ≡ true
      → IsOnPlan told a (record m { readers = changed_at s (λ (r : ReaderData). record r { session = None }) m.readers }) left
  closes_turn s h none may =
      let store = m.core.loaded.store in
      let r = reader_there is_open refl m.readers s may in
      quiet_turn told on a m (SessionClose s) left h (allowed_here told on a m (SessionClose s) left h may) (with_session s not_open h.run) refl refl refl m.sink []
      (sym (append-nil (reported a.script h.run))) none (changed_at s (λ (r : ReaderData). record r { session = None }) m.readers) (readers_close store m.readers h.run.sessions s r.0 r.1 h.readers)

  pub closed_on : (s : ℕ) → IsDue told a m (SessionClose s) left → told m.sink m.sink [] → is_allowed_here m.core m.readers (SessionClose s) ≡ true → (after : List ReaderData) → after ≡ changed_at s (λ (r : ReaderData). record r { session = None }) m.readers
      → IsOnPlan told a (record m { readers = after }) left
  closed_on s h none may after put = subst (λ rs. IsOnPlan told a (record m { readers = rs }) left) (sym put) (closes_turn s h none may)

  -- ---- a session begins a scan

  pub scans_turn : (s x : ℕ) → IsDue told a m (SessionScan s x) left → told m.sink m.sink [] → is_allowed_here m.core m.readers (SessionScan s x) ≡ true → x < length m.core.loaded.store.views
      → (after : List ReaderData) → ChangedAt s (HasBegunScan m.core.loaded.store x) m.readers after → IsOnPlan told a (record m { readers = after }) left
  scans_turn s x h none may lt after did =
      quiet_turn told on a m (SessionScan s x) left h (allowed_here told on a m (SessionScan s x) left h may) (after_scan s x h.run) refl refl refl m.sink []
      (sym (append-nil (reported a.script h.run))) none after (readers_scan m.core.loaded.store m.readers after h.run.sessions s x lt did h.readers)

  -- ---- a session fetches

  module _ (s n : ℕ) (h : IsDue told a m (SessionFetch s n) left) (r t : ReaderData) (line : Reported) (there : slice_get m.readers s ≡ Some r)
      (did : HasFetchedFrom m.core.loaded.store s n r t line) where
    abbrev facts : Facts
    facts = facts_of a.script

    abbrev visited : Scan
    visited = visited_scan facts n (scan_in did.old)

    abbrev fetched_world : World
    fetched_world = with_record (record_of (phase_of h.run) s visited did.fetched) (with_session s (state_of did.new) h.run)

    carried : Carries a.script m.core.loaded h.run.pipeline
    carried = here told on a m (SessionFetch s n) left h

    view_is_there : (scan_in did.old).view < length m.core.loaded.store.views
    view_is_there = (held.2.scan did.scans).view
      where
        held : (b : Buffer) × (IsSome did.old.scan → slice_get r.buffers (scan_in did.old).view ≡ Some (Some b)) × IsReader m.core.loaded.store did.old b
        held = (all_there (IsReaderIn m.core.loaded.store) s m.readers r there h.readers.read).reads did.old did.is_open

    slots_are : slots_of facts (scan_in did.old) ≡ slots_in m.core.loaded.store (scan_in did.old)
    slots_are = slots_there (slotted_views a.script) m.core.loaded.store.views (scan_in did.old).view carried.store.views view_is_there

    versions_are : facts.versions ≡ did.old.versions
    versions_are = sym carried.store.versions ∙ sym held.2.versions
      where
        held : (b : Buffer) × (IsSome did.old.scan → slice_get r.buffers (scan_in did.old).view ≡ Some (Some b)) × IsReader m.core.loaded.store did.old b
        held = (all_there (IsReaderIn m.core.loaded.store) s m.readers r there h.readers.read).reads did.old did.is_open

    visited_is : scan_after (slots_in m.core.loaded.store (scan_in did.old)) n (scan_in did.old) ≡ visited
    visited_is = ap (λ slots. scan_after slots n (scan_in did.old)) (sym slots_are)

    fetch_is : after_event facts (SessionFetch s n) h.run ≡ fetched_world
    fetch_is =
        events facts h.run s n did.old did.new did.fetched
        (ap (λ ts. slice_get ts s) (sym h.readers.sessions_are) ∙ (map_there session_of s m.readers r there ∙ ap (λ o. Some (session_in o)) did.is_open))
        did.scans
        (subst (λ p. IsVisit facts n p did.old did.new did.fetched) (phase_is told on a m (SessionFetch s n) left h) (did.visit facts versions_are slots_are))

    -- the rows that were read are those that the run reports
    rows_are : rows_read did.fetched did.buffer ≡ rows_of a.script (version_cuts h.run.pipeline) (record_of (phase_of h.run) s visited did.fetched)
    rows_are = by did.fetched refl
      where
        committed : did.old.version ≤ length h.run.pipeline.writer.earlier_cuts
        committed = omega (arith, ((all_there (IsReaderIn m.core.loaded.store) s m.readers r there h.readers.read).reads did.old did.is_open).2.committed, carried.store.phase, carried.store.cuts)

        by : (fetched : Fetched) → did.fetched ≡ fetched → rows_read fetched did.buffer ≡ rows_of a.script (version_cuts h.run.pipeline) (record_of (phase_of h.run) s visited fetched)
        by More is = refl
        by Done is =
            did.did.values is (values_at a.script (cut_of_version h.run.pipeline.writer)) carried.store.faithful
            ∙ ap (value_at a.script (view_at a.script (scan_in did.old).view)) (cut_there h.run.pipeline.writer.earlier_cuts h.run.pipeline.writer.cut h.run.pipeline.writer.target_cut did.old.version committed)
        by (Expired v phase) is = refl

    fetch_reports : reported a.script fetched_world ≡ reported a.script h.run ++ line ∷ []
    fetch_reports =
        let record_is = record_of (phase_of h.run) s visited did.fetched in
        grows_same a.script h.run fetched_world (record_is ∷ []) h.at.kept refl refl
        ∙ ap (λ l. reported a.script h.run ++ l ∷ []) (sym (did.told
        ∙ (ap (λ p. fetch_line p s (scan_after (slots_in m.core.loaded.store (scan_in did.old)) n (scan_in did.old)) did.fetched did.buffer) (phase_is told on a m (SessionFetch s n) left h)
        ∙ (ap (λ scan. fetch_line (phase_of h.run) s scan did.fetched did.buffer) visited_is ∙ ap (λ rows. record { entry = record_is; rows = rows }) rows_are))))

    pub fetches_turn : is_allowed_here m.core m.readers (SessionFetch s n) ≡ true → (l : K) → told m.sink l (line ∷ [])
        → IsOnPlan told a (record { core = m.core; readers = changed_at s (λ _. t) m.readers; sink = l }) left
    fetches_turn may l said =
        quiet_turn told on a m (SessionFetch s n) left h (allowed_here told on a m (SessionFetch s n) left h may) fetched_world fetch_is refl refl l (line ∷ []) fetch_reports said
        (changed_at s (λ _. t) m.readers) (readers_fetch m.core.loaded.store m.readers h.run.sessions s n r t line there did h.readers)

    pub fetches_tried : (failed : Telling K) → FailsLater told failed → is_allowed_here m.core m.readers (SessionFetch s n) ≡ true → (l : K) → failed m.sink l (line ∷ []) → TellsPart failed a l
    fetches_tried failed later may l bad =
        done_tried told on a m (SessionFetch s n) left h failed later (allowed_here told on a m (SessionFetch s n) left h may) l (line ∷ []) (ap (reported a.script) fetch_is ∙ fetch_reports) bad

-- ---- the same, of the store that the core hands out

module _ {K : Type 0} (told : Telling K) (on : TellsOn told) (a : Start K) (m : Moment K) (left : Left) (store : StoreState) (is : store ≡ m.core.loaded.store) where
  pub opened_on : (s : ℕ) → IsDue told a m (SessionOpen s) left → is_allowed_here m.core m.readers (SessionOpen s) ≡ true → (after : List ReaderData) (l : K)
      → after ≡ changed_at s (λ (r : ReaderData). record r { session = Some (opened_session store) }) m.readers → told m.sink l (open_line s store ∷ [])
      → IsOnPlan told a (record { core = m.core; readers = after; sink = l }) left
  opened_on s h may after l put said =
      subst (λ rs. IsOnPlan told a (record { core = m.core; readers = rs; sink = l }) left)
      (sym (put ∙ ap (λ st. changed_at s (λ (r : ReaderData). record r { session = Some (opened_session st) }) m.readers) is))
      (opens_turn told on a m left s h may l (subst (λ st. told m.sink l (open_line s st ∷ [])) is said))

  pub open_failed : (s : ℕ) → IsDue told a m (SessionOpen s) left → is_allowed_here m.core m.readers (SessionOpen s) ≡ true → (failed : Telling K) → FailsLater told failed → (l : K)
      → failed m.sink l (open_line s store ∷ []) → TellsPart failed a l
  open_failed s h may failed later l bad = opens_tried told on a m left s h failed later may l (subst (λ st. failed m.sink l (open_line s st ∷ [])) is bad)

  pub scan_there : (s x : ℕ) → IsDue told a m (SessionScan s x) left → is_allowed_here m.core m.readers (SessionScan s x) ≡ true → x < length store.views
  scan_there s x h may =
      let there = (and_parts (is_open (slice_get (map session_of m.readers) s)) (nat_lt x (length m.core.setup.views)) may).1 in
      let views = store_long a.script m.core.loaded h.run.pipeline (here told on a m (SessionScan s x) left h) in
      omega (arith, ltb-true x (length m.core.setup.views) there, ap (λ (d : SetupData). length d.views) h.at.setup, views, ap (λ (st : StoreState). length st.views) is)

  pub scanned_on : (s x : ℕ) → IsDue told a m (SessionScan s x) left → told m.sink m.sink [] → is_allowed_here m.core m.readers (SessionScan s x) ≡ true → (after : List ReaderData)
      → ChangedAt s (HasBegunScan store x) m.readers after → IsOnPlan told a (record m { readers = after }) left
  scanned_on s x h none may after did =
      scans_turn told on a m left s x h none may (let lt = scan_there s x h may in omega (arith, lt, ap (λ (st : StoreState). length st.views) is)) after (subst (λ st. ChangedAt s (HasBegunScan st x) m.readers after) is did)

  pub fetched_on : (s n : ℕ) → IsDue told a m (SessionFetch s n) left → is_allowed_here m.core m.readers (SessionFetch s n) ≡ true → (after : List ReaderData) (l : K)
      → (line : Reported) × ChangedAt s (λ r t. HasFetchedFrom store s n r t line) m.readers after × told m.sink l (line ∷ []) → IsOnPlan told a (record { core = m.core; readers = after; sink = l }) left
  fetched_on s n h may after l (line, (r, t, there, did, put), said) =
      subst (λ rs. IsOnPlan told a (record { core = m.core; readers = rs; sink = l }) left) (sym put)
      (fetches_turn told on a m left s n h r t line there (subst (λ st. HasFetchedFrom st s n r t line) is did) may l said)

  pub fetch_failed : (s n : ℕ) → IsDue told a m (SessionFetch s n) left → is_allowed_here m.core m.readers (SessionFetch s n) ≡ true → (failed : Telling K) → FailsLater told failed → (after : List ReaderData) (l : K)
      → (line : Reported) × ChangedAt s (λ r t. HasFetchedFrom store s n r t line) m.readers after × failed m.sink l (line ∷ []) → TellsPart failed a l
  fetch_failed s n h may failed later after l (line, (r, t, there, did, put), bad) =
      fetches_tried told on a m left s n h r t line there (subst (λ st. HasFetchedFrom st s n r t line) is did) failed later may l bad

-- an event of the core that is allowed is enabled
pub enabled_piped : (c : CoreData) (rs : List ReaderData) (e : Event) → is_pipeline_event e ≡ true → is_allowed_here c rs e ≡ true → is_enabled_loaded c.loaded e ≡ true
enabled_piped c rs (Commit y) piped may = may
enabled_piped c rs (Answer y x) piped may = may
enabled_piped c rs (Integrate y) piped may = may
enabled_piped c rs (Manage x) piped may = may
enabled_piped c rs Rel piped may = may
enabled_piped c rs (Act x) piped may = may
enabled_piped c rs Begin piped may = may
enabled_piped c rs Change piped may = may
enabled_piped c rs Publish piped may = may
enabled_piped c rs (SessionOpen s) piped may = absurd (cc)
enabled_piped c rs (SessionScan s x) piped may = absurd (cc)
enabled_piped c rs (SessionFetch s n) piped may = absurd (cc)
enabled_piped c rs (SessionClose s) piped may = absurd (cc)

-- ---- from the first event of the plan to the last

module _ {K : Type 0} (told : Telling K) (on : TellsOn told) (a : Start K) (c : CoreData) (k : K) (schedule : ℕ × Plan) (h : IsBegun told a c k schedule) where
  -- the readers before the first event
  begins_with : (readers : List ReaderData) (views : ℕ) → views ≡ length c.setup.views → readers ≡ replicate schedule.0 (closed_reader views) → AreReaders c.loaded.store readers (replicate a.script.sessions not_open)
  begins_with readers views many are =
      let long = store_long a.script c.loaded (start_world (facts_of a.script)).pipeline (carries told a c k (start_world (facts_of a.script)) h.at) in
      let count : views ≡ length c.loaded.store.views = many ∙ (ap (λ (s : SetupData). length s.views) h.at.setup ∙ sym long) in
      subst (λ rs. AreReaders c.loaded.store rs (replicate a.script.sessions not_open)) (sym (are ∙ ap₂ (λ n v. replicate n (closed_reader v)) h.sessions count)) (none_open c.loaded.store a.script.sessions)

  -- what is left at first ends as the whole run
  all_ends : (plan : Plan) → finished_world (facts_of a.script) (after_left (facts_of a.script) (all_left plan) (start_world (facts_of a.script))) ≡ run_of a.script plan
  all_ends (Listed es) = refl
  all_ends (Picked start steps) = refl

  none_counted : (plan : Plan) → HasCounted (all_left plan) (start_world (facts_of a.script))
  none_counted (Listed es) = tt
  none_counted (Picked start steps) = refl

  pub plan_begins : (readers : List ReaderData) (views : ℕ) → views ≡ length c.setup.views → readers ≡ replicate schedule.0 (closed_reader views) → IsOnPlan told a (record { core = c; readers = readers; sink = k }) (all_left schedule.1)
  plan_begins readers views many are = record {
    run = start_world (facts_of a.script);
    at = h.at;
    readers = begins_with readers views many are;
    goes_on = refl;
    counted = none_counted schedule.1;
    ends = all_ends schedule.1 ∙ ap (run_of a.script) h.plan;
  }

  pub begun_told : told k k [] → TellsPart told a k
  begun_told none =
      let w = start_world (facts_of a.script) in (
        reported a.script w ++ [],
        subst (λ xs. IsFirstPart xs (reported a.script (whole a))) (sym (append-nil (reported a.script w))) (run_grows a.script a.plan),
        on a.sink k k (reported a.script w) [] h.at.reports none,
      )

-- once all events are done, the run is on its way to the end
pub plan_ends : {K : Type 0} (told : Telling K) (a : Start K) (m : Moment K) (place : ℕ) → IsOnPlan told a m (events_left place []) → IsOnWay told a m.core m.sink
plan_ends told a m place h = record { run = h.run; at = h.at; goes_on = h.goes_on; ends = h.ends }

-- what is left at a place is the event there, and the rest
pub left_at : {A : Type 0} (xs : List A) (i : ℕ) (d : A) → i < length xs → drop i xs ≡ slice_index_or xs i d ∷ drop (i + 1) xs
left_at [] i d lt = absurd (omega (arith, lt))
left_at (x ∷ xs) zero d lt = refl
left_at (x ∷ xs) (suc i) d lt =
    let e : suc (i + 1) ≡ suc i + 1 = omega arith in
    left_at xs i d (omega (arith, lt)) ∙ ap (λ n. slice_index_or xs i d ∷ drop n (x ∷ xs)) e

-- nothing is left behind the last
pub none_left : {A : Type 0} (xs : List A) (i : ℕ) → length xs ≤ i → drop i xs ≡ []
none_left [] zero le = refl
none_left [] (suc i) le = refl
none_left (x ∷ xs) zero le = absurd (omega (arith, le))
none_left (x ∷ xs) (suc i) le = none_left xs i (omega (arith, le))

-- the plan before the turn of the event at this place of the schedule
pub plan_at : {K : Type 0} (told : Telling K) (a : Start K) (m : Moment K) (i : ℕ) (es : List Event) (d : Event) → i < length es
    → IsOnPlan told a m (events_left (suc i) (drop i es)) → IsOnPlan told a m (events_left (i + 1) (slice_index_or es i d ∷ drop (i + 1) es))
plan_at told a m i es d lt h =
    let place : suc i ≡ i + 1 = omega arith in
    subst (λ p. IsOnPlan told a m (events_left p (slice_index_or es i d ∷ drop (i + 1) es))) place
    (subst (λ l. IsOnPlan told a m (events_left (suc i) l)) (left_at es i d lt) h)

-- the plan once all events had their turns
pub plan_over : {K : Type 0} (told : Telling K) (a : Start K) (m : Moment K) (i : ℕ) (es : List Event) → length es ≤ i → IsOnPlan told a m (events_left (suc i) (drop i es)) → IsOnWay told a m.core m.sink
plan_over told a m i es le h = plan_ends told a m (suc i) (subst (λ l. IsOnPlan told a m (events_left (suc i) l)) (none_left es i le) h)
