-- The run on its way to the end.
--
-- `run_begins`: the core where its run starts. `way_goes_on`, `way_drains`, `way_fills`: how it stays on the way of its run, and leaves it at the end or where a view is full. `way_told`, `way_tried`: what a sink was told on the way is a first part of the report.
use Rattle.std.proofs.Common.{◌≡◌, ℕ, ◌<◌, Bool, true, false, not, List, [], ◌∷◌, ◌++◌, length, append-nil, append_assoc, Option, Some, None, cond, refl, sym, ap, subst, ◌∙◌, arith, inl, inr}
use Rattle.std.specs.Prelude.{map, find, is_some}
use Rattle.std.proofs.lemmas.List.{length-map, length-replicate}
use Rattle.std.proofs.lemmas.Bool.{and_from}
use Rattle.whips_flow.specs.Facts.{Facts, view_places}
use Rattle.whips_flow.specs.State.{start, version_cuts}
use Rattle.whips_flow.specs.Progress.{is_enabled, is_done, step, next, shortage_at, first_enabled, pipeline_events}
use Rattle.whips_flow.specs.Work.{work}
use Rattle.whips_flow.specs.declared.event.Event.{Event}
use Rattle.whips_drain_laws.specs.Drain.{HasAllManagers}
use Rattle.whips_runs.specs.Records.{final, final_rows}
use Rattle.whips_runs.specs.World.{World, after_event, finished_world, with_final_records, start_world}
use Rattle.whips_run_laws.proofs.Reaches.{enabled_allowed}
use Rattle.whips_states.specs.States.{Updates}
use Rattle.whips_setup.specs.Setups.{SetupData}
use Rattle.whips_facts.specs.ScriptFacts.{facts_of}
use Rattle.whips_facts_laws.proofs.Ends.{step_shaped, after_shaped}
use Rattle.whips_facts_laws.proofs.Premises.{roomy}
use Rattle.whips_reports.specs.Reported.{Reported, reported}
use Rattle.whips_contents.specs.Events.{is_enabled_loaded, is_full_for, step_loaded}
use Rattle.whips_contents.specs.Tokens.{tokens}
use Rattle.whips_headline_laws.proofs.Told.{start_told, event_told}
use Rattle.whips_core_laws.specs.Core.{Carries}
use Rattle.whips_core_laws.proofs.Starts.{fits_start}
use Rattle.whips_core_laws.proofs.Carried.{core_carries}
use Rattle.whips_core.specs.Cores.{CoreData}
use Rattle.whips_world.specs.Lines.{version_line, event_lines, end_lines}
use Rattle.whips_report.specs.Told.{Telling, TellsOn, FailsLater}
use Rattle.whips_world.specs.Runs.{IsFirstPart, Start, whole, IsAt, IsStart, IsOnWay, IsDrained, TellsPart, TellsWhole}
use Rattle.whips_world.proofs.Grows.{finished_grows, final_grows, run_grows}
use Rattle.whips_world.proofs.Drains.{first_is_enabled, step_falls, event_steps, finished_next, finished_here}
use Rattle.whips_world.proofs.Moves.{carries, enabled_is, first_is, event_reports, event_full, event_at, next_carries, version_is, ends_are, slots_long}

-- ---- managers

module _ {K : Type 0} (told : Telling K) (a : Start K) (c : CoreData) (k : K) (w : World) (h : IsAt told a c k w) where
  shaped : HasAllManagers (facts_of a.script) w.pipeline
  shaped = subst (HasAllManagers (facts_of a.script)) (sym h.pipeline) (after_shaped (facts_of a.script) h.events (start (facts_of a.script)) (length-replicate (length (facts_of a.script).slots) _))

  -- the first event of the core is the first of the machine
  pub first_found : (o : Option Event) → o ≡ find (is_enabled_loaded c.loaded) (pipeline_events (facts_of a.script)) → first_enabled (facts_of a.script) w.pipeline ≡ o
  first_found o is = sym (is ∙ first_is told a c k w h)

  pub first_done : (e : Event) → first_enabled (facts_of a.script) w.pipeline ≡ Some e → is_enabled_loaded c.loaded e ≡ true
  first_done e found = enabled_is told a c k w h e ∙ first_is_enabled (facts_of a.script) w.pipeline e found

  -- an event that is done leaves less work
  pub work_falls : (e : Event) → is_enabled_loaded c.loaded e ≡ true → is_full_for a.script.setup c.loaded e ≡ false
      → work (facts_of a.script) (tokens (length a.script.setup.views) (step_loaded a.script.setup c.loaded e)) < work (facts_of a.script) (tokens (length a.script.setup.views) c.loaded)
  work_falls e en room =
      let f = facts_of a.script in
      let p = w.pipeline in
      let here = carries told a c k w h in
      let next_one = next_carries told a c k w h e in
      let done : is_done f p e ≡ true = and_from (is_enabled f p e) (not (is_some (shortage_at f p e))) (sym (enabled_is told a c k w h e) ∙ en) (ap not (sym (here.full e en) ∙ room)) in
      let stepped : step f p e ≡ next f p e = ap (λ b. cond b (next f p e) p) done in
      omega (arith, ap (work f) (next_one.tokens ∙ stepped), ap (work f) here.tokens, step_falls f (roomy a.script) p e shaped done)

  -- the first event of the core, by the facts of any script of so many views and sources
  pub first_of_core : (o : Option Event) → ((f : Facts) → length f.slots ≡ length c.setup.views → length f.transactions ≡ c.setup.sources → o ≡ find (is_enabled_loaded c.loaded) (pipeline_events f))
      → first_enabled (facts_of a.script) w.pipeline ≡ o
  first_of_core o is = first_found o (is (facts_of a.script)
      (slots_long a.script ∙ ap (λ (s : SetupData). length s.views) (sym h.setup))
      (length-map a.script.work (λ (ts : List Updates). length ts) ∙ ((fits_start a.script h.valid h.is_work).sources ∙ ap (λ (s : SetupData). s.sources) (sym h.setup))))

-- ---- on the way

module _ {K : Type 0} (told : Telling K) (on : TellsOn told) (a : Start K) where
  -- the first line is a first part of the report
  begin_part : (c : CoreData) (k : K) (ts : List ℕ) → IsStart a c k ts → IsFirstPart (version_line c.loaded ∷ []) (reported a.script (whole a))
  begin_part c k ts h =
      let f = facts_of a.script in
      let here : Carries a.script c.loaded (start f) = subst (λ l. Carries a.script l (start f)) (sym h.loaded) (core_carries a.script h.valid h.is_work []) in
      let same : version_line c.loaded ∷ [] ≡ reported a.script (start_world f) = ap (λ r. r ∷ []) (version_is a.script c.loaded (start f) here (version_cuts (start f))) in
      subst (λ xs. IsFirstPart xs (reported a.script (whole a))) (sym same)
      (run_grows a.script a.plan)

  pub begin_tried : (failed : Telling K) (c : CoreData) (k l : K) (ts : List ℕ) → IsStart a c k ts → failed k l (version_line c.loaded ∷ []) → TellsPart failed a l
  begin_tried failed c k l ts h lines = (version_line c.loaded ∷ [], begin_part c k ts h, subst (λ z. failed z l (version_line c.loaded ∷ [])) h.sink lines)

  pub run_begins : (c : CoreData) (k l : K) → (ts : List ℕ) → IsStart a c k ts → told k l (version_line c.loaded ∷ []) → IsAt told a c l (start_world (facts_of a.script))
  run_begins c k l ts h lines =
      let f = facts_of a.script in
      let here : Carries a.script c.loaded (start f) = subst (λ l. Carries a.script l (start f)) (sym h.loaded) (core_carries a.script h.valid h.is_work []) in
      let same : version_line c.loaded ∷ [] ≡ reported a.script (start_world f) = ap (λ r. r ∷ []) (version_is a.script c.loaded (start f) here (version_cuts (start f))) in
      record {
        valid = h.valid;
        is_work = h.is_work;
        setup = h.setup;
        events = [];
        loaded = h.loaded;
        pipeline = refl;
        kept = start_told f;
        reports = subst (told a.sink l) same (subst (λ z. told z l (version_line c.loaded ∷ [])) h.sink lines);
      }

  module _ (c : CoreData) (k : K) (h : IsOnWay told a c k) where
    -- the run after the event, which is the first
    module _ (e : Event) (found : first_enabled (facts_of a.script) h.run.pipeline ≡ Some e) (d : CoreData) (l : K)
        (same : d.setup ≡ c.setup) (is : d.loaded ≡ step_loaded c.setup c.loaded e) (lines : told k l (event_lines c.setup c.loaded e)) where
      after_at : IsAt told a d l (after_event (facts_of a.script) e h.run)
      after_at = event_at told a c k h.run h.at on d l e h.goes_on (first_done told a c k h.run h.at e found) same is lines

      after_ends : finished_world (facts_of a.script) (after_event (facts_of a.script) e h.run) ≡ whole a
      after_ends = finished_next (facts_of a.script) h.run e (roomy a.script) (shaped told a c k h.run h.at) (shaped told a d l (after_event (facts_of a.script) e h.run) after_at) h.goes_on found ∙ h.ends

      after_full : (after_event (facts_of a.script) e h.run).is_full ≡ is_full_for c.setup c.loaded e
      after_full = event_full told a c k h.run h.at e (first_done told a c k h.run h.at e found) h.goes_on ∙ ap (λ s. is_full_for s c.loaded e) (sym h.at.setup)

      pub way_goes_on : is_full_for c.setup c.loaded e ≡ false → IsOnWay told a d l
      way_goes_on room = record { run = after_event (facts_of a.script) e h.run; at = after_at; goes_on = after_full ∙ room; ends = after_ends }

      pub way_fills : is_full_for c.setup c.loaded e ≡ true → IsDrained told a d l true
      way_fills full = record {
        run = after_event (facts_of a.script) e h.run;
        at = after_at;
        full = after_full ∙ full;
        ends = sym (finished_here (facts_of a.script) (after_event (facts_of a.script) e h.run) (inl (after_full ∙ full))) ∙ after_ends;
        rests = λ off. absurd (cc);
      }

      pub way_lessens : is_full_for c.setup c.loaded e ≡ false → work (facts_of a.script) (tokens (length a.script.setup.views) d.loaded) < work (facts_of a.script) (tokens (length a.script.setup.views) c.loaded)
      way_lessens room =
          let less = work_falls told a c k h.run h.at e (first_done told a c k h.run h.at e found) (ap (λ s. is_full_for s c.loaded e) (sym h.at.setup) ∙ room) in
          omega (arith, less, ap (λ l. work (facts_of a.script) (tokens (length a.script.setup.views) l)) (is ∙ ap (λ s. step_loaded s c.loaded e) h.at.setup))

    -- where no event is enabled
    pub way_drains : first_enabled (facts_of a.script) h.run.pipeline ≡ None → IsDrained told a c k false
    way_drains none = record {
      run = h.run;
      at = h.at;
      full = h.goes_on;
      ends = sym (finished_here (facts_of a.script) h.run (inr none)) ∙ h.ends;
      rests = λ off. none;
    }

    -- what was told so far is a first part
    pub way_told : (l : K) → told k l [] → TellsPart told a l
    way_told l lines =
        let so_far = reported a.script h.run in (
          so_far ++ [],
          subst (λ xs. IsFirstPart xs (reported a.script (whole a))) (sym (append-nil so_far)) (subst (λ z. IsFirstPart so_far (reported a.script z)) h.ends (finished_grows a.script h.run h.at.kept)),
          on a.sink k l so_far [] h.at.reports lines,
        )

    -- and so it is with what is told of the first event
    pub event_part : (e : Event) → first_enabled (facts_of a.script) h.run.pipeline ≡ Some e → IsFirstPart (reported a.script h.run ++ event_lines c.setup c.loaded e) (reported a.script (whole a))
    event_part e found =
        let f = facts_of a.script in
        let en = first_done told a c k h.run h.at e found in
        let w = after_event f e h.run in
        let allowed = enabled_allowed f h.run e (first_is_enabled f h.run.pipeline e found) in
        let kept = event_told f h.run e h.goes_on allowed h.at.kept in
        let steps = event_steps f h.run e h.goes_on allowed in
        let shaped_then : HasAllManagers f w.pipeline = subst (HasAllManagers f) (sym steps) (step_shaped f h.run.pipeline e (shaped told a c k h.run h.at)) in
        let ends = finished_next f h.run e (roomy a.script) (shaped told a c k h.run h.at) shaped_then h.goes_on found ∙ h.ends in
        subst (λ xs. IsFirstPart xs (reported a.script (whole a))) (event_reports told a c k h.run h.at e en ∙ ap (λ s. reported a.script h.run ++ event_lines s c.loaded e) (sym h.at.setup))
        (subst (λ z. IsFirstPart (reported a.script w) (reported a.script z)) ends (finished_grows a.script w kept))

    pub way_tried : (failed : Telling K) → FailsLater told failed → (l : K) (e : Event) → first_enabled (facts_of a.script) h.run.pipeline ≡ Some e → failed k l (event_lines c.setup c.loaded e) → TellsPart failed a l
    way_tried failed later l e found lines = (
      reported a.script h.run ++ event_lines c.setup c.loaded e,
      event_part e found,
      later a.sink k l (reported a.script h.run) (event_lines c.setup c.loaded e) h.at.reports lines,
    )

  -- ---- the end

  -- a run without its records at the end is full as it is with them
  still_full : (f : Facts) (w : World) → (with_final_records f w).is_full ≡ w.is_full
  still_full f w = go w.is_full refl
    where
      go : (b : Bool) → w.is_full ≡ b → (cond w.is_full w (record w { records = w.records ++ final f.transactions ∷ map final_rows (view_places f) })).is_full ≡ w.is_full
      go true t = ap (λ b. (cond b w (record w { records = w.records ++ final f.transactions ∷ map final_rows (view_places f) })).is_full) t
      go false t = ap (λ b. (cond b w (record w { records = w.records ++ final f.transactions ∷ map final_rows (view_places f) })).is_full) t

  -- the records at the end leave the pipeline
  still_piped : (f : Facts) (w : World) → (with_final_records f w).pipeline ≡ w.pipeline
  still_piped f w = by w.is_full
    where
      by : (b : Bool) → (cond b w (record w { records = w.records ++ final f.transactions ∷ map final_rows (view_places f) })).pipeline ≡ w.pipeline
      by true = refl
      by false = refl

  -- the theorem of the core, at the end of the run
  pub drained_carries : (c : CoreData) (k : K) (is_full : Bool) → IsDrained told a c k is_full → Carries a.script c.loaded (whole a).pipeline
  drained_carries c k is_full h =
      subst (Carries a.script c.loaded) (sym (still_piped (facts_of a.script) h.run) ∙ ap (λ (w : World). w.pipeline) h.ends) (carries told a c k h.run h.at)

  pub full_ends : (c : CoreData) (k : K) → IsDrained told a c k true → TellsWhole told a k true
  full_ends c k h = (
    subst (λ w. told a.sink k (reported a.script w)) (sym (ap (λ b. cond b h.run (record (h.run) { records = h.run.records ++ final (facts_of a.script).transactions ∷ map final_rows (view_places (facts_of a.script)) })) h.full) ∙ h.ends) h.at.reports,
    ap (λ w. w.is_full) (sym h.ends) ∙ (still_full (facts_of a.script) h.run ∙ h.full),
  )

  module _ (c : CoreData) (k : K) (h : IsDrained told a c k false) (ts : List ℕ) (counts : ts ≡ map length a.script.work) where
    whole_reports : reported a.script (whole a) ≡ reported a.script h.run ++ end_lines ts c.loaded
    whole_reports =
        ap (reported a.script) (sym h.ends) ∙ (final_grows a.script h.run h.at.kept h.full
        ∙ ap (λ ls. reported a.script h.run ++ ls) (sym (ap (λ ts. end_lines ts c.loaded) counts ∙ ends_are a.script c.loaded h.run.pipeline (carries told a c k h.run h.at) h.at.valid h.at.is_work h.at.events h.at.pipeline (h.rests refl))))

    pub rest_ends : (l : K) → told k l (end_lines ts c.loaded) → TellsWhole told a l false
    rest_ends l lines = (
      subst (told a.sink l) (sym whole_reports) (on a.sink k l (reported a.script h.run) (end_lines ts c.loaded) h.at.reports lines),
      ap (λ w. w.is_full) (sym h.ends) ∙ (still_full (facts_of a.script) h.run ∙ h.full),
    )

    end_part : (lines : List Reported) → IsFirstPart lines (end_lines ts c.loaded) → IsFirstPart (reported a.script h.run ++ lines) (reported a.script (whole a))
    end_part lines p = (p.0, whole_reports ∙ (ap (λ ls. reported a.script h.run ++ ls) p.1 ∙ sym (append_assoc (reported a.script h.run) lines p.0)))

    pub end_told : (l : K) (lines : List Reported) → IsFirstPart lines (end_lines ts c.loaded) → told k l lines → TellsPart told a l
    end_told l lines p t = (reported a.script h.run ++ lines, end_part lines p, on a.sink k l (reported a.script h.run) lines h.at.reports t)

    pub end_tried : (failed : Telling K) → FailsLater told failed → (l : K) (lines : List Reported) → IsFirstPart lines (end_lines ts c.loaded) → failed k l lines → TellsPart failed a l
    end_tried failed later l lines p t = (reported a.script h.run ++ lines, end_part lines p, later a.sink k l (reported a.script h.run) lines h.at.reports t)
