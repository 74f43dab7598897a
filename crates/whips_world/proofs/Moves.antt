-- What the core tells of its events is what the run reports of them.
--
-- `event_reports`: what is told of an event is what the report grows by; `event_at`: the core is where the run is, after the event as before; `ends_are`: the rows of the store at the end are the views' values on all transactions.
--
-- The idea: by the theorem of the core the numbers of its pipeline are the machine's state, the store refuses what the machine has no slots for, and the rows of its views are their values at the cut.
--
-- Two lemmas carry it: `carries` (the theorem of the core, where the run is) and `version_is` (the line of a version).
use Rattle.std.proofs.Common.{◌≡◌, ℕ, zero, suc, ◌+◌, ◌/◌, ◌<◌, Bool, true, false, ◌&&◌, List, [], ◌∷◌, ◌++◌, length, append-nil, Option, Some, None, cond, refl, sym, ap, ap₂, subst, ◌∙◌, arith}
use Rattle.std.specs.Prelude.{map, find, is_some, slice_get, slice_index_or}
use Rattle.std.specs.Option.{option_map}
use Rattle.std.proofs.lemmas.List.{length-map}
use Rattle.whips_lists.specs.Lists.{map_with_place, places_from}
use Rattle.whips_lists.proofs.ByPlace.{get_there}
use Rattle.whips_flow.specs.Facts.{Shortage, view_places}
use Rattle.whips_flow.specs.State.{Pipeline, start, version_cuts}
use Rattle.whips_flow.specs.Progress.{is_enabled, step, after, next, shortage_at, first_enabled, pipeline_events}
use Rattle.whips_flow.specs.declared.event.Event.{Event}
use Rattle.whips_flow.specs.declared.event.Event.TheVariants.{Commit, Answer, Integrate, Manage, Rel, Act, Begin, Change, Publish, SessionOpen, SessionScan, SessionFetch, SessionClose}
use Rattle.whips_runs.specs.Records.{version, full, final, final_rows, version_record}
use Rattle.whips_runs.specs.World.{World, after_event, after_pipeline_event}
use Rattle.whips_run_laws.proofs.Reaches.{enabled_allowed, after_join}
use Rattle.whips_view.specs.ViewDefs.{View, keyed}
use Rattle.whips_setup.specs.Setups.{SetupData}
use Rattle.whips_setup.specs.Refusals.{IsSetup}
use Rattle.whips_setup.specs.Workloads.{IsWorkload}
use Rattle.whips_facts.specs.Scripts.{Script, SlottedView, slotted, slotted_views, value_at, view_at}
use Rattle.whips_facts.specs.ScriptFacts.{facts_of}
use Rattle.whips_store.specs.Stores.{ViewState, no_view}
use Rattle.whips_store.specs.First.{store_at_first}
use Rattle.whips_reports.specs.Reported.{reported}
use Rattle.whips_stage_laws.proofs.Setups.{view_there, slotted_long}
use Rattle.whips_writer_laws.specs.Needs.{AreViewsOf, full_of}
use Rattle.whips_contents.specs.Contents.{LoadedPipeline, start_loaded}
use Rattle.whips_contents.specs.Events.{begin_refusal, is_enabled_loaded, is_full_for, next_loaded, step_loaded}
use Rattle.whips_value_laws.proofs.Whole.{has_all}
use Rattle.whips_headline_laws.specs.Headline.{whole_cut}
use Rattle.whips_headline_laws.proofs.Counts.{same_versions}
use Rattle.whips_headline_laws.proofs.Told.{event_told}
use Rattle.whips_headline_laws.proofs.Meets.{line_of}
use Rattle.whips_core_laws.specs.Core.{Carries}
use Rattle.whips_core_laws.proofs.Calls.{after_more}
use Rattle.whips_core_laws.proofs.Carried.{core_carries}
use Rattle.whips_core_laws.proofs.Valid.{valid_script}
use Rattle.whips_core.specs.Cores.{CoreData}
use Rattle.whips_world.specs.Lines.{version_line, full_lines, refusal_for, lines_unless, event_lines, view_line, end_lines}
use Rattle.whips_report.specs.Told.{Telling, TellsOn}
use Rattle.whips_report.specs.Recs.{alone}
use Rattle.whips_world.specs.Runs.{Start, IsAt}
use Rattle.whips_world.proofs.Grows.{stays_same, publish_grows, full_grows}
use Rattle.whips_world.proofs.Drains.{event_steps}

-- ---- rows

-- the store has the script's views
views_long : (ws : List SlottedView) (vs : List ViewState) → AreViewsOf ws vs → length vs ≡ length ws
views_long [] [] h = refl
views_long [] (v ∷ vs) h = absurd h
views_long (w ∷ ws) [] h = absurd h
views_long (w ∷ ws) (v ∷ vs) h = ap suc (views_long ws vs h.1)

module _ (s : Script) where
  counts_from : (slots : List ℕ) (k : ℕ) (cut : List ℕ) (views : List View) (vs : List ViewState) → length vs ≡ length views
      → ((i : ℕ) (view : View) → slice_get views i ≡ Some view → (slice_index_or vs i no_view).current ≡ value_at s (keyed view) cut)
      → map (λ (v : ViewState). length v.current) vs ≡ map (λ (v : SlottedView). length (value_at s v.view cut)) (map_with_place (slotted slots) k views)
  counts_from slots k cut [] [] long at = refl
  counts_from slots k cut [] (v ∷ vs) long at = absurd (cc)
  counts_from slots k cut (w ∷ ws) [] long at = absurd (cc)
  counts_from slots k cut (w ∷ ws) (v ∷ vs) long at =
      ap₂ (λ n l. n ∷ l) (ap length (at 0 w refl)) (counts_from slots (suc k) cut ws vs (omega (arith, long)) (λ i view there. at (suc i) view there))

  rows_from : (k n : ℕ) (cuts : List (List ℕ)) (vs : List ViewState) → length vs ≡ n → ((i : ℕ) → i < n → (slice_index_or vs i no_view).current ≡ value_at s (view_at s (k + i)) (whole_cut s))
      → map_with_place view_line k vs ≡ map (line_of s cuts) (map final_rows (places_from k n))
  rows_from k zero cuts [] long at = refl
  rows_from k zero cuts (v ∷ vs) long at = absurd (cc)
  rows_from k (suc n) cuts [] long at = absurd (cc)
  rows_from k (suc n) cuts (v ∷ vs) long at =
      let here : k + 0 ≡ k = omega arith in
      ap₂ (λ rows l. record { entry = final_rows k; rows = rows } ∷ l) (at 0 (omega arith) ∙ ap (λ x. value_at s (view_at s x) (whole_cut s)) here)
      (rows_from (suc k) n cuts vs (omega (arith, long)) (λ i lt. let next : k + suc i ≡ suc k + i = omega arith in at (suc i) (omega (arith, lt)) ∙ ap (λ x. value_at s (view_at s x) (whole_cut s)) next))

module _ (s : Script) (l : LoadedPipeline) (p : Pipeline) (h : Carries s l p) where
  pub store_long : length l.store.views ≡ length s.setup.views
  store_long = views_long (slotted_views s) l.store.views h.store.views ∙ slotted_long s

  -- the current version
  pub version_is : (cuts : List (List ℕ)) → version_line l ≡ line_of s cuts (version_record (facts_of s) p)
  version_is cuts =
      let counts = counts_from s s.setup.slots 0 l.cut s.setup.views l.store.views store_long (λ i view there. h.current i view there) in
      ap (λ c. alone (version (l.store.phase / 2) l.cut c)) counts
      ∙ ap (λ (q : Pipeline). alone (version (q.writer.phase / 2) q.writer.cut ((facts_of s).row_counts q.writer.cut))) h.tokens

  -- the end, where nothing is left to do
  pub ends_are : IsSetup s.setup → IsWorkload s.setup s.work → (es : List Event) → p ≡ after (facts_of s) (start (facts_of s)) es → first_enabled (facts_of s) p ≡ None
      → end_lines (whole_cut s) l ≡ map (line_of s (version_cuts p)) (final (facts_of s).transactions ∷ map final_rows (view_places (facts_of s)))
  ends_are valid works es is none =
      let f = facts_of s in
      let cut_is : l.cut ≡ p.writer.cut = ap (λ (q : Pipeline). q.writer.cut) h.tokens in
      let last : (x : ℕ) → value_at s (view_at s x) l.cut ≡ value_at s (view_at s x) (whole_cut s) =
      λ x. ap (value_at s (view_at s x)) (cut_is ∙ ap (λ (q : Pipeline). q.writer.cut) is) ∙ has_all s (valid_script s valid works) es x (subst (λ q. first_enabled f q ≡ None) is none) in
      let long : length l.store.views ≡ length f.slots = views_long (slotted_views s) l.store.views h.store.views ∙ sym (length-map (slotted_views s) (λ (v : SlottedView). v.slots)) in
      ap (λ z. alone (final f.transactions) ∷ z) (rows_from s 0 (length f.slots) (version_cuts p) l.store.views long (λ i lt.
      let zero_plus : 0 + i ≡ i = omega arith in
      let view = get_there i s.setup.views (omega (arith, lt, long, store_long)) in
      h.current i view.0 view.1 ∙ (ap (λ v. value_at s v l.cut) (sym (view_there s i view.0 view.1)) ∙ (last i ∙ ap (λ x. value_at s (view_at s x) (whole_cut s)) (sym zero_plus)))))

-- ---- one event

first_ext : {A : Type 0} (test other : A → Bool) → ((a : A) → test a ≡ other a) → (xs : List A) → find test xs ≡ find other xs
first_ext test other same [] = refl
first_ext test other same (x ∷ xs) = ap₂ (λ b o. cond b (Some x) o) (same x) (first_ext test other same xs)

pub slots_long : (s : Script) → length (facts_of s).slots ≡ length s.setup.views
slots_long s = length-map (slotted_views s) (λ (v : SlottedView). v.slots) ∙ slotted_long s

-- a refusal that comes with the machine's shortage
full_lines_of : (v : Shortage) → full_lines (full_of v) ≡ record { entry = full v; rows = [] } ∷ []
full_lines_of v = refl

full_when : (s : SetupData) (l : LoadedPipeline) (e : Event) → is_some (refusal_for s l e) ≡ is_full_for s l e
full_when s l (Commit y) = refl
full_when s l (Answer y x) = refl
full_when s l (Integrate y) = refl
full_when s l (Manage x) = refl
full_when s l Rel = refl
full_when s l (Act x) = refl
full_when s l Begin = refl
full_when s l Change = refl
full_when s l Publish = refl
full_when s l (SessionOpen i) = refl
full_when s l (SessionScan i x) = refl
full_when s l (SessionFetch i n) = refl
full_when s l (SessionClose i) = refl

module _ {K : Type 0} (told : Telling K) (a : Start K) (c : CoreData) (k : K) (w : World) (h : IsAt told a c k w) where
  -- the theorem of the core, where the run is
  pub carries : Carries a.script c.loaded w.pipeline
  carries = subst (Carries a.script c.loaded) (sym h.pipeline) (subst (λ l. Carries a.script l (after (facts_of a.script) (start (facts_of a.script)) h.events)) (sym h.loaded) (core_carries a.script h.valid h.is_work h.events))

  pub enabled_is : (e : Event) → is_enabled_loaded c.loaded e ≡ is_enabled (facts_of a.script) w.pipeline e
  enabled_is e = carries.enabled e

  -- the core's first event is the machine's
  pub first_is : find (is_enabled_loaded c.loaded) (pipeline_events (facts_of a.script)) ≡ first_enabled (facts_of a.script) w.pipeline
  first_is = first_ext (is_enabled_loaded c.loaded) (is_enabled (facts_of a.script) w.pipeline) enabled_is (pipeline_events (facts_of a.script))

  -- what the run reports of a begin
  begin_reports : (o : Option Shortage) → shortage_at (facts_of a.script) w.pipeline Begin ≡ o → begin_refusal a.script.setup c.loaded ≡ option_map full_of o
      → (reported a.script (after_event (facts_of a.script) Begin w) ≡ reported a.script w ++ event_lines a.script.setup c.loaded Begin)
      × ((after_event (facts_of a.script) Begin w).is_full ≡ cond (is_some (begin_refusal a.script.setup c.loaded)) true w.is_full)
  begin_reports None e r =
      let f = facts_of a.script in
      let z : World = record w { pipeline = next f w.pipeline Begin } in
      let same : reported a.script (after_event f Begin w) ≡ reported a.script w = ap (reported a.script) (moves e) ∙ stays_same a.script w z h.kept refl (same_versions f w.pipeline Begin (λ e. absurd (cc))) in (
        same ∙ sym (ap (λ o. reported a.script w ++ lines_unless o []) r ∙ append-nil (reported a.script w)),
        ap (λ z. z.is_full) (moves e) ∙ sym (ap (λ o. cond (is_some o) true w.is_full) r),
      )
    where
      moves : shortage_at (facts_of a.script) w.pipeline Begin ≡ None → after_pipeline_event (facts_of a.script) Begin w ≡ record w { pipeline = next (facts_of a.script) w.pipeline Begin }
      moves q = rw (q, after_pipeline_event) refl
  begin_reports (Some v) e r = (
    full_grows a.script w v h.kept e ∙ sym (ap (λ o. reported a.script w ++ lines_unless o []) r ∙ ap (λ ls. reported a.script w ++ ls) (full_lines_of v)),
    ap (λ z. z.is_full) (ends e) ∙ sym (ap (λ o. cond (is_some o) true w.is_full) r),
  )
    where
      ends : shortage_at (facts_of a.script) w.pipeline Begin ≡ Some v → after_pipeline_event (facts_of a.script) Begin w ≡ record w { records = w.records ++ full v ∷ []; is_full = true }
      ends q = rw (q, after_pipeline_event) refl

  -- the theorem of the core, after one event more
  pub next_carries : (e : Event) → Carries a.script (step_loaded a.script.setup c.loaded e) (step (facts_of a.script) w.pipeline e)
  next_carries e =
      let f = facts_of a.script in
      let loaded = after_more a.script.setup h.events (start_loaded a.script.setup a.script.work (store_at_first a.script.setup)) e ∙ ap (λ l. step_loaded a.script.setup l e) (sym h.loaded) in
      let piped = after_join f (start f) h.events (e ∷ []) ∙ ap (λ p. step f p e) (sym h.pipeline) in
      subst (Carries a.script (step_loaded a.script.setup c.loaded e)) piped
      (subst (λ l. Carries a.script l (after f (start f) (h.events ++ e ∷ []))) loaded (core_carries a.script h.valid h.is_work (h.events ++ e ∷ [])))

  publish_reports : is_enabled_loaded c.loaded Publish ≡ true → reported a.script (after_event (facts_of a.script) Publish w) ≡ reported a.script w ++ event_lines a.script.setup c.loaded Publish
  publish_reports en =
      let f = facts_of a.script in
      let loaded : step_loaded a.script.setup c.loaded Publish ≡ next_loaded a.script.setup c.loaded Publish = ap (λ b. cond (b && true) (next_loaded a.script.setup c.loaded Publish) c.loaded) en in
      let piped : step f w.pipeline Publish ≡ next f w.pipeline Publish = ap (λ b. cond (b && true) (next f w.pipeline Publish) w.pipeline) (sym (enabled_is Publish) ∙ en) in
      let carried = subst (Carries a.script (next_loaded a.script.setup c.loaded Publish)) piped (subst (λ l. Carries a.script l (step f w.pipeline Publish)) loaded (next_carries Publish)) in
      publish_grows a.script w h.kept ∙ ap (λ r. reported a.script w ++ r ∷ [])
      (sym (version_is a.script (next_loaded a.script.setup c.loaded Publish) (next f w.pipeline Publish) carried (version_cuts (next f w.pipeline Publish))))

  quiet : (e : Event) → version_cuts (next (facts_of a.script) w.pipeline e) ≡ version_cuts w.pipeline → reported a.script (record w { pipeline = next (facts_of a.script) w.pipeline e }) ≡ reported a.script w ++ []
  quiet e same = stays_same a.script w (record w { pipeline = next (facts_of a.script) w.pipeline e }) h.kept refl same ∙ sym (append-nil (reported a.script w))

  -- what the run reports of an event that can be done is what is told of it
  pub event_reports : (e : Event) → is_enabled_loaded c.loaded e ≡ true → reported a.script (after_event (facts_of a.script) e w) ≡ reported a.script w ++ event_lines a.script.setup c.loaded e
  event_reports (Commit y) en = quiet (Commit y) (same_versions (facts_of a.script) w.pipeline (Commit y) (λ e. absurd (cc)))
  event_reports (Answer y x) en = quiet (Answer y x) (same_versions (facts_of a.script) w.pipeline (Answer y x) (λ e. absurd (cc)))
  event_reports (Integrate y) en = quiet (Integrate y) (same_versions (facts_of a.script) w.pipeline (Integrate y) (λ e. absurd (cc)))
  event_reports (Manage x) en = quiet (Manage x) (same_versions (facts_of a.script) w.pipeline (Manage x) (λ e. absurd (cc)))
  event_reports Rel en = quiet Rel (same_versions (facts_of a.script) w.pipeline Rel (λ e. absurd (cc)))
  event_reports (Act x) en = quiet (Act x) (same_versions (facts_of a.script) w.pipeline (Act x) (λ e. absurd (cc)))
  event_reports Begin en = (begin_reports (shortage_at (facts_of a.script) w.pipeline Begin) refl (carries.refused en)).0
  event_reports Change en = quiet Change (same_versions (facts_of a.script) w.pipeline Change (λ e. absurd (cc)))
  event_reports Publish en = publish_reports en
  event_reports (SessionOpen i) en = absurd (cc)
  event_reports (SessionScan i x) en = absurd (cc)
  event_reports (SessionFetch i n) en = absurd (cc)
  event_reports (SessionClose i) en = absurd (cc)

  -- the run is full exactly where the core is full for the event
  pub event_full : (e : Event) → is_enabled_loaded c.loaded e ≡ true → w.is_full ≡ false → (after_event (facts_of a.script) e w).is_full ≡ is_full_for a.script.setup c.loaded e
  event_full (Commit y) en off = off
  event_full (Answer y x) en off = off
  event_full (Integrate y) en off = off
  event_full (Manage x) en off = off
  event_full Rel en off = off
  event_full (Act x) en off = off
  event_full Begin en off =
      (begin_reports (shortage_at (facts_of a.script) w.pipeline Begin) refl (carries.refused en)).1
      ∙ (ap (λ b. cond (is_some (begin_refusal a.script.setup c.loaded)) true b) off ∙ either (is_some (begin_refusal a.script.setup c.loaded)))
    where
      either : (b : Bool) → cond b true false ≡ b
      either true = refl
      either false = refl
  event_full Change en off = off
  event_full Publish en off = off
  event_full (SessionOpen i) en off = absurd (cc)
  event_full (SessionScan i x) en off = absurd (cc)
  event_full (SessionFetch i n) en off = absurd (cc)
  event_full (SessionClose i) en off = absurd (cc)

  -- after the event the core is where the run is
  pub event_at : TellsOn told → (d : CoreData) (l : K) (e : Event) → w.is_full ≡ false → is_enabled_loaded c.loaded e ≡ true → d.setup ≡ c.setup → d.loaded ≡ step_loaded c.setup c.loaded e → told k l (event_lines c.setup c.loaded e)
      → IsAt told a d l (after_event (facts_of a.script) e w)
  event_at on d l e off en same is lines =
      let f = facts_of a.script in
      let allowed = enabled_allowed f w e (sym (enabled_is e) ∙ en) in
      record {
        valid = h.valid;
        is_work = h.is_work;
        setup = same ∙ h.setup;
        events = h.events ++ e ∷ [];
        loaded = is ∙ (ap₂ (λ s l. step_loaded s l e) h.setup h.loaded ∙ sym (after_more a.script.setup h.events (start_loaded a.script.setup a.script.work (store_at_first a.script.setup)) e));
        pipeline = event_steps f w e off allowed ∙ (ap (λ p. step f p e) h.pipeline ∙ sym (after_join f (start f) h.events (e ∷ [])));
        kept = event_told f w e off allowed h.kept;
        reports = subst (told a.sink l) (ap (λ s. reported a.script w ++ event_lines s c.loaded e) h.setup ∙ sym (event_reports e en)) (on a.sink k l (reported a.script w) (event_lines c.setup c.loaded e) h.reports lines);
      }
