-- How the report of a run grows: each event adds lines behind those that are there, and those stay as they were.
--
-- `event_grows`, `skip_grows`: an event that is allowed, and one that isn't, leave the report of before as a first part; `finished_grows`, `rest_grows`, `turns_grow`: so does all that is left of the run, without events of the plan, with listed ones, and with turns of a picker. `run_grows`: so does the run as a whole.
--
-- The idea: only the rows of a read depend on the cuts, and it is of a version that was printed before it. So cuts of later versions change no line.
--
-- One lemma carries it: `grows_by` (records and cuts that are put behind).
use Rattle.std.proofs.Common.{◌≡◌, ℕ, suc, ◌/◌, ◌<◌, Bool, true, false, List, [], ◌∷◌, ◌++◌, length, append-nil, append_assoc, Option, Some, None, cond, refl, sym, ap, ap₂, subst, ◌∙◌}
use Rattle.std.specs.Prelude.{map, slice_get, slice_index_or}
use Rattle.std.proofs.lemmas.List.{map-append}
use Rattle.whips_flow.specs.Facts.{Shortage, view_places}
use Rattle.whips_flow.specs.State.{version_cuts}
use Rattle.whips_flow.specs.Progress.{next, shortage_at}
use Rattle.whips_flow.specs.Work.{work}
use Rattle.whips_flow.specs.declared.event.Event.{Event}
use Rattle.whips_flow.specs.declared.event.Event.TheVariants.{Commit, Answer, Integrate, Manage, Rel, Act, Begin, Change, Publish, SessionOpen, SessionScan, SessionFetch, SessionClose}
use Rattle.whips_runs.specs.Sessions.{Scan, scan_of, visited_scan}
use Rattle.whips_runs.specs.Records.{RunRecord, version, skip, opened, more, read, expired, full, final, final_rows, fetch_record, version_record}
use Rattle.whips_runs.specs.World.{World, phase_of, is_allowed, after_event, after_turn, after_listed_plan, after_pipeline_event, after_fetch, with_record, start_world, drained_world, finished_world, with_final_records}
use Rattle.whips_runs.specs.Picks.{after_picked_plan}
use Rattle.whips_setup.specs.declared.plan.Plan.{Plan}
use Rattle.whips_setup.specs.declared.plan.Plan.TheVariants.{Listed, Picked}
use Rattle.whips_facts.specs.Scripts.{Script, value_at, view_at}
use Rattle.whips_facts.specs.ScriptFacts.{facts_of}
use Rattle.whips_reports.specs.Reported.{rows_of, reported, run_of}
use Rattle.whips_lists.proofs.ByPlace.{get_there}
use Rattle.whips_headline_laws.specs.Headline.{printed_cuts}
use Rattle.whips_headline_laws.proofs.Counts.{same_versions}
use Rattle.whips_headline_laws.proofs.Told.{EachFrom, IsLine, Told, start_told, event_told, skip_told}
use Rattle.whips_headline_laws.proofs.Meets.{line_of, printed_append, index_front}
use Rattle.whips_headline_laws.proofs.Along.{drained_keeps, picked_keeps}
use Rattle.whips_world.specs.Runs.{IsFirstPart}
use Rattle.whips_world.proofs.Drains.{turn_full, turn_done, turn_skipped}

-- ---- first parts

pub first_itself : {A : Type 0} (xs : List A) → IsFirstPart xs xs
first_itself xs = ([], sym (append-nil xs))

pub first_of_first : {A : Type 0} (xs ys zs : List A) → IsFirstPart xs ys → IsFirstPart ys zs → IsFirstPart xs zs
first_of_first xs ys zs p q = (p.0 ++ q.0, q.1 ∙ (ap (λ l. l ++ q.0) p.1 ∙ append_assoc xs p.0 q.0))

pub first_with : {A : Type 0} (xs rest ys : List A) → ys ≡ xs ++ rest → IsFirstPart xs ys
first_with xs rest ys e = (rest, e)

-- ---- lines stay

index_stays : (xs ys zs : List (List ℕ)) (v : ℕ) → v < length xs → slice_index_or (xs ++ ys) v [] ≡ slice_index_or (xs ++ zs) v []
index_stays xs ys zs v lt = let cut = get_there v xs lt in index_front xs ys v cut.0 [] cut.1 ∙ sym (index_front xs zs v cut.0 [] cut.1)

module _ (s : Script) where
  rows_stay : (before : List RunRecord) (xs ys : List (List ℕ)) (r : RunRecord) → IsLine (facts_of s) before r → rows_of s (printed_cuts before ++ xs) r ≡ rows_of s (printed_cuts before ++ ys) r
  rows_stay before xs ys (version n cut counts) l = refl
  rows_stay before xs ys (skip k e) l = refl
  rows_stay before xs ys (opened session v phase) l = refl
  rows_stay before xs ys (more session x v phase slots) l = refl
  rows_stay before xs ys (read session x v phase) l = ap (value_at s (view_at s x)) (index_stays (printed_cuts before) xs ys v l.2.0)
  rows_stay before xs ys (expired session x v phase) l = refl
  rows_stay before xs ys (full shortage) l = refl
  rows_stay before xs ys (final counts) l = refl
  rows_stay before xs ys (final_rows x) l = refl

  lines_stay : (seen rs : List RunRecord) (cuts others : List (List ℕ)) → EachFrom (IsLine (facts_of s)) seen rs → cuts ≡ printed_cuts (seen ++ rs) → map (line_of s (cuts ++ others)) rs ≡ map (line_of s cuts) rs
  lines_stay seen [] cuts others h e = refl
  lines_stay seen (r ∷ rs) cuts others h e =
      let front : cuts ≡ printed_cuts seen ++ printed_cuts (r ∷ rs) = e ∙ printed_append seen (r ∷ rs) in
      let behind : cuts ++ others ≡ printed_cuts seen ++ (printed_cuts (r ∷ rs) ++ others) = ap (λ l. l ++ others) front ∙ append_assoc (printed_cuts seen) (printed_cuts (r ∷ rs)) others in
      let same : rows_of s (cuts ++ others) r ≡ rows_of s cuts r =
      ap (λ c. rows_of s c r) behind ∙ (rows_stay seen (printed_cuts (r ∷ rs) ++ others) (printed_cuts (r ∷ rs)) r h.0 ∙ ap (λ c. rows_of s c r) (sym front)) in
      ap₂ (λ rows rest. record { entry = r; rows = rows } ∷ rest) same (lines_stay (seen ++ r ∷ []) rs cuts others h.1 (e ∙ ap printed_cuts (sym (append_assoc seen (r ∷ []) rs))))

  -- records and cuts that are put behind
  pub grows_by : (w z : World) (rs : List RunRecord) (others : List (List ℕ)) → Told (facts_of s) w → z.records ≡ w.records ++ rs → version_cuts z.pipeline ≡ version_cuts w.pipeline ++ others
      → reported s z ≡ reported s w ++ map (line_of s (version_cuts z.pipeline)) rs
  grows_by w z rs others h er ec =
      let older : map (line_of s (version_cuts z.pipeline)) w.records ≡ reported s w = ap (λ c. map (line_of s c) w.records) ec ∙ lines_stay [] w.records (version_cuts w.pipeline) others h.lines (sym h.printed) in
      ap (map (line_of s (version_cuts z.pipeline))) er ∙ (map-append (line_of s (version_cuts z.pipeline)) w.records rs ∙ ap (λ l. l ++ map (line_of s (version_cuts z.pipeline)) rs) older)

  -- the same cuts
  pub grows_same : (w z : World) (rs : List RunRecord) → Told (facts_of s) w → z.records ≡ w.records ++ rs → version_cuts z.pipeline ≡ version_cuts w.pipeline → reported s z ≡ reported s w ++ map (line_of s (version_cuts z.pipeline)) rs
  grows_same w z rs h er ec = grows_by w z rs [] h er (ec ∙ sym (append-nil (version_cuts w.pipeline)))

  -- no record
  pub stays_same : (w z : World) → Told (facts_of s) w → z.records ≡ w.records → version_cuts z.pipeline ≡ version_cuts w.pipeline → reported s z ≡ reported s w
  stays_same w z h er ec = ap₂ (λ c l. map (line_of s c) l) ec er

  -- a version is published
  pub publish_grows : (w : World) → Told (facts_of s) w
      → reported s (after_event (facts_of s) Publish w) ≡ reported s w ++ line_of s (version_cuts (next (facts_of s) w.pipeline Publish)) (version_record (facts_of s) (next (facts_of s) w.pipeline Publish)) ∷ []
  publish_grows w h =
      let f = facts_of s in
      grows_by w (after_event f Publish w) (version_record f (next f w.pipeline Publish) ∷ []) (w.pipeline.writer.target_cut ∷ []) h refl refl

  -- a view is full
  pub full_grows : (w : World) (v : Shortage) → Told (facts_of s) w → shortage_at (facts_of s) w.pipeline Begin ≡ Some v
      → reported s (after_event (facts_of s) Begin w) ≡ reported s w ++ record { entry = full v; rows = [] } ∷ []
  full_grows w v h e =
      let f = facts_of s in
      let z : World = record w { records = w.records ++ full v ∷ []; is_full = true } in
      ap (reported s) (ends w v e) ∙ grows_same w z (full v ∷ []) h refl refl
    where
      ends : (w : World) (v : Shortage) → shortage_at (facts_of s) w.pipeline Begin ≡ Some v → after_pipeline_event (facts_of s) Begin w ≡ record w { records = w.records ++ full v ∷ []; is_full = true }
      ends w v e = rw (e, after_pipeline_event) refl

  -- ---- every event

  piped_grows : (w : World) (e : Event) (o : Option Shortage) → shortage_at (facts_of s) w.pipeline e ≡ o → Told (facts_of s) w → version_cuts (next (facts_of s) w.pipeline e) ≡ version_cuts w.pipeline
      → IsFirstPart (reported s w) (reported s (after_pipeline_event (facts_of s) e w))
  piped_grows w e None short h same =
      let z : World = record w { pipeline = next (facts_of s) w.pipeline e } in
      first_with (reported s w) [] (reported s (after_pipeline_event (facts_of s) e w)) (ap (reported s) (moves short) ∙ (stays_same w z h refl same ∙ sym (append-nil (reported s w))))
    where
      moves : shortage_at (facts_of s) w.pipeline e ≡ None → after_pipeline_event (facts_of s) e w ≡ record w { pipeline = next (facts_of s) w.pipeline e }
      moves q = rw (q, after_pipeline_event) refl
  piped_grows w e (Some v) short h same =
      let z : World = record w { records = w.records ++ full v ∷ []; is_full = true } in
      first_with (reported s w) _ (reported s (after_pipeline_event (facts_of s) e w)) (ap (reported s) (ends short) ∙ grows_same w z (full v ∷ []) h refl refl)
    where
      ends : shortage_at (facts_of s) w.pipeline e ≡ Some v → after_pipeline_event (facts_of s) e w ≡ record w { records = w.records ++ full v ∷ []; is_full = true }
      ends q = rw (q, after_pipeline_event) refl

  fetch_grows : (w : World) (session n : ℕ) (o : Option Scan) → Told (facts_of s) w → IsFirstPart (reported s w) (reported s (after_fetch (facts_of s) session n o w))
  fetch_grows w session n None h = first_itself (reported s w)
  fetch_grows w session n (Some scan) h =
      let f = facts_of s in
      first_with (reported s w) _ (reported s (after_fetch f session n (Some scan) w)) (grows_same w (after_fetch f session n (Some scan) w) (fetch_record f (phase_of w) session (visited_scan f n scan) ∷ []) h refl refl)

  pub event_grows : (w : World) (e : Event) → Told (facts_of s) w → IsFirstPart (reported s w) (reported s (after_event (facts_of s) e w))
  event_grows w (Commit y) h = piped_grows w (Commit y) None refl h (same_versions (facts_of s) w.pipeline (Commit y) (λ e. absurd (cc)))
  event_grows w (Answer y x) h = piped_grows w (Answer y x) None refl h (same_versions (facts_of s) w.pipeline (Answer y x) (λ e. absurd (cc)))
  event_grows w (Integrate y) h = piped_grows w (Integrate y) None refl h (same_versions (facts_of s) w.pipeline (Integrate y) (λ e. absurd (cc)))
  event_grows w (Manage x) h = piped_grows w (Manage x) None refl h (same_versions (facts_of s) w.pipeline (Manage x) (λ e. absurd (cc)))
  event_grows w Rel h = piped_grows w Rel None refl h (same_versions (facts_of s) w.pipeline Rel (λ e. absurd (cc)))
  event_grows w (Act x) h = piped_grows w (Act x) None refl h (same_versions (facts_of s) w.pipeline (Act x) (λ e. absurd (cc)))
  event_grows w Begin h = piped_grows w Begin (shortage_at (facts_of s) w.pipeline Begin) refl h (same_versions (facts_of s) w.pipeline Begin (λ e. absurd (cc)))
  event_grows w Change h = piped_grows w Change None refl h (same_versions (facts_of s) w.pipeline Change (λ e. absurd (cc)))
  event_grows w Publish h = first_with (reported s w) _ (reported s (after_event (facts_of s) Publish w)) (publish_grows w h)
  event_grows w (SessionOpen session) h =
      first_with (reported s w) _ (reported s (after_event (facts_of s) (SessionOpen session) w)) (grows_same w (after_event (facts_of s) (SessionOpen session) w) (opened session (phase_of w / 2) (phase_of w) ∷ []) h refl refl)
  event_grows w (SessionScan session x) h = first_itself (reported s w)
  event_grows w (SessionFetch session n) h = fetch_grows w session n (scan_of (slice_get w.sessions session)) h
  event_grows w (SessionClose session) h = first_itself (reported s w)

  -- an event that isn't allowed
  pub skip_grows : (w : World) (place : ℕ) (e : Event) → Told (facts_of s) w → reported s (with_record (skip place e) w) ≡ reported s w ++ record { entry = skip place e; rows = [] } ∷ []
  skip_grows w place e h = grows_same w (with_record (skip place e) w) (skip place e ∷ []) h refl refl

  -- ---- what is left of the run

  -- after more events the run has told right what it told, and more
  abbrev HasGrown : World → World → Type 0
  HasGrown w z = Told (facts_of s) z × IsFirstPart (reported s w) (reported s z)

  grown_more : (w z : World) (e : Event) → z.is_full ≡ false → is_allowed (facts_of s) z e ≡ true → HasGrown w z → HasGrown w (after_event (facts_of s) e z)
  grown_more w z e off allowed k = (event_told (facts_of s) z e off allowed k.0, first_of_first (reported s w) (reported s z) (reported s (after_event (facts_of s) e z)) k.1 (event_grows z e k.0))

  drained_grows : (n : ℕ) (w : World) → Told (facts_of s) w → IsFirstPart (reported s w) (reported s (drained_world n (facts_of s) w))
  drained_grows n w h = (drained_keeps (facts_of s) (HasGrown w) (grown_more w) n w (h, first_itself (reported s w))).1

  drained_told : (n : ℕ) (w : World) → Told (facts_of s) w → Told (facts_of s) (drained_world n (facts_of s) w)
  drained_told n w h = drained_keeps (facts_of s) (Told (facts_of s)) (event_told (facts_of s)) n w h

  -- the lines at the end
  pub final_grows : (w : World) → Told (facts_of s) w → w.is_full ≡ false
      → reported s (with_final_records (facts_of s) w) ≡ reported s w ++ map (line_of s (version_cuts w.pipeline)) (final (facts_of s).transactions ∷ map final_rows (view_places (facts_of s)))
  final_grows w h off =
      let rs = final (facts_of s).transactions ∷ map final_rows (view_places (facts_of s)) in
      let z : World = record w { records = w.records ++ rs } in
      ap (reported s) (ap (λ b. cond b w z) off) ∙ grows_same w z rs h refl refl

  ended_grows : (w : World) (b : Bool) → Told (facts_of s) w → w.is_full ≡ b → IsFirstPart (reported s w) (reported s (with_final_records (facts_of s) w))
  ended_grows w true h t = first_with (reported s w) [] (reported s (with_final_records (facts_of s) w)) (ap (reported s) (ap (λ b. cond b w (record w { records = w.records ++ final (facts_of s).transactions ∷ map final_rows (view_places (facts_of s)) })) t) ∙ sym (append-nil (reported s w)))
  ended_grows w false h t = first_with (reported s w) _ (reported s (with_final_records (facts_of s) w)) (final_grows w h t)

  pub finished_grows : (w : World) → Told (facts_of s) w → IsFirstPart (reported s w) (reported s (finished_world (facts_of s) w))
  finished_grows w h =
      let d = drained_world (work (facts_of s) w.pipeline) (facts_of s) w in
      first_of_first (reported s w) (reported s d) (reported s (finished_world (facts_of s) w)) (drained_grows (work (facts_of s) w.pipeline) w h)
      (ended_grows d d.is_full (drained_told (work (facts_of s) w.pipeline) w h) refl)

  -- ---- the schedule

  turn_grows : (place : ℕ) (e : Event) (w : World) → Told (facts_of s) w → HasGrown w (after_turn (facts_of s) place e w)
  turn_grows place e w h = by w.is_full refl (is_allowed (facts_of s) w e) refl
    where
      by : (full : Bool) → w.is_full ≡ full → (allowed : Bool) → is_allowed (facts_of s) w e ≡ allowed → HasGrown w (after_turn (facts_of s) place e w)
      by true t allowed q = subst (HasGrown w) (sym (turn_full (facts_of s) place e w t)) (h, first_itself (reported s w))
      by false t true q = subst (HasGrown w) (sym (turn_done (facts_of s) place e w t q)) (event_told (facts_of s) w e t q h, event_grows w e h)
      by false t false q = subst (HasGrown w) (sym (turn_skipped (facts_of s) place e w t q))
          (skip_told (facts_of s) w place e t h, first_with (reported s w) _ (reported s (with_record (skip place e) w)) (skip_grows w place e h))

  plan_grows : (place : ℕ) (es : List Event) (w : World) → Told (facts_of s) w → HasGrown w (after_listed_plan (facts_of s) place es w)
  plan_grows place [] w h = (h, first_itself (reported s w))
  plan_grows place (e ∷ es) w h =
      let z = after_turn (facts_of s) place e w in
      let turn = turn_grows place e w h in
      let rest = plan_grows (suc place) es z turn.0 in
      (rest.0, first_of_first (reported s w) (reported s z) (reported s (after_listed_plan (facts_of s) (suc place) es z)) turn.1 rest.1)

  -- all that is left of the run, with these events of the schedule
  pub rest_grows : (place : ℕ) (es : List Event) (w : World) → Told (facts_of s) w → IsFirstPart (reported s w) (reported s (finished_world (facts_of s) (after_listed_plan (facts_of s) place es w)))
  rest_grows place es w h =
      let z = after_listed_plan (facts_of s) place es w in
      let plan = plan_grows place es w h in
      first_of_first (reported s w) (reported s z) (reported s (finished_world (facts_of s) z)) plan.1 (finished_grows z plan.0)

  -- turns of a picker
  picks_grow : (n state : ℕ) (w : World) → Told (facts_of s) w → HasGrown w (after_picked_plan n (facts_of s) state w)
  picks_grow n state w h = picked_keeps (facts_of s) (HasGrown w) (grown_more w) n state w (h, first_itself (reported s w))

  -- all that is left of the run, with so many turns of a picker
  pub turns_grow : (n state : ℕ) (w : World) → Told (facts_of s) w → IsFirstPart (reported s w) (reported s (finished_world (facts_of s) (after_picked_plan n (facts_of s) state w)))
  turns_grow n state w h =
      let z = after_picked_plan n (facts_of s) state w in
      let turns = picks_grow n state w h in
      first_of_first (reported s w) (reported s z) (reported s (finished_world (facts_of s) z)) turns.1 (finished_grows z turns.0)

  -- the run by a plan
  pub run_grows : (plan : Plan) → IsFirstPart (reported s (start_world (facts_of s))) (reported s (run_of s plan))
  run_grows (Listed es) = rest_grows 1 es (start_world (facts_of s)) (start_told (facts_of s))
  run_grows (Picked start steps) = turns_grow steps start (start_world (facts_of s)) (start_told (facts_of s))
