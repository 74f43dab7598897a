-- Every run of a valid script meets the headline.
--
-- `every_run` is the theorem; `lines_are_records` and `printed_versions` say what a report's lines have to do with its run.
--
-- The idea: what every event keeps of the lines that were told (`Told`) holds at the end of a run, by induction over its events and its drain. The fields that speak of lines are read off it. The others follow from the cuts of a run that ended well, and from the values of the views where nothing is left on its way.
--
-- Four lemmas carry it: `reads` (the rows of a read), `headline_from` (all fields but the end), `ends_at` (the end where no event is enabled) and `met` (a run with its drain).
use Rattle.std.proofs.Common.{◌≡◌, ℕ, zero, suc, ◌≤◌, Bool, true, false, List, [], ◌∷◌, ◌++◌, length, Some, None, cond, refl, sym, ap, subst, ◌∙◌, arith, ◌⊎◌, inl, inr}
use Rattle.std.specs.Prelude.{map, slice_get, slice_index, slice_index_or}
use Rattle.std.specs.List.{AllByRecursion}
use Rattle.std.specs.List.Sorted.{IsNonDecreasing}
use Rattle.std.specs.Option.{option_and_then, unwrap_or}
use Rattle.std.proofs.lemmas.List.{length-map, map-append}
use Rattle.std.proofs.lemmas.Grind.{flat_map-append}
use Rattle.whips_lists.specs.Lists.{places_from}
use Rattle.whips_flow.specs.Facts.{Facts, view_places}
use Rattle.whips_flow.specs.State.{Pipeline, version_cuts}
use Rattle.whips_flow.specs.Progress.{after, first_enabled}
use Rattle.whips_flow.specs.Work.{work}
use Rattle.whips_flow.specs.declared.event.Event.{Event}
use Rattle.whips_runs.specs.Records.{RunRecord, version, skip, opened, more, read, expired, full, final, final_rows}
use Rattle.whips_runs.specs.World.{World, start_world, drained_world, finished_world, after_listed_plan}
use Rattle.whips_runs.specs.Picks.{after_picked_plan}
use Rattle.whips_facts.specs.Scripts.{Script, SlottedView, value_at, view_at, no_view, slotted_views}
use Rattle.whips_facts.specs.ScriptFacts.{facts_of}
use Rattle.whips_facts.specs.Values.{IsValidScript}
use Rattle.whips_setup.specs.declared.plan.Plan.TheVariants.{Listed, Picked}
use Rattle.whips_reports.specs.Reported.{Reported, rows_of, reported, run_of}
use Rattle.whips_cut_laws.specs.Cuts.{AllAdvance, committed_at}
use Rattle.whips_lists.proofs.Options.{some_same}
use Rattle.whips_lists.proofs.ByPlace.{get_there}
use Rattle.whips_run_laws.specs.Reached.{IsReached}
use Rattle.whips_run_laws.proofs.Reaches.{start_reached, listed_plan_reached, picked_plan_reached, drained_reached}
use Rattle.whips_facts_laws.specs.ScriptRuns.{IsAtRest, EndsWell}
use Rattle.whips_facts_laws.proofs.Ends.{finished_well}
use Rattle.whips_value_laws.proofs.Whole.{has_all}
use Rattle.whips_headline_laws.specs.Headline.{cut_on, printed_cuts, printed_phases, records_of, ReadsItsCut, CountsRows, LeavesSlots, whole_cut, IsPrefix, EndsFull, final_line, EndsAtFinalSources, Headline}
use Rattle.whips_headline_laws.specs.HeadlineLaws.{EveryRunMeetsHeadline, LinesAreRecords, PrintedCutsAreVersions}
use Rattle.whips_headline_laws.proofs.Counts.{all_long, committed_within}
use Rattle.whips_headline_laws.proofs.Told.{from_split, each_is, MatchesFacts, IsLine, Told, event_told, skip_told, final_told, start_told}
use Rattle.whips_headline_laws.proofs.Along.{drained_keeps, picked_keeps, listed_keeps}

-- ---- lists

-- what stands at a place stands there in a longer list
pub index_front : {A : Type 0} (xs ys : List A) (i : ℕ) (x d : A) → slice_get xs i ≡ Some x → slice_index_or (xs ++ ys) i d ≡ x
index_front [] ys i x d e = absurd (cc)
index_front (z ∷ xs) ys zero x d e = let q : z ≡ x = cc in q
index_front (z ∷ xs) ys (suc i) x d e = index_front xs ys i x d e

all_both : {A : Type 0} (P Q R : A → Type 0) (xs : List A) → ((x : A) → P x → Q x → R x) → AllByRecursion P xs → AllByRecursion Q xs → AllByRecursion R xs
all_both P Q R [] g h k = tt
all_both P Q R (x ∷ xs) g h k = (g x h.0 k.0, all_both P Q R xs g h.1 k.1)

index_map : {A : Type 0} (g : A → ℕ) (xs : List A) (i : ℕ) (x : A) → slice_get xs i ≡ Some x → slice_index (map g xs) i ≡ g x
index_map g [] i x e = absurd (cc)
index_map g (z ∷ xs) zero x e = ap g (some_same z x e)
index_map g (z ∷ xs) (suc i) x e = index_map g xs i x e

all_from_get : {A : Type 0} (P : A → Type 0) (xs : List A) → ((i : ℕ) (x : A) → slice_get xs i ≡ Some x → P x) → AllByRecursion P xs
all_from_get P [] g = tt
all_from_get P (x ∷ xs) g = (g 0 x refl, all_from_get P xs (λ i y e. g (suc i) y e))

-- ---- records and their lines

pub records_append : (lines others : List Reported) → records_of (lines ++ others) ≡ records_of lines ++ records_of others
records_append lines others = map-append (λ line. line.entry) lines others

-- more records print more cuts behind the first
pub printed_append : (records others : List RunRecord) → printed_cuts (records ++ others) ≡ printed_cuts records ++ printed_cuts others
printed_append records others = flat_map-append cut_on records others

module _ (s : Script) (cuts : List (List ℕ)) where
  abbrev pub line_of : RunRecord → Reported
  line_of r = record { entry = r; rows = rows_of s cuts r }

  pub records_back : (rs : List RunRecord) → records_of (map line_of rs) ≡ rs
  records_back [] = refl
  records_back (r ∷ rs) = ap (λ z. r ∷ z) (records_back rs)

  rows_there : (rs : List RunRecord) (before after : List Reported) (line : Reported) → map line_of rs ≡ before ++ line ∷ after → line.rows ≡ rows_of s cuts line.entry
  rows_there [] [] after line e = absurd (cc)
  rows_there [] (b ∷ before) after line e = absurd (cc)
  rows_there (r ∷ rs) [] after line e = let q : line_of r ≡ line = cc in subst (λ z. z.rows ≡ rows_of s cuts z.entry) q refl
  rows_there (r ∷ rs) (b ∷ before) after line e = let q : map line_of rs ≡ before ++ line ∷ after = cc in rows_there rs before after line q

  final_rows_lines : (xs : List ℕ) → map line_of (map final_rows xs) ≡ map (final_line s) xs
  final_rows_lines [] = refl
  final_rows_lines (x ∷ xs) = ap (λ z. final_line s x ∷ z) (final_rows_lines xs)

-- ---- what a line says by the script alone

counts_rows : (s : Script) (before : List RunRecord) (r : RunRecord) → MatchesFacts (facts_of s) before r → CountsRows s r
counts_rows s before (version number cut row_counts) h = h
counts_rows s before (skip k e) h = tt
counts_rows s before (opened session v phase) h = tt
counts_rows s before (more session x v phase slots) h = tt
counts_rows s before (read session x v phase) h = tt
counts_rows s before (expired session x v phase) h = tt
counts_rows s before (full shortage) h = tt
counts_rows s before (final counts) h = tt
counts_rows s before (final_rows x) h = tt

leaves_slots : (s : Script) (before : List RunRecord) (r : RunRecord) → MatchesFacts (facts_of s) before r → LeavesSlots s r
leaves_slots s before (version number cut row_counts) h = tt
leaves_slots s before (skip k e) h = tt
leaves_slots s before (opened session v phase) h = tt
leaves_slots s before (more session x v phase slots) h =
    let view = get_there x (slotted_views s) (omega (arith, h.2, length-map (slotted_views s) (λ (z : SlottedView). z.slots))) in
    (view.0, view.1, h.0, omega (arith, h.1, index_map (λ (z : SlottedView). z.slots) (slotted_views s) x view.0 view.1))
leaves_slots s before (read session x v phase) h = tt
leaves_slots s before (expired session x v phase) h = tt
leaves_slots s before (full shortage) h = tt
leaves_slots s before (final counts) h = tt
leaves_slots s before (final_rows x) h = tt

-- ---- a run that ended well

module _ (s : Script) (w : World) (h : Told (facts_of s) w) where
  back : records_of (reported s w) ≡ w.records
  back = records_back s (version_cuts w.pipeline) w.records

  printed : printed_cuts (records_of (reported s w)) ≡ version_cuts w.pipeline
  printed = ap printed_cuts back ∙ h.printed

  line_is : (before after : List RunRecord) (r : RunRecord) → records_of (reported s w) ≡ before ++ r ∷ after → IsLine (facts_of s) before r
  line_is before after r e = from_split (IsLine (facts_of s)) [] w.records before after r h.lines (sym back ∙ e)

  reads : (before after : List Reported) (line : Reported) → reported s w ≡ before ++ line ∷ after → ReadsItsCut s before line
  reads before after line e session x v phase is =
      let split : records_of (reported s w) ≡ records_of before ++ line.entry ∷ records_of after = ap records_of e ∙ records_append before (line ∷ after) in
      let here : IsLine (facts_of s) (records_of before) (read session x v phase) = subst (IsLine (facts_of s) (records_of before)) is (line_is (records_of before) (records_of after) line.entry split) in
      let view = get_there x (slotted_views s) (omega (arith, here.2.1, length-map (slotted_views s) (λ (z : SlottedView). z.slots))) in
      let cut = get_there v (printed_cuts (records_of before)) here.2.0 in
      let all : version_cuts w.pipeline ≡ printed_cuts (records_of before) ++ printed_cuts (line.entry ∷ records_of after) = sym printed ∙ (ap printed_cuts split ∙ printed_append (records_of before) (line.entry ∷ records_of after)) in
      let value : rows_of s (version_cuts w.pipeline) (read session x v phase) ≡ value_at s view.0.view cut.0 =
      ap (λ o. value_at s (unwrap_or (option_and_then (λ z. Some z.view) o) no_view) (slice_index_or (version_cuts w.pipeline) v [])) view.1
      ∙ ap (value_at s view.0.view) (ap (λ z. slice_index_or z v []) all ∙ index_front (printed_cuts (records_of before)) (printed_cuts (line.entry ∷ records_of after)) v cut.0 [] cut.1) in (
        view.0,
        cut.0,
        view.1,
        ap (option_and_then (slice_get (printed_cuts (records_of before)))) here.1.0 ∙ cut.1,
        rows_there s (version_cuts w.pipeline) w.records before after line e ∙ (ap (rows_of s (version_cuts w.pipeline)) is ∙ value),
      )

  all_lines : (Q : RunRecord → Type 0) → ((before : List RunRecord) (r : RunRecord) → IsLine (facts_of s) before r → Q r) → AllByRecursion Q (records_of (reported s w))
  all_lines Q g = subst (AllByRecursion Q) (sym back) (each_is (IsLine (facts_of s)) Q g [] w.records h.lines)

  prefixes : EndsWell s w → AllByRecursion (IsPrefix s) (printed_cuts (records_of (reported s w)))
  prefixes well = subst (AllByRecursion (IsPrefix s)) (sym printed) (all_both
      (λ cut. length cut ≡ length (facts_of s).transactions)
      (λ cut. (y : ℕ) → slice_index cut y ≤ committed_at w.pipeline y)
      (IsPrefix s)
      (version_cuts w.pipeline)
      (λ cut long within. (long ∙ length-map s.work (λ z. length z), λ y. omega (arith, within y, committed_within (facts_of s) w.pipeline h.counted y)))
      (all_long (facts_of s) w.pipeline h.counted)
      well.cuts.within_commits)

  pub headline_from : EndsWell s w → EndsFull w.records ⊎ EndsAtFinalSources s (reported s w) → Headline s (reported s w)
  headline_from well end = record {
    reads = reads;
    numbers = λ before after r e. (line_is before after r e).0;
    prefixes = prefixes well;
    later = subst AllAdvance (sym printed) well.cuts.advance;
    expires = λ before after r e. (line_is before after r e).1;
    row_counts = all_lines (CountsRows s) (λ before r here. counts_rows s before r here.2);
    phases = subst (λ z. IsNonDecreasing (printed_phases z)) (sym back) h.phases.rising;
    slots = all_lines (LeavesSlots s) (λ before r here. leaves_slots s before r here.2);
    end = end_is end;
  }
    where
      end_is : EndsFull w.records ⊎ EndsAtFinalSources s (reported s w) → EndsFull (records_of (reported s w)) ⊎ EndsAtFinalSources s (reported s w)
      end_is (inl short) = inl (short.0, short.1, back ∙ short.2)
      end_is (inr at) = inr at

-- ---- the end

-- the run with its final records
abbrev closed : Script → World → World
closed s w = record w { records = w.records ++ final (whole_cut s) ∷ map final_rows (view_places (facts_of s)) }

module _ (s : Script) (valid : IsValidScript s) where
  last_values : (p : Pipeline) → IsReached (facts_of s) p → first_enabled (facts_of s) p ≡ None → (x : ℕ) → value_at s (view_at s x) p.writer.cut ≡ value_at s (view_at s x) (whole_cut s)
  last_values p r none x =
      subst (λ q. value_at s (view_at s x) q.writer.cut ≡ value_at s (view_at s x) (whole_cut s)) r.led
      (has_all s valid r.events x (subst (λ q. first_enabled (facts_of s) q ≡ None) (sym r.led) none))

  view_value : (p : Pipeline) → IsReached (facts_of s) p → first_enabled (facts_of s) p ≡ None → (x : ℕ) (view : SlottedView) → slice_get (slotted_views s) x ≡ Some view → value_at s view.view p.writer.cut ≡ value_at s view.view (whole_cut s)
  view_value p r none x view at =
      subst (λ o. value_at s (unwrap_or (option_and_then (λ z. Some z.view) o) no_view) p.writer.cut ≡ value_at s (unwrap_or (option_and_then (λ z. Some z.view) o) no_view) (whole_cut s)) at (last_values p r none x)

  ends_at : (w : World) → Told (facts_of s) w → IsReached (facts_of s) w.pipeline → first_enabled (facts_of s) w.pipeline ≡ None → EndsAtFinalSources s (reported s (closed s w))
  ends_at w h r none =
      let cuts = version_cuts w.pipeline in
      record {
        before = map (line_of s cuts) w.records;
        lines = map-append (line_of s cuts) w.records (final (whole_cut s) ∷ map final_rows (view_places (facts_of s)))
            ∙ ap (λ z. map (line_of s cuts) w.records ++ record { entry = final (whole_cut s); rows = [] } ∷ z)
            (final_rows_lines s cuts (view_places (facts_of s)) ∙ ap (λ n. map (final_line s) (places_from 0 n)) (length-map (slotted_views s) (λ (z : SlottedView). z.slots)));
        earlier = w.pipeline.writer.earlier_cuts;
        last = w.pipeline.writer.cut;
        printed = ap printed_cuts (records_back s cuts w.records) ∙ h.printed;
        views = all_from_get (λ view. value_at s view.view w.pipeline.writer.cut ≡ value_at s view.view (whole_cut s)) (slotted_views s) (view_value w.pipeline r none);
      }

  -- the drained run is full, or gets its final records
  met_at_end : (w : World) → Told (facts_of s) w → IsReached (facts_of s) w.pipeline → (b : Bool) → w.is_full ≡ b → EndsWell s (cond b w (closed s w)) → Headline s (reported s (cond b w (closed s w)))
  met_at_end w h r true t well = headline_from s w h well (inl (h.end t))
  met_at_end w h r false t well = headline_from s (closed s w) (final_told (facts_of s) (whole_cut s) (view_places (facts_of s)) w t h) well (inr (at_rest well.end))
    where
      at_rest : (w.is_full ≡ true) ⊎ IsAtRest (facts_of s) w.pipeline → EndsAtFinalSources s (reported s (closed s w))
      at_rest (inl short) = absurd (cc)
      at_rest (inr rest) = ends_at w h r rest.none_enabled

  pub met : (w : World) → Told (facts_of s) w → IsReached (facts_of s) w.pipeline → Headline s (reported s (finished_world (facts_of s) w))
  met w h r =
      let f = facts_of s in
      let d = drained_world (work f w.pipeline) f w in
      met_at_end d (drained_keeps f (Told f) (event_told f) (work f w.pipeline) w h) (drained_reached (work f w.pipeline) f w r) d.is_full refl (finished_well s valid.sources w r)

-- ---- schedules

listed_told : (f : Facts) (es : List Event) → Told f (after_listed_plan f 1 es (start_world f))
listed_told f es = listed_keeps f (Told f) (event_told f) (skip_told f) 1 es (start_world f) (start_told f)

picked_told : (f : Facts) (start_number steps : ℕ) → Told f (after_picked_plan steps f start_number (start_world f))
picked_told f start_number steps = picked_keeps f (Told f) (event_told f) steps start_number (start_world f) (start_told f)

pub every_run : EveryRunMeetsHeadline
every_run s valid (Listed es) = met s valid (after_listed_plan (facts_of s) 1 es (start_world (facts_of s))) (listed_told (facts_of s) es) (listed_plan_reached (facts_of s) 1 es (start_world (facts_of s)) (start_reached (facts_of s)))
every_run s valid (Picked start_number steps) = met s valid (after_picked_plan steps (facts_of s) start_number (start_world (facts_of s))) (picked_told (facts_of s) start_number steps) (picked_plan_reached steps (facts_of s) start_number (start_world (facts_of s)) (start_reached (facts_of s)))

-- ---- the printed cuts

closed_told : (s : Script) (w : World) → Told (facts_of s) w → (b : Bool) → w.is_full ≡ b → Told (facts_of s) (cond b w (closed s w))
closed_told s w h true t = h
closed_told s w h false t = final_told (facts_of s) (whole_cut s) (view_places (facts_of s)) w t h

finished_told : (s : Script) (w : World) → Told (facts_of s) w → Told (facts_of s) (finished_world (facts_of s) w)
finished_told s w h =
    let f = facts_of s in
    let d = drained_world (work f w.pipeline) f w in
    closed_told s d (drained_keeps f (Told f) (event_told f) (work f w.pipeline) w h) d.is_full refl

pub printed_versions : PrintedCutsAreVersions
printed_versions s (Listed es) = (finished_told s (after_listed_plan (facts_of s) 1 es (start_world (facts_of s))) (listed_told (facts_of s) es)).printed
printed_versions s (Picked start_number steps) = (finished_told s (after_picked_plan steps (facts_of s) start_number (start_world (facts_of s))) (picked_told (facts_of s) start_number steps)).printed

pub lines_are_records : LinesAreRecords
lines_are_records s = (
  λ es. let w = run_of s (Listed es) in records_back s (version_cuts w.pipeline) w.records,
  λ start_number steps. let w = run_of s (Picked start_number steps) in records_back s (version_cuts w.pipeline) w.records,
)
