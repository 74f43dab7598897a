-- What a turn does to the pipeline.
use Rattle.std.proofs.Common.{◌≡◌, ℕ, zero, suc, ◌*◌, ◌%◌, ◌<◌, ◌≤◌, Bool, true, false, ◌&&◌, not, List, length, eqb, Option, Some, None, cond, refl, sym, ap, subst, ◌∙◌, arith, ◌⊎◌, inl, inr}
use Rattle.std.specs.Prelude.{is_some, slice_get}
use Rattle.std.proofs.lemmas.Bool.{and_from, and_parts}
use Rattle.whips_lists.specs.Lists.{front}
use Rattle.whips_flow.specs.Painted.{Row}
use Rattle.whips_flow.specs.Facts.{Facts, Shortage}
use Rattle.whips_runs.specs.Sessions.{Scan, scan_of}
use Rattle.whips_flow.specs.State.{Pipeline}
use Rattle.whips_flow.specs.Progress.{is_enabled, shortage_at, next, first_enabled, pipeline_events}
use Rattle.whips_flow.specs.Work.{work, row_work}
use Rattle.whips_runs.specs.World.{World, is_allowed, after_event, after_pipeline_event, after_fetch, with_record, drained_world}
use Rattle.whips_runs.specs.Records.{skip}
use Rattle.whips_flow.specs.declared.event.Event.{Event}
use Rattle.whips_flow.specs.declared.event.Event.TheVariants.{Commit, Answer, Integrate, Manage, Rel, Act, Begin, Change, Publish, SessionOpen, SessionScan, SessionFetch, SessionClose}
use Rattle.whips_drain_laws.specs.Drain.{IsRoomy, HasAllManagers}
use Rattle.whips_drain_laws.proofs.Falls.{falls, next_shaped}
use Rattle.whips_lists.proofs.Lists.{front_is}
use Rattle.whips_run_laws.specs.Runs.{TurnsAreSteps, RunsEnd}
use Rattle.whips_lists.proofs.Options.{found_passes}

module _ (f : Facts) (w : World) where
  -- an event of the pipeline that is enabled
  pipeline_moves : (e : Event) → shortage_at f w.pipeline e ≡ None → (after_pipeline_event f e w).pipeline ≡ next f w.pipeline e
  pipeline_moves e h = rw (h, after_pipeline_event) refl

  full_same : (e : Event) → shortage_at f w.pipeline e ≡ None → (after_pipeline_event f e w).is_full ≡ w.is_full
  full_same e h = rw (h, after_pipeline_event) refl

  pipeline_steps : (e : Event) → (after_pipeline_event f e w).pipeline ≡ cond (not (is_some (shortage_at f w.pipeline e))) (next f w.pipeline e) w.pipeline
  pipeline_steps e = go (shortage_at f w.pipeline e) refl
    where
      go : (o : Option Shortage) → shortage_at f w.pipeline e ≡ o → (after_pipeline_event f e w).pipeline ≡ cond (not (is_some o)) (next f w.pipeline e) w.pipeline
      go None h = rw (h, after_pipeline_event) refl
      go (Some v) h = rw (h, after_pipeline_event) refl

  full_now : (e : Event) (v : Shortage) → shortage_at f w.pipeline e ≡ Some v → (after_pipeline_event f e w).is_full ≡ true
  full_now e v h = rw (h, after_pipeline_event) refl

  fetch_keeps : (s n : ℕ) (o : Option Scan) → (after_fetch f s n o w).pipeline ≡ w.pipeline
  fetch_keeps s n None = refl
  fetch_keeps s n (Some v) = refl

  -- a turn of the pipeline, whether its event is enabled and whether it is full
  piped : (e : Event) (en : Bool) (o : Option Shortage) (d t : World) → d.pipeline ≡ cond (not (is_some o)) (next f w.pipeline e) w.pipeline → t.pipeline ≡ w.pipeline → (cond en d t).pipeline ≡ cond (en && not (is_some o)) (next f w.pipeline e) w.pipeline
  piped e true o d t h g = h
  piped e false o d t h g = g

  kept : (b : Bool) (d t : World) → d.pipeline ≡ w.pipeline → t.pipeline ≡ w.pipeline → (cond b d t).pipeline ≡ w.pipeline
  kept true d t h g = h
  kept false d t h g = g

unless : (b : Bool) (w x : World) → b ≡ false → (cond b w x).pipeline ≡ x.pipeline
unless b w x h = rw h refl

pub turn_step : TurnsAreSteps
turn_step f k (Commit y) w h = unless w.is_full w (cond (is_allowed f w (Commit y)) (after_event f (Commit y) w) (with_record (skip k (Commit y)) w)) h ∙ (piped f w (Commit y) (is_enabled f w.pipeline (Commit y)) None (after_pipeline_event f (Commit y) w) (with_record (skip k (Commit y)) w) refl refl)
turn_step f k (Answer y x) w h = unless w.is_full w (cond (is_allowed f w (Answer y x)) (after_event f (Answer y x) w) (with_record (skip k (Answer y x)) w)) h ∙ (piped f w (Answer y x) (is_enabled f w.pipeline (Answer y x)) None (after_pipeline_event f (Answer y x) w) (with_record (skip k (Answer y x)) w) refl refl)
turn_step f k (Integrate y) w h = unless w.is_full w (cond (is_allowed f w (Integrate y)) (after_event f (Integrate y) w) (with_record (skip k (Integrate y)) w)) h ∙ (piped f w (Integrate y) (is_enabled f w.pipeline (Integrate y)) None (after_pipeline_event f (Integrate y) w) (with_record (skip k (Integrate y)) w) refl refl)
turn_step f k (Manage x) w h = unless w.is_full w (cond (is_allowed f w (Manage x)) (after_event f (Manage x) w) (with_record (skip k (Manage x)) w)) h ∙ (piped f w (Manage x) (is_enabled f w.pipeline (Manage x)) None (after_pipeline_event f (Manage x) w) (with_record (skip k (Manage x)) w) refl refl)
turn_step f k Rel w h = unless w.is_full w (cond (is_allowed f w Rel) (after_event f Rel w) (with_record (skip k Rel) w)) h ∙ (piped f w Rel (is_enabled f w.pipeline Rel) None (after_pipeline_event f Rel w) (with_record (skip k Rel) w) refl refl)
turn_step f k (Act x) w h = unless w.is_full w (cond (is_allowed f w (Act x)) (after_event f (Act x) w) (with_record (skip k (Act x)) w)) h ∙ (piped f w (Act x) (is_enabled f w.pipeline (Act x)) None (after_pipeline_event f (Act x) w) (with_record (skip k (Act x)) w) refl refl)
turn_step f k Begin w h = unless w.is_full w (cond (is_allowed f w Begin) (after_event f Begin w) (with_record (skip k Begin) w)) h ∙ (piped f w Begin (is_enabled f w.pipeline Begin) (shortage_at f w.pipeline Begin) (after_pipeline_event f Begin w) (with_record (skip k Begin) w) (pipeline_steps f w Begin) refl)
turn_step f k Change w h = unless w.is_full w (cond (is_allowed f w Change) (after_event f Change w) (with_record (skip k Change) w)) h ∙ (piped f w Change (is_enabled f w.pipeline Change) None (after_pipeline_event f Change w) (with_record (skip k Change) w) refl refl)
turn_step f k Publish w h = unless w.is_full w (cond (is_allowed f w Publish) (after_event f Publish w) (with_record (skip k Publish) w)) h ∙ (piped f w Publish (is_enabled f w.pipeline Publish) None (after_event f Publish w) (with_record (skip k Publish) w) refl refl)
turn_step f k (SessionOpen s) w h = unless w.is_full w (cond (is_allowed f w (SessionOpen s)) (after_event f (SessionOpen s) w) (with_record (skip k (SessionOpen s)) w)) h ∙ (kept f w (is_allowed f w (SessionOpen s)) (after_event f (SessionOpen s) w) (with_record (skip k (SessionOpen s)) w) refl refl)
turn_step f k (SessionScan s x) w h = unless w.is_full w (cond (is_allowed f w (SessionScan s x)) (after_event f (SessionScan s x) w) (with_record (skip k (SessionScan s x)) w)) h ∙ (kept f w (is_allowed f w (SessionScan s x)) (after_event f (SessionScan s x) w) (with_record (skip k (SessionScan s x)) w) refl refl)
turn_step f k (SessionFetch s n) w h = unless w.is_full w (cond (is_allowed f w (SessionFetch s n)) (after_event f (SessionFetch s n) w) (with_record (skip k (SessionFetch s n)) w)) h ∙ (kept f w (is_allowed f w (SessionFetch s n)) (after_event f (SessionFetch s n) w) (with_record (skip k (SessionFetch s n)) w) (fetch_keeps f w s n (scan_of (slice_get w.sessions s))) refl)
turn_step f k (SessionClose s) w h = unless w.is_full w (cond (is_allowed f w (SessionClose s)) (after_event f (SessionClose s) w) (with_record (skip k (SessionClose s)) w)) h ∙ (kept f w (is_allowed f w (SessionClose s)) (after_event f (SessionClose s) w) (with_record (skip k (SessionClose s)) w) refl refl)

-- ---- the drain

-- an enabled event moves the pipeline, or ends the run
pub record Moved (f : Facts) (e : Event) (w : World) : Type 0 where
  pub pipeline : (after_event f e w).pipeline ≡ next f w.pipeline e
  pub is_full : (after_event f e w).is_full ≡ w.is_full

moved : (f : Facts) (e : Event) (w : World) → is_enabled f w.pipeline e ≡ true → shortage_at f w.pipeline e ≡ None → Moved f e w
moved f (Commit y) w en h = record { pipeline = refl; is_full = refl }
moved f (Answer y x) w en h = record { pipeline = refl; is_full = refl }
moved f (Integrate y) w en h = record { pipeline = refl; is_full = refl }
moved f (Manage x) w en h = record { pipeline = refl; is_full = refl }
moved f Rel w en h = record { pipeline = refl; is_full = refl }
moved f (Act x) w en h = record { pipeline = refl; is_full = refl }
moved f Begin w en h = record { pipeline = pipeline_moves f w Begin h; is_full = full_same f w Begin h }
moved f Change w en h = record { pipeline = refl; is_full = refl }
moved f Publish w en h = record { pipeline = refl; is_full = refl }
moved f (SessionOpen s) w en h = absurd (cc)
moved f (SessionScan s x) w en h = absurd (cc)
moved f (SessionFetch s n) w en h = absurd (cc)
moved f (SessionClose s) w en h = absurd (cc)

ended : (f : Facts) (e : Event) (w : World) (v : Shortage) → shortage_at f w.pipeline e ≡ Some v → (after_event f e w).is_full ≡ true
ended f Begin w v h = full_now f w Begin v h
ended f (Commit y) w v h = absurd (cc)
ended f (Answer y x) w v h = absurd (cc)
ended f (Integrate y) w v h = absurd (cc)
ended f (Manage x) w v h = absurd (cc)
ended f Rel w v h = absurd (cc)
ended f (Act x) w v h = absurd (cc)
ended f Change w v h = absurd (cc)
ended f Publish w v h = absurd (cc)
ended f (SessionOpen s) w v h = absurd (cc)
ended f (SessionScan s x) w v h = absurd (cc)
ended f (SessionFetch s n) w v h = absurd (cc)
ended f (SessionClose s) w v h = absurd (cc)

abbrev pub AtEnd : Facts → World → Type 0
AtEnd f w = (w.is_full ≡ true) ⊎ (first_enabled f w.pipeline ≡ None)

full_stays : (n : ℕ) (f : Facts) (w : World) → w.is_full ≡ true → drained_world n f w ≡ w
full_stays zero f w h = refl
full_stays (suc n) f w h = rw h refl

-- a begin that is enabled is work
begin_work : (f : Facts) (p : Pipeline) → is_some (front p.merge.row_sets) ≡ true → 0 < work f p
begin_work f p h = go (front p.merge.row_sets) refl h
  where
    go : (o : Option (List Row)) → front p.merge.row_sets ≡ o → is_some o ≡ true → 0 < work f p
    go None e h = absurd (cc)
    go (Some set) e h = let l = ap length (front_is p.merge.row_sets set e) in omega (arith, ap (λ n. row_work f * n) l)

full_work : (f : Facts) (p : Pipeline) (d : Event) (v : Shortage) → is_enabled f p d ≡ true → shortage_at f p d ≡ Some v → 0 < work f p
full_work f p Begin v en h = begin_work f p (and_parts (is_some (front p.merge.row_sets)) (eqb (p.writer.phase % 2) 0) en).0
full_work f p (Commit y) v en h = absurd (cc)
full_work f p (Answer y x) v en h = absurd (cc)
full_work f p (Integrate y) v en h = absurd (cc)
full_work f p (Manage x) v en h = absurd (cc)
full_work f p Rel v en h = absurd (cc)
full_work f p (Act x) v en h = absurd (cc)
full_work f p Change v en h = absurd (cc)
full_work f p Publish v en h = absurd (cc)
full_work f p (SessionOpen s) v en h = absurd (cc)
full_work f p (SessionScan s x) v en h = absurd (cc)
full_work f p (SessionFetch s n) v en h = absurd (cc)
full_work f p (SessionClose s) v en h = absurd (cc)

module _ (f : Facts) (roomy : IsRoomy f) where
  found : (w : World) (d : Event) → first_enabled f w.pipeline ≡ Some d → is_enabled f w.pipeline d ≡ true
  found w d e = found_passes (is_enabled f w.pipeline) (pipeline_events f) d e

  less : (w : World) (d : Event) → HasAllManagers f w.pipeline → first_enabled f w.pipeline ≡ Some d → shortage_at f w.pipeline d ≡ None → work f (next f w.pipeline d) < work f w.pipeline
  less w d shaped e h = falls f w.pipeline d roomy shaped (and_from (is_enabled f w.pipeline d) (not (is_some (shortage_at f w.pipeline d))) (found w d e) (rw h refl))

  no_work : (w : World) → HasAllManagers f w.pipeline → work f w.pipeline ≤ 0 → AtEnd f w
  no_work w shaped le = go (first_enabled f w.pipeline) refl
    where
      go : (o : Option Event) → first_enabled f w.pipeline ≡ o → AtEnd f w
      go None e = inr e
      go (Some d) e = full (shortage_at f w.pipeline d) refl
        where
          full : (o : Option Shortage) → shortage_at f w.pipeline d ≡ o → AtEnd f w
          full None h = absurd (omega (arith, less w d shaped e h))
          full (Some v) h = absurd (omega (arith, full_work f w.pipeline d v (found w d e) h))

  -- one turn of the drain, where the rest is known to end
  one_turn : (n : ℕ) (w : World) → HasAllManagers f w.pipeline → ((z : World) → HasAllManagers f z.pipeline → work f z.pipeline < work f w.pipeline → AtEnd f (drained_world n f z)) → w.is_full ≡ false → (o : Option Event) → first_enabled f w.pipeline ≡ o → AtEnd f (elim o as (λ _. World) [ None ↦ w | Some e ↦ drained_world n f (after_event f e w) ])
  one_turn n w shaped rest off None e = inr e
  one_turn n w shaped rest off (Some d) e = full (shortage_at f w.pipeline d) refl
    where
      full : (o : Option Shortage) → shortage_at f w.pipeline d ≡ o → AtEnd f (drained_world n f (after_event f d w))
      full None h =
          let m = (moved f d w (found w d e) h).pipeline in
          rest (after_event f d w) (subst (λ q. HasAllManagers f q) (sym m) (next_shaped f w.pipeline d shaped)) (omega (arith, ap (work f) m, less w d shaped e h))
      full (Some v) h = let t = ended f d w v h in inl (ap (λ z. z.is_full) (full_stays n f (after_event f d w) t) ∙ t)

pub drained_ends : (n : ℕ) (f : Facts) (w : World) → IsRoomy f → HasAllManagers f w.pipeline → work f w.pipeline ≤ n → AtEnd f (drained_world n f w)
drained_ends zero f w roomy shaped le = no_work f roomy w shaped le
drained_ends (suc n) f w roomy shaped le = elim (w.is_full) as (λ b. w.is_full ≡ b → AtEnd f (elim (cond b None (first_enabled f w.pipeline)) as (λ _. World) [ None ↦ w | Some e ↦ drained_world n f (after_event f e w) ])) [
  | true ↦ λ t. inl t
  | false ↦ λ t. one_turn f roomy n w shaped (λ z s lt. drained_ends n f z roomy s (omega arith)) t (first_enabled f w.pipeline) refl
] refl

pub ends : RunsEnd
ends f w roomy shaped = drained_ends (work f w.pipeline) f w roomy shaped (omega arith)
