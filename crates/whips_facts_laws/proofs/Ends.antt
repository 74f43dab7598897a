-- Every run of a script ends well.
use Rattle.std.proofs.Common.{◌≡◌, Bool, true, false, List, [], ◌∷◌, ◌++◌, length, None, cond, refl, sym, subst, ◌∙◌, ◌⊎◌, inl, inr}
use Rattle.std.specs.Prelude.{map}
use Rattle.whips_flow.specs.Facts.{Facts, view_places}
use Rattle.whips_flow.specs.State.{Pipeline, start}
use Rattle.whips_flow.specs.Progress.{step, after, is_done, next, first_enabled}
use Rattle.whips_flow.specs.Work.{work}
use Rattle.whips_flow.specs.declared.event.Event.{Event}
use Rattle.whips_runs.specs.World.{World, start_world, drained_world, with_final_records, after_listed_plan}
use Rattle.whips_runs.specs.Picks.{after_picked_plan}
use Rattle.whips_runs.specs.Records.{final, final_rows}
use Rattle.whips_facts.specs.Scripts.{Script}
use Rattle.whips_facts.specs.ScriptFacts.{facts_of}
use Rattle.whips_facts.specs.Values.{AreAtSources}
use Rattle.whips_drain_laws.specs.Drain.{HasAllManagers}
use Rattle.whips_drain_laws.proofs.Falls.{next_shaped}
use Rattle.whips_cut_laws.specs.Cuts.{HasSoundCuts}
use Rattle.whips_cut_laws.proofs.Orderly.{advance}
use Rattle.whips_settled_laws.specs.Settled.{IsSettled}
use Rattle.whips_settled_laws.proofs.Ends.{nothing_left}
use Rattle.std.proofs.lemmas.List.{length-replicate}
use Rattle.whips_run_laws.specs.Reached.{IsReached}
use Rattle.whips_run_laws.proofs.Turns.{ends}
use Rattle.whips_run_laws.proofs.Reaches.{start_reached, listed_plan_reached, picked_plan_reached, drained_reached}
use Rattle.whips_facts_laws.specs.ScriptRuns.{IsAtRest, EndsWell, ListedRunsEndWell, PickedRunsEndWell}
use Rattle.whips_facts_laws.proofs.Premises.{roomy, asks_there}

pub step_shaped : (f : Facts) (p : Pipeline) (e : Event) → HasAllManagers f p → HasAllManagers f (step f p e)
step_shaped f p e h = elim (is_done f p e) as (λ b. HasAllManagers f (cond b (next f p e) p)) [ true ↦ next_shaped f p e h | false ↦ h ]

pub after_shaped : (f : Facts) (es : List Event) (p : Pipeline) → HasAllManagers f p → HasAllManagers f (after f p es)
after_shaped f [] p h = h
after_shaped f (e ∷ es) p h = after_shaped f es (step f p e) (step_shaped f p e h)

reached_shaped : (f : Facts) (p : Pipeline) → IsReached f p → HasAllManagers f p
reached_shaped f p r = subst (HasAllManagers f) r.led (after_shaped f r.events (start f) (length-replicate (length f.slots) _))

-- a run with its final records has the pipeline that it had before, and is full where it was
unless_full : (s : Script) (b : Bool) (w z : World) → w.is_full ≡ b → z.pipeline ≡ w.pipeline → z.is_full ≡ w.is_full → EndsWell s w → EndsWell s (cond b w z)
unless_full s true w z h p q e = e
unless_full s false w z h p q e = record { cuts = subst HasSoundCuts (sym p) e.cuts; end = go e.end }
  where
    go : (w.is_full ≡ true) ⊎ IsAtRest (facts_of s) w.pipeline → (z.is_full ≡ true) ⊎ IsAtRest (facts_of s) z.pipeline
    go (inl t) = inl (q ∙ t)
    go (inr t) = inr (subst (IsAtRest (facts_of s)) (sym p) t)

reached_cuts : (f : Facts) (p : Pipeline) → IsReached f p → HasSoundCuts p
reached_cuts f p r = subst HasSoundCuts r.led (advance f r.events)

-- a pipeline that events reach and in which nothing is enabled
reached_settled : (s : Script) → AreAtSources s → (p : Pipeline) → IsReached (facts_of s) p → first_enabled (facts_of s) p ≡ None → IsSettled (facts_of s) p
reached_settled s at p r h = subst (IsSettled (facts_of s)) r.led (nothing_left (facts_of s) r.events (asks_there s at) (subst (λ q. first_enabled (facts_of s) q ≡ None) (sym r.led) h))

pub finished_well : (s : Script) → AreAtSources s → (w : World) → IsReached (facts_of s) w.pipeline → EndsWell s (with_final_records (facts_of s) (drained_world (work (facts_of s) w.pipeline) (facts_of s) w))
finished_well s at w r =
    let f = facts_of s in
    let z = drained_world (work f w.pipeline) f w in
    let reached = drained_reached (work f w.pipeline) f w r in
    unless_full s z.is_full z (record z { records = z.records ++ final f.transactions ∷ map final_rows (view_places f) }) refl refl refl (record {
      cuts = reached_cuts f z.pipeline reached;
      end = go z reached (ends f w (roomy s) (reached_shaped f w.pipeline r));
    })
  where
    go : (z : World) → IsReached (facts_of s) z.pipeline → (z.is_full ≡ true) ⊎ (first_enabled (facts_of s) z.pipeline ≡ None) → (z.is_full ≡ true) ⊎ IsAtRest (facts_of s) z.pipeline
    go z reached (inl t) = inl t
    go z reached (inr n) = inr (record { none_enabled = n; settled = reached_settled s at z.pipeline reached n })

pub listed_end : ListedRunsEndWell
listed_end s at es = let f = facts_of s in finished_well s at (after_listed_plan f 1 es (start_world f)) (listed_plan_reached f 1 es (start_world f) (start_reached f))

pub picked_end : PickedRunsEndWell
picked_end s at start_number steps = let f = facts_of s in finished_well s at (after_picked_plan steps f start_number (start_world f)) (picked_plan_reached steps f start_number (start_world f) (start_reached f))
