-- Where the rows of any two cuts have slots, no run is full: `roomy_run`.
--
-- The idea: with two versions a transaction needs slots for the rows of two cuts alone, the current one and the one after it; so no event
-- finds too few slots, and nothing else ends a run.
use Rattle.std.proofs.Common.{◌≡◌, ℕ, zero, suc, ◌-◌, ◌≤◌, Bool, true, false, cond, List, [], ◌∷◌, ◌++◌, length, drop, Option, Some, None, refl, sym, ap, ◌∙◌, arith}
use Rattle.std.specs.Prelude.{slice_get, map}
use Rattle.std.specs.Option.{option_and_then}
use Rattle.whips_flow.specs.Facts.{Facts, Shortage, view_places}
use Rattle.whips_flow.specs.State.{Pipeline, Writer}
use Rattle.whips_flow.specs.Effects.{next_cut, cuts_in_use, begin_shortage}
use Rattle.whips_flow.specs.Progress.{first_enabled, next}
use Rattle.whips_flow.specs.Work.{work}
use Rattle.whips_flow.specs.declared.event.Event.{Event}
use Rattle.whips_flow.specs.declared.event.Event.TheVariants.{Commit, Answer, Integrate, Manage, Rel, Act, Begin, Change, Publish, SessionOpen, SessionScan, SessionFetch, SessionClose}
use Rattle.whips_runs.specs.Sessions.{Scan, scan_of}
use Rattle.whips_runs.specs.Records.{full, skip, final, final_rows}
use Rattle.whips_runs.specs.World.{World, is_allowed, after_fetch, after_event, after_turn, with_record, start_world, drained_world, with_final_records, finished_world, after_listed_plan}
use Rattle.whips_runs.specs.Picks.{picked_event, after_picked_plan}
use Rattle.whips_pick.specs.Picks.{next_state}
use Rattle.whips_setup.specs.declared.plan.Plan.{Plan}
use Rattle.whips_setup.specs.declared.plan.Plan.TheVariants.{Listed, Picked}

drop_all : {X : Type 0} (xs : List X) → drop (length xs) xs ≡ []
drop_all [] = refl
drop_all (x ∷ xs) = drop_all xs

-- the run isn't full
abbrev GoesOn : World → Type 0
GoesOn w = w.is_full ≡ false

fetch_goes : (f : Facts) (s n : ℕ) (o : Option Scan) (w : World) → GoesOn w → GoesOn (after_fetch f s n o w)
fetch_goes f s n None w h = h
fetch_goes f s n (Some scan) w h = h

module _ (f : Facts) (two : f.versions ≡ 2) (roomy : (a b : List ℕ) → f.shortage (a ∷ b ∷ []) ≡ None) where
  one_in_use : (w : Writer) → cuts_in_use f w ≡ w.cut ∷ []
  one_in_use w =
      let all : length w.earlier_cuts - (f.versions - 2) ≡ length w.earlier_cuts = omega (arith, two) in
      ap (λ n. drop n w.earlier_cuts ++ w.cut ∷ []) all ∙ ap (λ cuts. cuts ++ w.cut ∷ []) (drop_all w.earlier_cuts)

  begin_fits : (p : Pipeline) → begin_shortage f p ≡ None
  begin_fits p = go (next_cut p)
    where
      go : (o : Option (List ℕ)) → option_and_then (λ cut. f.shortage (cuts_in_use f p.writer ++ cut ∷ [])) o ≡ None
      go None = refl
      go (Some cut) = ap (λ cuts. f.shortage (cuts ++ cut ∷ [])) (one_in_use p.writer) ∙ roomy p.writer.cut cut

  event_goes : (e : Event) (w : World) → GoesOn w → GoesOn (after_event f e w)
  event_goes (Commit y) w h = h
  event_goes (Answer y x) w h = h
  event_goes (Integrate y) w h = h
  event_goes (Manage x) w h = h
  event_goes Rel w h = h
  event_goes (Act x) w h = h
  event_goes Begin w h =
      ap (λ (o : Option Shortage). (elim o as (λ _. World) [ Some shortage ↦ record w { records = w.records ++ full shortage ∷ []; is_full = true } | None ↦ record w { pipeline = next f w.pipeline Begin } ]).is_full) (begin_fits w.pipeline) ∙ h
  event_goes Change w h = h
  event_goes Publish w h = h
  event_goes (SessionOpen s) w h = h
  event_goes (SessionScan s x) w h = h
  event_goes (SessionFetch s n) w h = fetch_goes f s n (scan_of (slice_get w.sessions s)) w h
  event_goes (SessionClose s) w h = h

  turn_goes : (place : ℕ) (e : Event) (w : World) → GoesOn w → GoesOn (after_turn f place e w)
  turn_goes place e w h = go w.is_full (is_allowed f w e)
    where
      go : (full allowed : Bool) → GoesOn (cond full w (cond allowed (after_event f e w) (with_record (skip place e) w)))
      go true allowed = h
      go false true = event_goes e w h
      go false false = h

  listed_goes : (place : ℕ) (es : List Event) (w : World) → GoesOn w → GoesOn (after_listed_plan f place es w)
  listed_goes place [] w h = h
  listed_goes place (e ∷ es) w h = listed_goes (suc place) es (after_turn f place e w) (turn_goes place e w h)

  picked_goes : (n state : ℕ) (w : World) → GoesOn w → GoesOn (after_picked_plan n f state w)
  picked_goes zero state w h = h
  picked_goes (suc n) state w h = go (λ z. picked_goes n (next_state state) z) (picked_event f (next_state state) w)
    where
      go : ((z : World) → GoesOn z → GoesOn (after_picked_plan n f (next_state state) z)) → (o : Option Event)
          → GoesOn (elim o as (λ _. World) [ None ↦ w | Some e ↦ after_picked_plan n f (next_state state) (after_event f e w) ])
      go later None = h
      go later (Some e) = later (after_event f e w) (event_goes e w h)

  drain_goes : (n : ℕ) (w : World) → GoesOn w → GoesOn (drained_world n f w)
  drain_goes zero w h = h
  drain_goes (suc n) w h = go (λ z. drain_goes n z) (cond w.is_full None (first_enabled f w.pipeline))
    where
      go : ((z : World) → GoesOn z → GoesOn (drained_world n f z)) → (o : Option Event)
          → GoesOn (elim o as (λ _. World) [ None ↦ w | Some e ↦ drained_world n f (after_event f e w) ])
      go later None = h
      go later (Some e) = later (after_event f e w) (event_goes e w h)

  end_goes : (w : World) → GoesOn w → GoesOn (with_final_records f w)
  end_goes w h = go w.is_full
    where
      go : (b : Bool) → GoesOn (cond b w (record w { records = w.records ++ final f.transactions ∷ map final_rows (view_places f) }))
      go true = h
      go false = h

  finish_goes : (w : World) → GoesOn w → GoesOn (finished_world f w)
  finish_goes w h = end_goes (drained_world (work f w.pipeline) f w) (drain_goes (work f w.pipeline) w h)

  pub listed_fits : (es : List Event) → GoesOn (finished_world f (after_listed_plan f 1 es (start_world f)))
  listed_fits es = finish_goes _ (listed_goes 1 es (start_world f) refl)

  pub picked_fits : (start steps : ℕ) → GoesOn (finished_world f (after_picked_plan steps f start (start_world f)))
  picked_fits start steps = finish_goes _ (picked_goes steps start (start_world f) refl)
