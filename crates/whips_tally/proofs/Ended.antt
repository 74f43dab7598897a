-- The counts of a run that isn't full: `ended_counted`.
--
-- The idea: the records of such a run end with the final one and one for each view, whose rows are the view's value on the final sources; and
-- each other record is counted by its kind.
use Rattle.std.proofs.Common.{◌≡◌, ℕ, ◌+◌, Bool, true, false, cond, List, [], ◌∷◌, ◌++◌, length, Option, Some, refl, sym, ap, ap₂, ◌∙◌, arith}
use Rattle.std.specs.Prelude.{map, filter, slice_get}
use Rattle.std.specs.Option.{option_and_then, unwrap_or}
use Rattle.std.proofs.lemmas.List.{length-map}
use Rattle.whips_lists.specs.Lists.{places_from}
use Rattle.whips_flow.specs.Facts.{view_places}
use Rattle.whips_flow.specs.State.{version_cuts}
use Rattle.whips_flow.specs.Work.{work}
use Rattle.whips_runs.specs.Records.{RunRecord, final, final_rows}
use Rattle.whips_runs.specs.World.{World, drained_world, finished_world, with_final_records, after_listed_plan, start_world}
use Rattle.whips_runs.specs.Picks.{after_picked_plan}
use Rattle.whips_facts.specs.Scripts.{Script, SlottedView, slotted_views, value_at, view_at, no_view}
use Rattle.whips_facts.specs.ScriptFacts.{facts_of}
use Rattle.whips_setup.specs.declared.plan.Plan.{Plan}
use Rattle.whips_setup.specs.declared.plan.Plan.TheVariants.{Listed, Picked}
use Rattle.whips_reports.specs.Reported.{Reported, reported, rows_of, run_of}
use Rattle.whips_reports.specs.Summary.{is_read, is_more, is_expired, record_count}
use Rattle.whips_tally.specs.Tallies.{Tally, no_tally, counted_one, tally_after, tally_of, is_version, RunsAreCounted}
use Rattle.whips_tally.proofs.Records.{after, HasCounted, kinds_counted, end_counted, by_place}

abbrev rows_in : Script → World → RunRecord → ℕ
rows_in s w r = length (rows_of s (version_cuts w.pipeline) r)

-- what is reported is counted as the records are
reported_counted : (s : Script) (w : World) (t : Tally) (rs : List RunRecord) → tally_after t (map (λ r. record { entry = r; rows = rows_of s (version_cuts w.pipeline) r }) rs) ≡ after (rows_in s w) t rs
reported_counted s w t [] = refl
reported_counted s w t (r ∷ rs) = reported_counted s w (counted_one t (record { entry = r; rows = rows_of s (version_cuts w.pipeline) r })) rs

-- the rows of each view on the final sources
rows_are : (s : Script) → map (λ x. length (value_at s (view_at s x) (map length s.work))) (view_places (facts_of s)) ≡ (facts_of s).row_counts (map length s.work)
rows_are s =
    let cut = map length s.work in
    ap (λ n. map (λ x. length (value_at s (view_at s x) cut)) (places_from 0 n)) (length-map (slotted_views s) (λ (v : SlottedView). v.slots))
    ∙ by_place (slotted_views s) 0 (λ x. length (value_at s (view_at s x) cut)) (λ (v : SlottedView). length (value_at s v.view cut))
    (λ i v e. let same : 0 + i ≡ i = omega arith in ap (λ n. length (value_at s (view_at s n) cut)) same ∙ ap (λ o. length (value_at s (unwrap_or (option_and_then (λ (v : SlottedView). Some v.view) o) no_view) cut)) e)

same_tally : (a b : Tally) → a.versions ≡ b.versions → a.reads ≡ b.reads → a.more ≡ b.more → a.expired ≡ b.expired → a.rows ≡ b.rows → a ≡ b
same_tally a b versions reads more expired rows =
    ap₂ (λ x y. record { versions = x; reads = y; more = a.more; expired = a.expired; rows = a.rows }) versions reads
    ∙ (ap₂ (λ x y. record { versions = b.versions; reads = b.reads; more = x; expired = y; rows = a.rows }) more expired
    ∙ ap (λ x. record { versions = b.versions; reads = b.reads; more = b.more; expired = b.expired; rows = x }) rows)

module _ (s : Script) (d : World) where
  abbrev ended : World
  ended = record d { records = d.records ++ final (facts_of s).transactions ∷ map final_rows (view_places (facts_of s)) }

  world_counted : tally_after no_tally (reported s ended) ≡ tally_of s ended
  world_counted =
      let rows = rows_in s ended in
      let t = after rows no_tally ended.records in
      let kinds = kinds_counted rows no_tally ended.records in
      let end = end_counted rows no_tally d.records (facts_of s).transactions (view_places (facts_of s)) ∙ rows_are s in
      reported_counted s ended no_tally ended.records ∙ same_tally t (tally_of s ended) (omega (arith, kinds.versions)) (omega (arith, kinds.reads)) (omega (arith, kinds.more)) (omega (arith, kinds.expired)) end

  by_end : (full : Bool) → d.is_full ≡ full → (cond full d ended).is_full ≡ false → tally_after no_tally (reported s (cond full d ended)) ≡ tally_of s (cond full d ended)
  by_end true is off = absurd (cc)
  by_end false is off = world_counted

  pub final_counted : (with_final_records (facts_of s) d).is_full ≡ false → tally_after no_tally (reported s (with_final_records (facts_of s) d)) ≡ tally_of s (with_final_records (facts_of s) d)
  final_counted off = by_end d.is_full refl off

pub ended_counted : RunsAreCounted
ended_counted s (Listed es) off = let z = after_listed_plan (facts_of s) 1 es (start_world (facts_of s)) in final_counted s (drained_world (work (facts_of s) z.pipeline) (facts_of s) z) off
ended_counted s (Picked start steps) off = let z = after_picked_plan steps (facts_of s) start (start_world (facts_of s)) in final_counted s (drained_world (work (facts_of s) z.pipeline) (facts_of s) z) off
