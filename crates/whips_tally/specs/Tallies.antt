-- What a sink counts of the records of a run.
use Rattle.std.specs.Prelude.{◌≡◌, ℕ, suc, ◌-◌, Bool, true, false, List, [], ◌∷◌, ◌++◌, length, map, fold}
use Rattle.whips_runs.specs.Records.{RunRecord, version, skip, opened, more, read, expired, full, final, final_rows}
use Rattle.whips_runs.specs.World.{World}
use Rattle.whips_facts.specs.Scripts.{Script}
use Rattle.whips_facts.specs.ScriptFacts.{facts_of}
use Rattle.whips_setup.specs.declared.plan.Plan.{Plan}
use Rattle.whips_reports.specs.Reported.{Reported, reported, run_of}
use Rattle.whips_reports.specs.Summary.{is_read, is_more, is_expired, record_count, Counts, counts_of}

-- how many versions, and how many fetches of each end there were, and the rows of each view at the end
pub record Tally : Type 0 where
  pub versions : ℕ
  pub reads : ℕ
  pub more : ℕ
  pub expired : ℕ
  pub rows : List ℕ

abbrev pub no_tally : Tally
no_tally = record { versions = 0; reads = 0; more = 0; expired = 0; rows = [] }

-- the counts after one more record, which has so many rows; the views at the end come behind the final record
abbrev pub counted : Tally → RunRecord → ℕ → Tally
counted t (version n cut counts) rows = record t { versions = suc t.versions }
counted t (skip k e) rows = t
counted t (opened s v phase) rows = t
counted t (more s x v phase slots) rows = record t { more = suc t.more }
counted t (read s x v phase) rows = record t { reads = suc t.reads }
counted t (expired s x v phase) rows = record t { expired = suc t.expired }
counted t (full shortage) rows = t
counted t (final counts) rows = record t { rows = [] }
counted t (final_rows x) rows = record t { rows = t.rows ++ rows ∷ [] }

abbrev pub counted_one : Tally → Reported → Tally
counted_one t r = counted t r.entry (length r.rows)

abbrev pub tally_after : Tally → List Reported → Tally
tally_after t rs = fold counted_one t rs

abbrev pub is_version : RunRecord → Bool
is_version (version n cut counts) = true
is_version _ = false

-- what is counted of a run that isn't full: its records by kind, and each view's rows at the end; own
abbrev pub tally_of : Script → World → Tally
tally_of s w = record {
  versions = record_count is_version w;
  reads = record_count is_read w;
  more = record_count is_more w;
  expired = record_count is_expired w;
  rows = (facts_of s).row_counts (map length s.work);
}

-- a sink that was told the report of a run that isn't full has counted its records and the rows at its end
abbrev pub RunsAreCounted : Type 0
RunsAreCounted = (s : Script) (plan : Plan) → (run_of s plan).is_full ≡ false → tally_after no_tally (reported s (run_of s plan)) ≡ tally_of s (run_of s plan)

-- what a summary tells, by the counts of a sink and the transactions of each source; version 0 isn't told
abbrev pub counts_from : Tally → List ℕ → Counts
counts_from t transactions = record {
  versions = t.versions - 1;
  reads = t.reads;
  more = t.more;
  expired = t.expired;
  rows = t.rows;
  transactions = transactions;
}

-- the summary of a run that isn't full is told by what a sink counted of its report
abbrev pub SummariesAreCounted : Type 0
SummariesAreCounted = (s : Script) (plan : Plan) → (run_of s plan).is_full ≡ false
    → counts_from (tally_after no_tally (reported s (run_of s plan))) (map length s.work) ≡ counts_of s (run_of s plan)
