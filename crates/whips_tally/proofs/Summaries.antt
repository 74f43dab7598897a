-- The counts of a sink are those of the summary: `summary_counted`.
--
-- The idea: each version record has one cut of the pipeline's versions, so there are as many of both.
use Rattle.std.proofs.Common.{◌≡◌, ℕ, suc, ◌-◌, List, [], ◌∷◌, ◌++◌, length, refl, sym, ap, ◌∙◌}
use Rattle.std.specs.Prelude.{map, filter}
use Rattle.whips_runs.specs.Records.{RunRecord, version, skip, opened, more, read, expired, full, final, final_rows}
use Rattle.whips_reports.specs.Reported.{run_of}
use Rattle.whips_reports.specs.Summary.{Counts, counts_of}
use Rattle.whips_headline_laws.specs.Headline.{printed_cuts}
use Rattle.whips_headline_laws.proofs.Meets.{printed_versions}
use Rattle.whips_tally.specs.Tallies.{is_version, counts_from, tally_of, SummariesAreCounted}
use Rattle.whips_tally.proofs.Ended.{ended_counted}

versions_printed : (rs : List RunRecord) → length (printed_cuts rs) ≡ length (filter is_version rs)
versions_printed [] = refl
versions_printed (version n cut counts ∷ rs) = ap suc (versions_printed rs)
versions_printed (skip k e ∷ rs) = versions_printed rs
versions_printed (opened s v phase ∷ rs) = versions_printed rs
versions_printed (more s x v phase slots ∷ rs) = versions_printed rs
versions_printed (read s x v phase ∷ rs) = versions_printed rs
versions_printed (expired s x v phase ∷ rs) = versions_printed rs
versions_printed (full shortage ∷ rs) = versions_printed rs
versions_printed (final counts ∷ rs) = versions_printed rs
versions_printed (final_rows x ∷ rs) = versions_printed rs

pub summary_counted : SummariesAreCounted
summary_counted s plan goes_on =
    let w = run_of s plan in
    let as_many = sym (versions_printed w.records) ∙ ap length (printed_versions s plan) in
    ap (λ t. counts_from t (map length s.work)) (ended_counted s plan goes_on)
    ∙ ap (λ n. record {
      versions = n - 1;
      reads = (counts_of s w).reads;
      more = (counts_of s w).more;
      expired = (counts_of s w).expired;
      rows = (counts_of s w).rows;
      transactions = map length s.work;
    }) as_many
