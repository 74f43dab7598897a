-- The summary of a run.
use Rattle.std.specs.Prelude.{ℕ, ◌-◌, Bool, true, false, List, [], ◌∷◌, length, map, filter, codes, decimal}
use Rattle.whips_flow.specs.State.{version_cuts}
use Rattle.whips_runs.specs.Records.{RunRecord, more, read, expired}
use Rattle.whips_runs.specs.World.{World}
use Rattle.whips_facts.specs.Scripts.{Script, Bytes, Labels}
use Rattle.whips_facts.specs.ScriptFacts.{facts_of}
use Rattle.whips_reports.specs.Lines.{words, counts_words}

abbrev pub is_read : RunRecord → Bool
is_read (read s x v phase) = true
is_read _ = false

abbrev pub is_more : RunRecord → Bool
is_more (more s x v phase slots) = true
is_more _ = false

abbrev pub is_expired : RunRecord → Bool
is_expired (expired s x v phase) = true
is_expired _ = false

-- how many records of the run are of this kind
abbrev pub record_count : (RunRecord → Bool) → World → ℕ
record_count test w = length (filter test w.records)

-- what a summary tells of a run: the versions after the first, the fetches by how they ended, the rows of each view at the end, and all transactions of each source
pub record Counts : Type 0 where
  pub versions : ℕ
  pub reads : ℕ
  pub more : ℕ
  pub expired : ℕ
  pub rows : List ℕ
  pub transactions : List ℕ

abbrev pub counts_of : Script → World → Counts
counts_of s w = record {
  versions = length (version_cuts w.pipeline) - 1;
  reads = record_count is_read w;
  more = record_count is_more w;
  expired = record_count is_expired w;
  rows = (facts_of s).row_counts (map length s.work);
  transactions = map length s.work;
}

-- four lines: what was made, the updates, the versions with the rows at the end, the fetches, and the transactions
abbrev pub counted_lines : (start size : ℕ) → Labels → Counts → List Bytes
counted_lines start size l c =
    words (codes "make" ∷ decimal start ∷ decimal size ∷ [])
    ∷ words (codes "updates" ∷ decimal size ∷ codes "versions" ∷ decimal c.versions ∷ codes "rows" ∷ counts_words l.views c.rows)
    ∷ words (codes "reads" ∷ decimal c.reads ∷ codes "more" ∷ decimal c.more ∷ codes "expired" ∷ decimal c.expired ∷ [])
    ∷ words (codes "final" ∷ counts_words l.sources c.transactions)
    ∷ []

-- the summary of a run of a made script; own
abbrev pub summary_lines : (start size : ℕ) → Script → Labels → World → List Bytes
summary_lines start size s l w = counted_lines start size l (counts_of s w)
