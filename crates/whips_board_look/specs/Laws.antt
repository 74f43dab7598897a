-- Laws on what is read of a board.
use Rattle.std.specs.Prelude.{◌≡◌, ℕ, ◌+◌, ◌*◌, ◌/◌, ◌<◌, ◌≤◌, List, length, map, take}
use Rattle.std.specs.List.{range_with_len}
use Rattle.whips_flow.specs.Staleness.{IsStale}
use Rattle.whips_setup.specs.Setups.{SetupData}
use Rattle.whips_setup.specs.Refusals.{IsSetup}
use Rattle.whips_vnl.specs.Records.{Seen, seen_row, seen_nothing, seen_past}
use Rattle.whips_board.specs.declared.view.Entry.{Entry}
use Rattle.whips_board.specs.History.{words_after, IsLawful, Explains}
use Rattle.whips_store.specs.Reads.{Log}
use Rattle.whips_session.specs.Laws.{PhaseLoads}
use Rattle.whips_session.specs.Reads.{FetchSays}
use Rattle.whips_slot_words.specs.Words.{view_shape, phase_of, seen_at, IsLiveAt}
use Rattle.whips_slot_words.specs.Stores.{IsAllowed}
use Rattle.whips_slot_words.specs.Loads.{loads_of}
use Rattle.whips_slot_words.specs.StoreLaws.{shape_of}
use Rattle.whips_slots.specs.Boards.{first_words}
use Rattle.whips_board_look.specs.Looks.{BoardBase, view_slots, look_phase_says, look_row_says}

-- ---- how many loads

-- the row words that are loaded of a row of this width, where it was seen
abbrev pub words_seen : ℕ → Seen → ℕ
words_seen width (seen_row t) = width
words_seen width seen_nothing = 0
words_seen width seen_past = 0

-- A phase is one load. A slot is a load for each version that stays readable, and one for each column exactly where a row is seen.
pub record LoadsAreCounted : Type 0 where
  pub phase : (base : BoardBase) (log : Log) (at phase next : ℕ) → look_phase_says base log at phase next → next ≡ at + 1
  pub row : (base : BoardBase) (log : Log) (at x i v : ℕ) (seen : Seen) (next : ℕ) → look_row_says base log at x i v seen next → next ≡ at + (base.0.versions + words_seen (view_shape (shape_of base.0) x).width seen)
  pub phase_loads : PhaseLoads look_phase_says

-- A fetch of k slots is at most k times the versions and columns, and one load more.
abbrev pub FetchesAreBounded : Type 0
FetchesAreBounded = (base : BoardBase) (log : Log) (at x i v : ℕ) (seen : List Seen) (phase next : ℕ) → FetchSays look_phase_says look_row_says base log at x i v seen phase next
    → next ≤ at + length seen * (base.0.versions + (view_shape (shape_of base.0) x).width) + 1

-- ---- what was read

-- The log of an eye, and a lawful history from the first words of a setup's board that explains it.
pub record IsExplainedBy (setup : SetupData) (history : List (ℕ × ℕ)) (log : List Entry) : Type 0 where
  pub setup_holds : IsSetup setup
  pub lawful : IsLawful (IsAllowed (shape_of setup)) (first_words setup) history
  pub explained : Explains (first_words setup) history log

-- A fetch that isn't expired read whole slots: where the session's phase was read earlier in the same log, it saw in each slot what is there at the session's version after every prefix at whose phase that version is live.
abbrev pub FetchesReadSlots : Type 0
FetchesReadSlots = (base : BoardBase) (history : List (ℕ × ℕ)) (log : List Entry) → IsExplainedBy base.0 history log
    → (start started p at x i v q next : ℕ) (seen : List Seen)
    → look_phase_says base (loads_of log) start p started → 2 * v ≤ p → started ≤ at
    → FetchSays look_phase_says look_row_says base (loads_of log) at x i v seen q next → (IsStale base.0.versions v q → ⊥)
    → x < length base.0.views → i + length seen ≤ view_slots base.0 x
    → (count : ℕ) → IsLiveAt base.0.versions (phase_of (words_after (first_words base.0) (take count history))) v
    → seen ≡ map (λ j. seen_at (shape_of base.0) (words_after (first_words base.0) (take count history)) x j v) (range_with_len i (length seen))

-- So it saw in each slot what was there after one and the same prefix, at the phase by which the session got its version.
abbrev pub FetchesReadStarts : Type 0
FetchesReadStarts = (base : BoardBase) (history : List (ℕ × ℕ)) (log : List Entry) → IsExplainedBy base.0 history log
    → (start started p at x i q next : ℕ) (seen : List Seen)
    → look_phase_says base (loads_of log) start p started → started ≤ at
    → FetchSays look_phase_says look_row_says base (loads_of log) at x i (p / 2) seen q next → (IsStale base.0.versions (p / 2) q → ⊥)
    → x < length base.0.views → i + length seen ≤ view_slots base.0 x
    → (count : ℕ) × (count ≤ length history) × (p ≡ phase_of (words_after (first_words base.0) (take count history)))
    × (seen ≡ map (λ j. seen_at (shape_of base.0) (words_after (first_words base.0) (take count history)) x j (p / 2)) (range_with_len i (length seen)))

-- The phase that is read is the one after some prefix.
abbrev pub PhasesAreRead : Type 0
PhasesAreRead = (base : BoardBase) (history : List (ℕ × ℕ)) (log : List Entry) → IsExplainedBy base.0 history log → (at p next : ℕ) → look_phase_says base (loads_of log) at p next
    → (count : ℕ) × (count ≤ length history) × (p ≡ phase_of (words_after (first_words base.0) (take count history)))
