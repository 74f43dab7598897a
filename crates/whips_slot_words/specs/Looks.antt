-- What a reader's calls say by the loads in its log.
use Rattle.std.specs.Prelude.{◌≡◌, ℕ, suc, ◌+◌, ◌-◌, ◌*◌, ◌≤◌, List, [], ◌∷◌, ◌++◌, length, map, take, drop, ◌<◌}
use Rattle.std.specs.List.{range_with_len}
use Rattle.whips_vnl.specs.Records.{Seen}
use Rattle.whips_board.specs.declared.view.Entry.{Entry}
use Rattle.whips_board.specs.History.{words_after, IsLawful, Explains}
use Rattle.whips_store.specs.Reads.{Log, PhaseSays, RowSays, PhaseStays, RowStays, PhaseIsDetermined, RowIsDetermined}
use Rattle.whips_flow.specs.Staleness.{last_phase}
use Rattle.whips_slot_words.specs.Words.{Shape, view_shape, IsSlotOf, phase_of, seen_at, IsLiveAt}
use Rattle.whips_slot_words.specs.Stores.{IsAllowed, HasHeaders}
use Rattle.whips_slot_words.specs.Loads.{loads_of, ReadsSlot}

-- one load of the phase
abbrev pub board_phase_says : PhaseSays Shape
board_phase_says shape log at phase next = (rest : Log) × (drop at log ≡ (0, phase) ∷ rest) × (at ≤ length log) × (next ≡ suc at)

-- the loads of a slot
abbrev pub board_row_says : RowSays Shape
board_row_says shape log at x i v seen next =
    (loads rest : Log) × (drop at log ≡ loads ++ rest) × (at ≤ length log) × (next ≡ at + length loads) × ReadsSlot shape x i v loads seen

-- The relations are those of a reader's side of a store: what they say of a log they say of a longer one, and they determine the answer.
abbrev pub LooksAreLawful : Type 0
LooksAreLawful = (PhaseStays board_phase_says × RowStays board_row_says) × (PhaseIsDetermined board_phase_says × RowIsDetermined board_row_says)

-- In the log of an eye that a lawful history explains: a phase read at which v was committed, later a slot read at v, and later a phase read at which v isn't stale. The slot was read as it is at v after each prefix at whose phase v is live.
abbrev pub TornLooksAreWhole : Type 0
TornLooksAreWhole = (shape : Shape) (first : List ℕ) (history : List (ℕ × ℕ)) (log : List Entry) → 1 ≤ shape.versions → HasHeaders shape first → IsLawful (IsAllowed shape) first history → Explains first history log
    → (start started row read last ended p q x i v count : ℕ) (seen : Seen)
    → board_phase_says shape (loads_of log) start p started → board_row_says shape (loads_of log) row x i v seen read → board_phase_says shape (loads_of log) last q ended
    → started ≤ row → read ≤ last → 2 * v ≤ p → q ≤ last_phase shape.versions v
    → IsSlotOf shape x i → IsLiveAt shape.versions (phase_of (words_after first (take count history))) v
    → seen ≡ seen_at shape (words_after first (take count history)) x i v

-- the loads of slots one after another, from slot i on: what was seen in each
abbrev pub board_rows_say : Shape → Log → ℕ → ℕ → ℕ → ℕ → List Seen → ℕ → Type 0
board_rows_say shape log at x i v [] next = (at ≤ length log) × (next ≡ at)
board_rows_say shape log at x i v (seen ∷ seens) next = (after : ℕ) × board_row_says shape log at x i v seen after × board_rows_say shape log after x (suc i) v seens next

-- The phase that is read is the one after some prefix of the history.
abbrev pub PhasesAreOfPrefixes : Type 0
PhasesAreOfPrefixes = (shape : Shape) (first : List ℕ) (history : List (ℕ × ℕ)) (log : List Entry) → Explains first history log → (at p next : ℕ) → board_phase_says shape (loads_of log) at p next
    → (count : ℕ) × (count ≤ length history) × (p ≡ phase_of (words_after first (take count history)))

-- A fetch that isn't expired: a phase at which v was committed was read before it, slots are read in order, and the phase that is read after them is one at which v isn't stale. What was seen is what the slots show at v after each prefix at whose phase v is live.
abbrev pub FetchesAreWhole : Type 0
FetchesAreWhole = (shape : Shape) (first : List ℕ) (history : List (ℕ × ℕ)) (log : List Entry) → 1 ≤ shape.versions → HasHeaders shape first → IsLawful (IsAllowed shape) first history → Explains first history log
    → (start started rows read last ended p q x i v count : ℕ) (seens : List Seen)
    → board_phase_says shape (loads_of log) start p started → board_rows_say shape (loads_of log) rows x i v seens read → board_phase_says shape (loads_of log) last q ended
    → started ≤ rows → read ≤ last → 2 * v ≤ p → q ≤ last_phase shape.versions v
    → x < length shape.views → i + length seens ≤ (view_shape shape x).slots → IsLiveAt shape.versions (phase_of (words_after first (take count history))) v
    → seens ≡ map (λ j. seen_at shape (words_after first (take count history)) x j v) (range_with_len i (length seens))
