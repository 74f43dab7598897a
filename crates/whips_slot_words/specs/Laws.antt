-- Laws on the words of slots.
use Rattle.std.specs.Prelude.{◌≡◌, ◌≢◌, ℕ, ◌+◌, ◌-◌, ◌*◌, ◌<◌, ◌≤◌, List, [], ◌∷◌, ◌++◌, length, take, slice_index}
use Rattle.std.specs.List.{AllByRecursion}
use Rattle.whips_model.specs.Tuples.{Codes}
use Rattle.whips_vnl.specs.Records.{Seen, seen_past}
use Rattle.whips_board.specs.declared.view.Entry.{Entry}
use Rattle.whips_board.specs.History.{words_after, IsLawful, Explains}
use Rattle.whips_flow.specs.Staleness.{last_phase}
use Rattle.whips_slot_words.specs.Words.{Shape, ViewShape, IsSlotOf, phase_of, headers, greatest, taken, target_of, version_of, seen_at, pick, IsLiveAt, layout}
use Rattle.whips_slot_words.specs.Stores.{IsUnwritten, IsAllowed, HasHeaders}
use Rattle.whips_slot_words.specs.Loads.{loads_of, ReadsSlot}

-- the words after the first count stores
abbrev pub words_then : List ℕ → List (ℕ × ℕ) → ℕ → List ℕ
words_then first history count = words_after first (take count history)

-- Headers stay headers along a lawful history.
abbrev pub HeadersStay : Type 0
HeadersStay = (shape : Shape) (first : List ℕ) (history : List (ℕ × ℕ)) → 1 ≤ shape.versions → HasHeaders shape first → IsLawful (IsAllowed shape) first history → HasHeaders shape (words_after first history)

-- What a slot shows at v is the same after all prefixes at whose phases v is live.
abbrev pub PicksStay : Type 0
PicksStay = (shape : Shape) (first : List ℕ) (history : List (ℕ × ℕ)) → 1 ≤ shape.versions → HasHeaders shape first → IsLawful (IsAllowed shape) first history
    → (x i v k l : ℕ) → IsSlotOf shape x i
    → IsLiveAt shape.versions (phase_of (words_then first history k)) v → IsLiveAt shape.versions (phase_of (words_then first history l)) v
    → seen_at shape (words_then first history k) x i v ≡ seen_at shape (words_then first history l) x i v

-- At a live version no slot is past.
abbrev pub LiveIsNotPast : Type 0
LiveIsNotPast = (shape : Shape) (words : List ℕ) → 1 ≤ shape.versions → HasHeaders shape words → (x i v : ℕ) → IsSlotOf shape x i → IsLiveAt shape.versions (phase_of words) v → seen_at shape words x i v ≢ seen_past

-- While a change may be stored in a slot, from its first row word to before its header, no reader at a live version takes the entry that is written.
abbrev pub TargetsAreNotTaken : Type 0
TargetsAreNotTaken = (shape : Shape) (words : List ℕ) → 1 ≤ shape.versions → HasHeaders shape words → (x i v : ℕ) → IsUnwritten shape words x i → IsLiveAt shape.versions (phase_of words) v
    → greatest v (headers shape words x i) ≢ 0 → taken v (headers shape words x i) ≢ target_of (headers shape words x i)

-- A reader that loaded a phase at which v was committed, then read a slot, and then loaded a phase at which v isn't stale, read what the slot shows at v after each prefix at whose phase v is live: though each word was loaded at a moment of its own.
abbrev pub TornReadsAreWhole : Type 0
TornReadsAreWhole = (shape : Shape) (first : List ℕ) (history : List (ℕ × ℕ)) (log : List Entry) → 1 ≤ shape.versions → HasHeaders shape first → IsLawful (IsAllowed shape) first history → Explains first history log
    → (before between loads later after : List (ℕ × ℕ)) (p q x i v count : ℕ) (seen : Seen)
    → loads_of log ≡ before ++ ((0, p) ∷ (between ++ (loads ++ (later ++ ((0, q) ∷ after)))))
    → 2 * v ≤ p → q ≤ last_phase shape.versions v
    → IsSlotOf shape x i → ReadsSlot shape x i v loads seen
    → IsLiveAt shape.versions (phase_of (words_then first history count)) v
    → seen ≡ seen_at shape (words_then first history count) x i v

-- each row has the view's width, and there are slots for all of them
abbrev pub AreFirstRows : List ViewShape → List (List Codes) → Type 0
AreFirstRows [] [] = Unit {0}
AreFirstRows (v ∷ vs) (rows ∷ more) = (AllByRecursion (λ t. length t ≡ v.width) rows × (length rows ≤ v.slots)) × AreFirstRows vs more
AreFirstRows _ _ = ⊥

-- The first words have headers.
abbrev pub LayoutHasHeaders : Type 0
LayoutHasHeaders = (shape : Shape) (values : List (List Codes)) → 1 ≤ shape.versions → AreFirstRows shape.views values → HasHeaders shape (layout shape values)

-- ---- from the first words on

-- What a slot keeps along a history: no header has a version above the one that is written; two headers are equal only where both are 0; and what a reader at v takes is the same after all prefixes at whose phases v is live.
pub record KeepsSlot (shape : Shape) (first : List ℕ) (history : List (ℕ × ℕ)) (x i : ℕ) : Type 0 where
  pub versions : (c a e : ℕ) → phase_of (words_after first history) ≡ 2 * c + a → a ≤ 1 → e < shape.versions → version_of (slice_index (headers shape (words_after first history) x i) e) ≤ c + a
  pub equal : (e d : ℕ) → e < shape.versions → d < shape.versions → e ≢ d → slice_index (headers shape (words_after first history) x i) e ≡ slice_index (headers shape (words_after first history) x i) d → slice_index (headers shape (words_after first history) x i) e ≡ 0
  pub picks : (v k l : ℕ) → IsLiveAt shape.versions (phase_of (words_then first history k)) v → IsLiveAt shape.versions (phase_of (words_then first history l)) v → pick shape (words_then first history k) x i v ≡ pick shape (words_then first history l) x i v

-- A lawful history from the first words keeps each slot.
abbrev pub HistoriesKeepSlots : Type 0
HistoriesKeepSlots = (shape : Shape) (values : List (List Codes)) (history : List (ℕ × ℕ)) → 1 ≤ shape.versions → AreFirstRows shape.views values → IsLawful (IsAllowed shape) (layout shape values) history
    → (x i : ℕ) → IsSlotOf shape x i → KeepsSlot shape (layout shape values) history x i
