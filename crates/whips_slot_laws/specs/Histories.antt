-- Histories of a board whose slots show the values of views.
use Rattle.std.specs.Prelude.{◌≡◌, ◌↔◌, ℕ, suc, ◌<◌, ◌≤◌, List, [], ◌∷◌, ◌++◌, length, take}
use Rattle.std.specs.List.{filter_map, range_with_len}
use Rattle.whips_model.specs.Tuples.{Codes}
use Rattle.whips_board.specs.History.{words_after, IsLawful}
use Rattle.whips_store.specs.Stores.{StoreState, view_in}
use Rattle.whips_faithful_laws.specs.Faithful.{IsLiveVersion, AreRowsOf, IsFaithful}
use Rattle.whips_slot_words.specs.Words.{Shape, view_shape, phase_of, pick, IsLiveAt}
use Rattle.whips_slot_words.specs.Stores.{IsAllowed}
use Rattle.whips_slot_words.specs.StoreLaws.{HoldsStore}

-- the rows picked at v over the slots of view x
abbrev pub rows_picked : Shape → List ℕ → ℕ → ℕ → List Codes
rows_picked shape words x v = filter_map (λ i. pick shape words x i v) (range_with_len 0 (view_shape shape x).slots)

-- A history that is faithful to values: it is lawful, and after each prefix the rows picked at a version that is live there are the view's values at it.
pub record IsFaithfulHistory (shape : Shape) (first : List ℕ) (keys : ℕ → List ℕ) (values : ℕ → ℕ → List Codes) (history : List (ℕ × ℕ)) : Type 0 where
  pub lawful : IsLawful (IsAllowed shape) first history
  pub shown : (k x v : ℕ) → x < length shape.views → IsLiveAt shape.versions (phase_of (words_after first (take k history))) v → AreRowsOf (keys x) (values x v) (rows_picked shape (words_after first (take k history)) x v)

-- a faithful store that the words hold, with these key columns
pub record HoldsFaithful (shape : Shape) (words : List ℕ) (keys : ℕ → List ℕ) (values : ℕ → ℕ → List Codes) (s : StoreState) : Type 0 where
  pub store : HoldsStore shape words s
  pub faithful : IsFaithful values s
  pub same_keys : (x : ℕ) → x < length s.views → (view_in s x).columns.key ≡ keys x

-- The empty history is faithful where the first words hold a faithful store.
abbrev pub EmptyIsFaithful : Type 0
EmptyIsFaithful = (shape : Shape) (first : List ℕ) (keys : ℕ → List ℕ) (values : ℕ → ℕ → List Codes) (s : StoreState) → 1 ≤ shape.versions → HoldsFaithful shape first keys values s → IsFaithfulHistory shape first keys values []

-- A faithful history stays faithful through the stores of a change, after each of them.
abbrev pub ChangesGoOn : Type 0
ChangesGoOn = (shape : Shape) (first : List ℕ) (keys : ℕ → List ℕ) (values : ℕ → ℕ → List Codes) (history stores : List (ℕ × ℕ)) (s : StoreState) → 1 ≤ shape.versions
    → IsFaithfulHistory shape first keys values history → HoldsFaithful shape (words_after first history) keys values s
    → IsLawful (IsAllowed shape) (words_after first history) stores → phase_of (words_after (words_after first history) stores) ≡ phase_of (words_after first history)
    → IsFaithfulHistory shape first keys values (history ++ stores)

-- A faithful history stays faithful when the phase is stored, where the words afterwards hold a faithful store.
abbrev pub PhasesGoOn : Type 0
PhasesGoOn = (shape : Shape) (first : List ℕ) (keys : ℕ → List ℕ) (values : ℕ → ℕ → List Codes) (history : List (ℕ × ℕ)) (t : StoreState) → 1 ≤ shape.versions
    → IsFaithfulHistory shape first keys values history → HoldsFaithful shape (words_after first (history ++ (0, suc (phase_of (words_after first history))) ∷ [])) keys values t
    → IsFaithfulHistory shape first keys values (history ++ (0, suc (phase_of (words_after first history))) ∷ [])

-- A version is live on words exactly where it is live in a store at their phase.
abbrev pub LiveIsLive : Type 0
LiveIsLive = (n phase v : ℕ) → IsLiveAt n phase v ↔ IsLiveVersion n phase v
