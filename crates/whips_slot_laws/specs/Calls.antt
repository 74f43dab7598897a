-- Calls of a store whose words are on a board.
use Rattle.std.specs.Prelude.{◌≡◌, ℕ, suc, ◌%◌, List, [], ◌∷◌, ◌++◌, None}
use Rattle.whips_model.specs.Tuples.{Codes}
use Rattle.whips_rel.specs.declared.update.Change.{Change}
use Rattle.whips_setup.specs.Setups.{SetupData}
use Rattle.whips_setup.specs.Refusals.{IsSetup}
use Rattle.whips_board.specs.History.{words_after}
use Rattle.whips_store.specs.Stores.{StoreState, ChangeLists, view_in, changes_left}
use Rattle.whips_store.specs.Calls.{AreNet, shortage, begun, changed_once, published}
use Rattle.whips_store.specs.First.{store_at_first}
use Rattle.whips_store.specs.Sound.{IsSoundStore}
use Rattle.whips_store_laws.specs.Laws.{AreTables}
use Rattle.whips_faithful_laws.specs.Laws.{LeadToNext, initial_values}
use Rattle.whips_slot_words.specs.Words.{Shape, phase_of, layout}
use Rattle.whips_slot_words.specs.Laws.{AreFirstRows}
use Rattle.whips_slot_words.specs.Slots.{change_stores}
use Rattle.whips_slot_words.specs.StoreLaws.{IsNextChange, shape_of, first_values}
use Rattle.whips_slot_laws.specs.Histories.{IsFaithfulHistory, HoldsFaithful}

-- A faithful history after which the words hold this sound and faithful store.
pub record Carries (shape : Shape) (first : List ℕ) (keys : ℕ → List ℕ) (values : ℕ → ℕ → List Codes) (history : List (ℕ × ℕ)) (s : StoreState) : Type 0 where
  pub faithful : IsFaithfulHistory shape first keys values history
  pub held : HoldsFaithful shape (words_after first history) keys values s
  pub sound : IsSoundStore s

-- the store of a phase one higher
abbrev pub phase_store : List ℕ → List (ℕ × ℕ) → List (ℕ × ℕ)
phase_store first history = history ++ (0, suc (phase_of (words_after first history))) ∷ []

-- A begin that leads to the values at the next version is one store of the phase.
abbrev pub BeginIsCarried : Type 0
BeginIsCarried = (shape : Shape) (first : List ℕ) (keys : ℕ → List ℕ) (values : ℕ → ℕ → List Codes) (history : List (ℕ × ℕ)) (s : StoreState) (cs : ChangeLists) → Carries shape first keys values history s
    → s.phase % 2 ≡ 0 → AreNet s.views cs → AreTables cs → shortage s cs ≡ None → LeadToNext values s cs → Carries shape first keys values (phase_store first history) (begun cs s)

-- A publish is one store of the phase.
abbrev pub PublishIsCarried : Type 0
PublishIsCarried = (shape : Shape) (first : List ℕ) (keys : ℕ → List ℕ) (values : ℕ → ℕ → List Codes) (history : List (ℕ × ℕ)) (s : StoreState) → Carries shape first keys values history s
    → s.phase % 2 ≡ 1 → changes_left s ≡ 0 → Carries shape first keys values (phase_store first history) (published s)

-- The next change is its stores in its slot.
abbrev pub ChangeIsCarried : Type 0
ChangeIsCarried = (shape : Shape) (first : List ℕ) (keys : ℕ → List ℕ) (values : ℕ → ℕ → List Codes) (history : List (ℕ × ℕ)) (s : StoreState) (x i : ℕ) (change : Change) (others : List Change) → Carries shape first keys values history s
    → IsNextChange s x i change others → Carries shape first keys values (history ++ change_stores shape (words_after first history) x i change) (changed_once s)

-- The values of a setup's views on its initial relations fit into the slots.
abbrev pub FirstRowsFit : Type 0
FirstRowsFit = (setup : SetupData) → IsSetup setup → AreFirstRows (shape_of setup).views (first_values setup.initial setup.views setup.slots)

-- The first words of a setup's board carry the store at version 0.
abbrev pub FirstIsCarried : Type 0
FirstIsCarried = (setup : SetupData) → IsSetup setup
    → Carries (shape_of setup) (layout (shape_of setup) (first_values setup.initial setup.views setup.slots)) (λ x. (view_in (store_at_first setup) x).columns.key) (initial_values setup) [] (store_at_first setup)
