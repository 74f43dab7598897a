-- A store whose words stand on a board.
use Rattle.std.specs.Prelude.{◌≡◌, ℕ, suc, ◌/◌, ◌<◌, ◌≤◌, ◌^◌, ◌++◌, List, length, Some}
use Rattle.whips_rel.specs.declared.update.Change.{Change}
use Rattle.whips_board.specs.Seats.{BoardId, PenState}
use Rattle.whips_setup.specs.Setups.{SetupData}
use Rattle.whips_store.specs.Stores.{StoreState}
use Rattle.whips_slot_words.specs.Words.{Shape}
use Rattle.whips_slot_words.specs.Slots.{change_stores, board_size}
use Rattle.whips_slot_words.specs.StoreLaws.{IsNextChange, shape_of}
use Rattle.whips_slot_laws.specs.Calls.{Carries}
use Rattle.whips_slots.specs.Boards.{first_words}
use Rattle.whips_board_store.specs.Words.{words_now}
use Rattle.whips_board_store.specs.Past.{keys_of, past_on_board, values_told}

-- What contracts see: the setup, which board it is, all stores on it, and the store with the values told that were committed.
pub record BoardState : Type 0 where
  pub setup : SetupData
  pub board : BoardId Shape
  pub history : List (ℕ × ℕ)
  pub state : StoreState

-- the store with the values told that were committed on the board
abbrev pub told : SetupData → List (ℕ × ℕ) → StoreState → StoreState
told setup history s = record s { past = Some (past_on_board setup history) }

-- The history is faithful to the values that it tells, and the words after it hold this store.
abbrev pub CarriesTold : SetupData → List (ℕ × ℕ) → StoreState → Type 0
CarriesTold setup history s = Carries (shape_of setup) (first_words setup) (keys_of setup) (values_told (past_on_board setup history) s) history s

-- What a store on a board keeps: the board is that of the setup, its history carries the store, and each version up to the committed one is told.
pub record IsKept (setup : SetupData) (board : BoardId Shape) (history : List (ℕ × ℕ)) (s : StoreState) : Type 0 where
  pub law : board.law ≡ shape_of setup
  pub first : board.first ≡ first_words setup
  pub size : board_size (shape_of setup) < 2 ^ 32
  pub carried : CarriesTold setup history s
  pub count : length (past_on_board setup history) ≡ suc (s.phase / 2)
  pub phase : s.phase ≤ 2 ^ 62

-- The stores of the next change of a store, in its slot, and no other.
pub record StoresNext (shape : Shape) (s : StoreState) (old new : PenState Shape) : Type 0 where
  pub view : ℕ
  pub slot : ℕ
  pub change : Change
  pub others : List Change
  pub next : IsNextChange s view slot change others
  pub stored : new ≡ record old { history = old.history ++ change_stores shape (words_now old) view slot change }
