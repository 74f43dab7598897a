-- A reader's side of the board of a setup.
use Rattle.std.specs.Prelude.{◌≡◌, ℕ, List, map, slice_index, slice_index_or}
use Rattle.whips_model.specs.Tuples.{Columns}
use Rattle.whips_view.specs.ViewDefs.{row_columns, no_columns}
use Rattle.whips_setup.specs.Setups.{SetupData}
use Rattle.whips_board.specs.declared.view.Entry.{Entry}
use Rattle.whips_board.specs.Seats.{BoardId}
use Rattle.whips_store.specs.Reads.{PhaseSays, RowSays, PhaseStays, RowStays, PhaseIsDetermined, RowIsDetermined}
use Rattle.whips_slot_words.specs.Words.{Shape}
use Rattle.whips_slot_words.specs.Looks.{board_phase_says, board_row_says}
use Rattle.whips_slot_words.specs.StoreLaws.{shape_of}
use Rattle.whips_slot_words.proofs.Looks.{lawful}
use Rattle.whips_slots.specs.Boards.{first_words}

-- what contracts see of it: the setup, which board it is, and what its eye did
pub record LookState : Type 0 where
  pub setup : SetupData
  pub board : BoardId Shape
  pub log : List Entry

-- the board has the setup's law and first words
pub record IsBoardOf (setup : SetupData) (board : BoardId Shape) : Type 0 where
  pub law : board.law ≡ shape_of setup
  pub first : board.first ≡ first_words setup

-- what no call changes: the setup, and which board it is
abbrev pub BoardBase : Type 0
BoardBase = SetupData × BoardId Shape

-- the slots of a view
abbrev pub view_slots : SetupData → ℕ → ℕ
view_slots setup x = slice_index setup.slots x

-- the columns of a view's rows
abbrev pub view_columns : SetupData → ℕ → Columns
view_columns setup x = slice_index_or (map row_columns setup.views) x no_columns

-- ---- what the loads say

abbrev pub look_phase_says : PhaseSays BoardBase
look_phase_says base = board_phase_says (shape_of base.0)

abbrev pub look_row_says : RowSays BoardBase
look_row_says base = board_row_says (shape_of base.0)

pub look_phase_stays : PhaseStays look_phase_says
look_phase_stays base = lawful.0.0 (shape_of base.0)

pub look_row_stays : RowStays look_row_says
look_row_stays base = lawful.0.1 (shape_of base.0)

pub look_phase_is_determined : PhaseIsDetermined look_phase_says
look_phase_is_determined base = lawful.1.0 (shape_of base.0)

pub look_row_is_determined : RowIsDetermined look_row_says
look_row_is_determined base = lawful.1.1 (shape_of base.0)
