-- What contracts see of a board, its pen, an eye and a note.
use Rattle.std.specs.Prelude.{ℕ, List}
use Rattle.atomic_table.specs.Seated.{TableId}
use Rattle.whips_board.specs.declared.view.Entry.{Entry}

-- which board it is, its law and its first words
pub record BoardId (L : Type 0) : Type 0 where
  pub table : TableId
  pub law : L
  pub first : List ℕ

-- a pen: its board and all its stores
pub record PenState (L : Type 0) : Type 0 where
  pub board : BoardId L
  pub history : List (ℕ × ℕ)

-- an eye: its board, and its loads and the notes that it learnt
pub record EyeState (L : Type 0) : Type 0 where
  pub board : BoardId L
  pub log : List Entry

-- a note: its board, and the stores of the pen when it was made
pub record NoteState (L : Type 0) : Type 0 where
  pub board : BoardId L
  pub history : List (ℕ × ℕ)
