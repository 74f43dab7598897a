-- The words on a board.
use Rattle.std.specs.Prelude.{ℕ, ◌+◌, List}
use Rattle.whips_model.specs.Tuples.{Codes}
use Rattle.whips_board.specs.History.{words_after}
use Rattle.whips_board.specs.Seats.{PenState}
use Rattle.whips_slot_words.specs.Words.{Shape}
use Rattle.whips_slot_words.specs.Loads.{words_at}

-- the words on a pen's board, after all its stores
abbrev pub words_now : PenState Shape → List ℕ
words_now pen = words_after pen.board.first pen.history

-- the stores of a row's words at the places from this one on
abbrev pub row_stores : ℕ → Codes → List (ℕ × ℕ)
row_stores place row = words_at (λ k. place + k) 0 row
