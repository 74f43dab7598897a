-- The rule of a board, which holds between any two steps on its words, and what each kind of step does to a view.
use Rattle.std.specs.Prelude.{◌≡◌, ℕ, List, [], ◌∷◌, ◌++◌, All, slice_index}
use mathlib.Core.Option.{some}
use mathlib.Core.List.{IsPrefix}
use lib.ListN.{get_elem?}
use Rattle.atomic_table.specs.Table.{State, Step, Me}
use Rattle.whips_board.specs.declared.view.Origin.{Origin}
use Rattle.whips_board.specs.declared.view.Entry.{Entry}
use Rattle.whips_board.specs.declared.view.Entry.TheVariants.{Loaded, Learnt}
use Rattle.whips_board.specs.declared.view.View.{View}
use Rattle.whips_board.specs.declared.view.View.TheVariants.{Pen, Eye, Note, Spent}
use Rattle.whips_board.specs.History.{words_after, IsLawful, Explains, IsExplained}
use Rattle.whips_board.specs.Seats.{BoardId}

-- which stores a law allows on given words
abbrev pub Allowed : Type 0 → Type 1
Allowed L = L → List ℕ → ℕ → ℕ → Type 0

module _ {L : Type 0} where
  -- what a board was made with
  abbrev pub origin_of : BoardId L → Origin L
  origin_of board = record { law = board.law; first = board.first }

  -- the stores that a view knows
  abbrev pub history_of : View L → List (ℕ × ℕ)
  history_of (Pen origin history logs) = history
  history_of (Eye origin log) = []
  history_of (Note origin history) = history
  history_of Spent = []

  -- what an eye did
  abbrev pub log_of : View L → List Entry
  log_of (Pen origin history logs) = []
  log_of (Eye origin log) = log
  log_of (Note origin history) = []
  log_of Spent = []

  -- the logs that were joined to a pen
  abbrev pub logs_of : View L → List (List Entry)
  logs_of (Pen origin history logs) = logs
  logs_of (Eye origin log) = []
  logs_of (Note origin history) = []
  logs_of Spent = []

  -- What this seat knows is so. The pen is one seat, its stores are the history, and the history explains each log
  abbrev pub Fits : Origin L → List (ℕ × ℕ) → ℕ → ℕ → View L → Type 0
  Fits origin history pen seat (Pen made stores logs) =
      (made ≡ origin) × (seat ≡ pen) × (stores ≡ history) × All (Explains origin.first history) logs
  Fits origin history pen seat (Eye made log) = (made ≡ origin) × Explains origin.first history log
  Fits origin history pen seat (Note made stores) = (made ≡ origin) × IsPrefix stores history
  Fits origin history pen seat Spent = Unit {0}

  -- there is one history, the pen's: the words are those after it, it is lawful, and what each seat knows is so
  pub record Holds (allows : Allowed L) (origin : Origin L) (words : List ℕ) (views : List (View L)) : Type 0 where
    pub pen : ℕ
    pub history : List (ℕ × ℕ)
    pub words_are : words ≡ words_after origin.first history
    pub lawful : IsLawful (allows origin.law) origin.first history
    pub fits : (seat : ℕ) (view : View L) → get_elem? views seat ≡ some view → Fits origin history pen seat view

  -- the rule, of a table whose slots are of a type S
  abbrev pub holds : (S : Type 0) → Allowed L → Origin L → State S (View L) → Type 0
  holds S allows origin s = Holds allows origin s.words s.views

  -- the pen of a new board
  abbrev pub first_view : Origin L → View L
  first_view origin = Pen origin [] []

  -- the view of a pen after a store: its history gains it
  abbrev pub after_store : View L → ℕ → ℕ → View L
  after_store (Pen origin history logs) place value = Pen origin (history ++ (place, value) ∷ []) logs
  after_store view place value = view

  -- the step of a pen's store
  abbrev pub Stores : {S : Type 0} → Step S → Me S (View L) → ℕ → Me S (View L) → Type 0
  Stores s before value after = after ≡ (after_store before.0 s.word value, before.1)

  -- the view of an eye after a load: its log gains it
  abbrev pub after_load : View L → ℕ → ℕ → View L
  after_load (Eye origin log) place word = Eye origin (log ++ Loaded place word ∷ [])
  after_load view place word = view

  -- some lawful history explains the log of an eye
  abbrev pub HasExplainedLog : Allowed L → View L → Type 0
  HasExplainedLog allows (Eye origin log) = IsExplained (allows origin.law) origin.first log
  HasExplainedLog allows view = Unit {0}

  -- the step of an eye's load, after which some lawful history explains the log
  abbrev pub Loads : {S : Type 0} → Allowed L → Step S → Me S (View L) → ℕ → Me S (View L) → Type 0
  Loads allows s before word after =
      (after ≡ (after_load before.0 s.word word, before.1)) × HasExplainedLog allows (after_load before.0 s.word word)

  -- the word at a place is the one after the pen's history, and that history explains each log in the pen's view
  abbrev pub IsLastWord : View L → ℕ → ℕ → Type 0
  IsLastWord (Pen origin history logs) place word =
      (word ≡ slice_index (words_after origin.first history) place) × All (Explains origin.first history) logs
  IsLastWord view place word = Unit {0}

  -- the step of the pen's load when the board is closed: its view stays
  abbrev pub ReadsLast : {S : Type 0} → Step S → Me S (View L) → ℕ → Me S (View L) → Type 0
  ReadsLast s before word after = (after ≡ before) × IsLastWord before.0 s.word word

  -- a note of all that the pen has stored
  abbrev pub note_of : View L → View L
  note_of (Pen origin history logs) = Note origin history
  note_of view = Spent

  -- an eye that did nothing yet
  abbrev pub new_eye : View L → View L
  new_eye (Pen origin history logs) = Eye origin []
  new_eye (Eye origin log) = Eye origin []
  new_eye view = Spent

  -- the view of an eye after it learnt a note: its log gains it
  abbrev pub after_learn : View L → View L → View L
  after_learn (Eye origin log) (Note made history) = Eye origin (log ++ Learnt history ∷ [])
  after_learn view other = view

  -- the view of a pen after an eye was joined to it, when the board is closed: it gains the eye's log
  abbrev pub after_close : View L → View L → View L
  after_close (Pen origin history logs) (Eye made log) = Pen origin history (logs ++ log ∷ [])
  after_close view other = view
