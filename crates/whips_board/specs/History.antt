-- Histories of stores, and the logs of loads that they explain. A store is a place and a value.
use Rattle.std.specs.Prelude.{◌≡◌, ℕ, ◌≤◌, max, List, [], ◌∷◌, length, take, slice_index, slice_set}
use mathlib.Core.List.{IsPrefix}
use Rattle.whips_board.specs.declared.view.Entry.{Entry}
use Rattle.whips_board.specs.declared.view.Entry.TheVariants.{Loaded, Learnt}

-- the words after these stores, in order
abbrev pub words_after : List ℕ → List (ℕ × ℕ) → List ℕ
words_after words [] = words
words_after words (store ∷ stores) = words_after (slice_set words store.0 store.1) stores

-- each store is allowed on the words of the stores before it
abbrev pub IsLawful : (List ℕ → ℕ → ℕ → Type 0) → List ℕ → List (ℕ × ℕ) → Type 0
IsLawful allows words [] = Unit {0}
IsLawful allows words (store ∷ stores) =
    allows words store.0 store.1 × IsLawful allows (slice_set words store.0 store.1) stores

-- The loads of the log can be given prefixes of the history, in order, each with the loaded word at its place. None is
-- shorter than seen, than the prefix of an earlier load or than a note learnt before, and each note is itself a prefix
abbrev pub ExplainsFrom : List ℕ → List (ℕ × ℕ) → ℕ → List Entry → Type 0
ExplainsFrom first history seen [] = seen ≤ length history
ExplainsFrom first history seen (Loaded place word ∷ log) =
    (count : ℕ) × (seen ≤ count) × (count ≤ length history)
    × (slice_index (words_after first (take count history)) place ≡ word)
    × ExplainsFrom first history count log
ExplainsFrom first history seen (Learnt note ∷ log) =
    IsPrefix note history × ExplainsFrom first history (max seen (length note)) log

-- a history, from these first words on, explains a log
abbrev pub Explains : List ℕ → List (ℕ × ℕ) → List Entry → Type 0
Explains first history log = ExplainsFrom first history 0 log

-- some lawful history explains a log
abbrev pub IsExplained : (List ℕ → ℕ → ℕ → Type 0) → List ℕ → List Entry → Type 0
IsExplained allows first log =
    (history : List (ℕ × ℕ)) × IsLawful allows first history × Explains first history log

-- the word at a place is the one after some lawful history that begins with a note
abbrev pub IsWordAfterNote : (List ℕ → ℕ → ℕ → Type 0) → List ℕ → List (ℕ × ℕ) → ℕ → ℕ → Type 0
IsWordAfterNote allows first note place word =
    (history : List (ℕ × ℕ)) × IsPrefix note history × IsLawful allows first history
    × (word ≡ slice_index (words_after first history) place)
