-- What the history of a board's stores tells of the values that were committed.
use Rattle.std.specs.Prelude.{ℕ, zero, suc, ◌/◌, ◌%◌, ◌==◌, nat_lt, Bool, false, List, [], ◌∷◌, ◌++◌, length, map, slice_set, slice_index_or, if◌then◌else◌}
use Rattle.std.specs.List.{range_with_len}
use Rattle.whips_model.specs.Tuples.{Codes}
use Rattle.whips_changes.specs.Changes.{union_rows}
use Rattle.whips_setup.specs.Setups.{SetupData}
use Rattle.whips_store.specs.Stores.{StoreState, view_in}
use Rattle.whips_store.specs.First.{store_at_first}
use Rattle.whips_slot_words.specs.Words.{Shape}
use Rattle.whips_slot_words.specs.StoreLaws.{shape_of}
use Rattle.whips_slot_laws.specs.Histories.{rows_picked}
use Rattle.whips_slots.specs.Boards.{first_words}

-- the rows of each view that these words show at version v, in the order of their keys, where view x has the key columns keys x
abbrev pub values_shown : Shape → (ℕ → List ℕ) → List ℕ → ℕ → List (List Codes)
values_shown shape keys words v = map (λ x. union_rows (keys x) (rows_picked shape words x v ∷ [])) (range_with_len 0 (length shape.views))

-- Whether the store of this value at this place commits a version: it is an even phase; 2VNL 1997.
abbrev pub is_commit : ℕ → ℕ → Bool
is_commit zero value = value % 2 == 0
is_commit (suc place) value = false

-- the values shown after a store that commits a version, at that version; of another store none
abbrev pub values_by : Shape → (ℕ → List ℕ) → List ℕ → ℕ × ℕ → List (List (List Codes))
values_by shape keys words store = if is_commit store.0 store.1 then values_shown shape keys (slice_set words store.0 store.1) (store.1 / 2) ∷ [] else []

-- the values at each version that these stores commit, from these words on
abbrev pub values_committed : Shape → (ℕ → List ℕ) → List ℕ → List (ℕ × ℕ) → List (List (List Codes))
values_committed shape keys words [] = []
values_committed shape keys words (store ∷ stores) = values_by shape keys words store ++ values_committed shape keys (slice_set words store.0 store.1) stores

-- The values at each version once it was committed: what the first words show at version 0, and then what is shown at each version after the store that commits it; own.
abbrev pub past_of : Shape → (ℕ → List ℕ) → List ℕ → List (ℕ × ℕ) → List (List (List Codes))
past_of shape keys first history = values_shown shape keys first 0 ∷ values_committed shape keys first history

-- the key columns of a setup's view
abbrev pub keys_of : SetupData → ℕ → List ℕ
keys_of setup x = (view_in (store_at_first setup) x).columns.key

-- the values at each version on the board of a setup
abbrev pub past_on_board : SetupData → List (ℕ × ℕ) → List (List (List Codes))
past_on_board setup history = past_of (shape_of setup) (keys_of setup) (first_words setup) history

-- The values of view x at version v: up to the committed version those told, and above it the rows that are written.
abbrev pub values_told : List (List (List Codes)) → StoreState → ℕ → ℕ → List Codes
values_told past s x v = if nat_lt v (length past) then slice_index_or (slice_index_or past v []) x [] else (view_in s x).next
