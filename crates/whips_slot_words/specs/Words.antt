-- The words of a board as the slots of views: where each word stands, and what a reader reads of a slot.
use Rattle.std.specs.Prelude.{ℕ, zero, suc, ◌+◌, ◌-◌, ◌*◌, ◌/◌, ◌%◌, ◌<◌, ◌≤◌, ◌==◌, max, min, nat_le, List, [], ◌∷◌, ◌++◌, length, map, replicate, slice_index, slice_index_or, Option, Some, None, if◌then◌else◌}
use Rattle.std.specs.List.{list_any, position_or_len, flat_map, range_with_len}
use Rattle.whips_model.specs.Tuples.{Codes}
use Rattle.whips_vnl.specs.Records.{Seen, seen_row, seen_nothing, seen_past}
use Rattle.whips_flow.specs.Staleness.{last_phase}
use Rattle.whips_store.specs.Versions.{row_seen}

-- ---- where the words stand

-- a view on a board: its number of columns and its slots
pub record ViewShape : Type 0 where
  pub width : ℕ
  pub slots : ℕ

-- What tells where each word of a board stands: how many versions stay readable, which is how many entries a slot has, and the views.
pub record Shape : Type 0 where
  pub versions : ℕ
  pub views : List ViewShape

abbrev pub no_view : ViewShape
no_view = record { width = 0; slots = 0 }

abbrev pub view_shape : Shape → ℕ → ViewShape
view_shape shape x = slice_index_or shape.views x no_view

-- a slot has n entries, each a header and one word per column
abbrev pub slot_size : ℕ → ViewShape → ℕ
slot_size n v = n * suc v.width

abbrev pub view_size : ℕ → ViewShape → ℕ
view_size n v = v.slots * slot_size n v

-- how many words the views before view x have
abbrev pub view_offset : ℕ → List ViewShape → ℕ → ℕ
view_offset n [] x = 0
view_offset n (v ∷ vs) zero = 0
view_offset n (v ∷ vs) (suc x) = view_size n v + view_offset n vs x

-- the k-th word of entry e of slot i of view x; word 0 of the board is the phase
abbrev pub word_place : Shape → ℕ → ℕ → ℕ → ℕ → ℕ
word_place shape x i e k = suc (view_offset shape.versions shape.views x + (i * slot_size shape.versions (view_shape shape x) + (e * suc (view_shape shape x).width + k)))

abbrev pub header_place : Shape → ℕ → ℕ → ℕ → ℕ
header_place shape x i e = word_place shape x i e 0

abbrev pub column_place : Shape → ℕ → ℕ → ℕ → ℕ → ℕ
column_place shape x i e j = word_place shape x i e (suc j)

-- the slot is there
pub record IsSlotOf (shape : Shape) (x i : ℕ) : Type 0 where
  pub view : x < length shape.views
  pub slot : i < (view_shape shape x).slots

-- ---- what the words are

abbrev pub phase_of : List ℕ → ℕ
phase_of words = slice_index words 0

-- the headers of a slot's entries, in order
abbrev pub headers : Shape → List ℕ → ℕ → ℕ → List ℕ
headers shape words x i = map (λ e. slice_index words (header_place shape x i e)) (range_with_len 0 shape.versions)

-- the row words of an entry, in order
abbrev pub row_words : Shape → List ℕ → ℕ → ℕ → ℕ → Codes
row_words shape words x i e = map (λ j. slice_index words (column_place shape x i e j)) (range_with_len 0 (view_shape shape x).width)

-- ---- what a reader takes

-- A header is 0 for a blank entry, else 4 times the version and 1 for Added, 2 for Replaced, 3 for Removed.
abbrev pub version_of : ℕ → ℕ
version_of header = header / 4

-- the greatest header with a version at most v, 0 where no such entry is there but blank ones
abbrev pub greatest : ℕ → List ℕ → ℕ
greatest v [] = 0
greatest v (h ∷ hs) = max (if nat_le (version_of h) v then h else 0) (greatest v hs)

abbrev pub least : List ℕ → ℕ
least [] = 0
least (h ∷ []) = h
least (h ∷ g ∷ hs) = min h (least (g ∷ hs))

-- the first entry with this header
abbrev pub entry_of : ℕ → List ℕ → ℕ
entry_of h hs = position_or_len (λ g. g == h) hs

-- the entry that the next change of the slot is stored in: the one with the least header, the first one where some are equal
abbrev pub target_of : List ℕ → ℕ
target_of hs = entry_of (least hs) hs

-- the entry that a reader at v takes, where one is there: the one with the greatest header of those that aren't blank and have a version at most v
abbrev pub taken : ℕ → List ℕ → ℕ
taken v hs = entry_of (greatest v hs) hs

-- What a reader at v reads of a slot with these headers, where each entry has such a row; own, after nVNL 1997.
abbrev pub seen_of : ℕ → List ℕ → (ℕ → Codes) → Seen
seen_of v hs row =
    if greatest v hs == 0
    then (if list_any (λ h. h == 0) hs then seen_nothing else seen_past)
    else (if greatest v hs % 4 == 3 then seen_nothing else seen_row (row (taken v hs)))

-- what a reader at v reads of slot i of view x
abbrev pub seen_at : Shape → List ℕ → ℕ → ℕ → ℕ → Seen
seen_at shape words x i v = seen_of v (headers shape words x i) (row_words shape words x i)

-- what a reader at v takes of the slot: a row, or none
abbrev pub pick : Shape → List ℕ → ℕ → ℕ → ℕ → Option Codes
pick shape words x i v = row_seen (seen_at shape words x i v)

-- A version that was committed by this phase and isn't stale at it, on words: nVNL 1997.
pub record IsLiveAt (n phase v : ℕ) : Type 0 where
  pub committed : 2 * v ≤ phase
  pub fresh : phase ≤ last_phase n v

-- ---- the words at first

-- the words of a slot that shows a row at version 0, in its last entry, or is blank
abbrev pub slot_words : ℕ → ℕ → Option Codes → List ℕ
slot_words n width None = replicate (n * suc width) 0
slot_words n width (Some t) = replicate ((n - 1) * suc width) 0 ++ 1 ∷ t

-- the rows stand in the first slots, and the others are blank
abbrev pub view_words : ℕ → ViewShape → List Codes → List ℕ
view_words n v rows = flat_map (slot_words n v.width) (map Some rows ++ replicate (v.slots - length rows) None)

abbrev pub views_words : ℕ → List ViewShape → List (List Codes) → List ℕ
views_words n [] rows = []
views_words n (v ∷ vs) [] = view_words n v [] ++ views_words n vs []
views_words n (v ∷ vs) (rows ∷ more) = view_words n v rows ++ views_words n vs more

-- The first words of a board: the phase 0, and the rows of each view at version 0, in the order of their keys.
abbrev pub layout : Shape → List (List Codes) → List ℕ
layout shape values = 0 ∷ views_words shape.versions shape.views values
