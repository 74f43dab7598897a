-- Which versions count while a new one is written, and what a slot's record shows at them.
use Rattle.std.specs.Prelude.{ℕ, suc, ◌-◌, ◌&&◌, nat_le, min, Bool, true, false, List, Option, Some, None}
use Rattle.std.specs.List.{list_any, list_all, filter_map}
use Rattle.whips_model.specs.Tuples.{Codes, has_key}
use Rattle.whips_lists.specs.Lists.{places_from}
use Rattle.whips_vnl.specs.Records.{Seen, seen_row, seen_nothing, seen_past, visible}
use Rattle.whips_vnl.specs.declared.record.Vstep.{Vstep}

-- the versions that stay readable while the one after c is written, oldest first: c and the n - 2 before it, as far as they are there; nVNL 1997
abbrev pub versions_in_use : ℕ → ℕ → List ℕ
versions_in_use n c = places_from (c - (n - 2)) (suc (min c (n - 2)))

abbrev pub row_seen : Seen → Option Codes
row_seen (seen_row t) = Some t
row_seen seen_nothing = None
row_seen seen_past = None

-- the rows that these slots show at version v, in the order of the slots
abbrev pub rows_shown_at : ℕ → ℕ → List (List Vstep) → List Codes
rows_shown_at n v records = filter_map (λ steps. row_seen (visible n v steps)) records

abbrev pub is_row_of : List ℕ → Codes → Seen → Bool
is_row_of columns k (seen_row t) = has_key columns k t
is_row_of columns k seen_nothing = false
is_row_of columns k seen_past = false

abbrev pub is_nothing : Seen → Bool
is_nothing (seen_row t) = false
is_nothing seen_nothing = true
is_nothing seen_past = false

-- whether the record shows a row with the key k at one of these versions
abbrev pub shows_key : List ℕ → ℕ → List ℕ → Codes → List Vstep → Bool
shows_key columns n versions k steps = list_any (λ v. is_row_of columns k (visible n v steps)) versions

-- whether no change of a version after c was made in the record
abbrev pub is_older : ℕ → List Vstep → Bool
is_older c steps = list_all (λ s. nat_le s.vn c) steps

-- whether a new key may have the slot of this record: it shows nothing at the versions in use, and no change of the version after c was made in it
abbrev pub is_free : ℕ → ℕ → List Vstep → Bool
is_free n c steps = list_all (λ v. is_nothing (visible n v steps)) (versions_in_use n c) && is_older c steps
