-- Which partial choices are struck, by a look-up of the key at each part.
use Rattle.std.specs.Prelude.{◌≡◌, ℕ, zero, suc, ◌||◌, Bool, false, List, [], length, Option, Some, None, slice_index, slice_index_or}
use Rattle.std.specs.List.{list_any}
use Rattle.whips_model.specs.Tuples.{Codes, at_columns}
use Rattle.whips_choices.specs.Partials.{Partial}
use Rattle.whips_open_queries.specs.Deletions.{is_entry}

-- Each tuple of the partial choice has its relation's width.
abbrev pub HasWidths : List ℕ → Partial → Type 0
HasWidths widths p = (part : ℕ) (t : Codes) → slice_index_or p part None ≡ Some t → length t ≡ slice_index widths part

-- Whether the key of a part's tuple, in these columns, is one of the pending ones.
abbrev pub is_struck_at : List (ℕ × Codes) → ℕ → List ℕ → Option Codes → Bool
is_struck_at pending part columns None = false
is_struck_at pending part columns (Some t) = list_any (is_entry (part, at_columns columns t)) pending

-- Whether one of the first n parts has a tuple with a pending key.
abbrev pub is_struck_below : List (List ℕ) → List (ℕ × Codes) → Partial → ℕ → Bool
is_struck_below keys pending p zero = false
is_struck_below keys pending p (suc n) = is_struck_below keys pending p n || is_struck_at pending n (slice_index_or keys n []) (slice_index_or p n None)
