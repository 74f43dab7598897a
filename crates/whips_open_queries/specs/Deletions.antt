-- Deleted keys, each with its part, and the places where they stand last in their list.
use Rattle.std.specs.Prelude.{◌≡◌, ℕ, ◌&&◌, nat_eq, nat_le, Bool, false, List, [], drop, Option, Some, None, slice_get}
use Rattle.std.specs.List.{list_any}
use Rattle.std.specs.Map.{lookup}
use Rattle.std.specs.Cmp.Lexicographic.{pointwise}
use Rattle.whips_model.specs.Tuples.{Codes}
use Rattle.whips_managers.specs.Managers.{Query}

-- Whether both are the same key of the same part.
abbrev pub is_entry : ℕ × Codes → ℕ × Codes → Bool
is_entry e f = nat_eq e.0 f.0 && pointwise nat_eq e.1 f.1

-- Whether there is a place, at this one or behind it.
abbrev pub is_from : ℕ → Option ℕ → Bool
is_from since None = false
is_from since (Some place) = nat_le since place

-- A key stands in the list at a place or behind it exactly where the place that the entries have for it does.
abbrev pub ArePlaced : List (ℕ × Codes) → List ((ℕ × Codes) × ℕ) → Type 0
ArePlaced deleted last = (e : ℕ × Codes) (since : ℕ) → list_any (is_entry e) (drop since deleted) ≡ is_from since (lookup (is_entry e) last)

abbrev pub pending_in : Option Query → List (ℕ × Codes)
pending_in None = []
pending_in (Some q) = q.pending

-- The pending deletions of the query at this place.
abbrev pub pending_at : List Query → ℕ → List (ℕ × Codes)
pending_at queries i = pending_in (slice_get queries i)
