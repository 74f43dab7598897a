-- What a transaction gives a view and takes from it.
use Rattle.std.specs.Prelude.{ℕ, ◌==◌, ◌&&◌, Bool, cond, List, [], ◌∷◌, length, map, filter, find, fold, slice_index, Option, Some, None}
use Rattle.std.specs.List.{flat_map, range_with_len}
use Rattle.whips_model.specs.Tuples.{Codes, at_columns, has_key, put_row, without_key}
use Rattle.whips_choices.specs.KeyedViews.{KeyedView, part_key}
use Rattle.whips_rel.specs.declared.update.Update.{Update}
use Rattle.whips_rel.specs.declared.update.Update.TheVariants.{Insert, Delete}
use Rattle.whips_rel.specs.Updates.{relation_of, tuple_of}
use Rattle.whips_states.specs.States.{Updates}
use Rattle.whips_states.specs.Concerns.{meets_part}

-- The rows of relation r, with these key columns, after an update.
abbrev pub left_by : ℕ → List ℕ → List Codes → Update → List Codes
left_by r key rows (Insert q t) = cond (q == r) (put_row key t rows) rows
left_by r key rows (Delete q t) = cond (q == r) (without_key key (at_columns key t) rows) rows

-- The tuples of relation r whose key's last update in the transaction is their insert, in the order of their keys: what the transaction leaves of no row.
abbrev pub inserted : ℕ → List ℕ → Updates → List Codes
inserted r key t = fold (left_by r key) [] t

-- The rows of relation r, with these key columns, before an update that leaves these.
abbrev pub found_by : ℕ → List ℕ → Update → List Codes → List Codes
found_by r key (Insert q t) rows = cond (q == r) (without_key key (at_columns key t) rows) rows
found_by r key (Delete q t) rows = cond (q == r) (put_row key t rows) rows

-- The tuples of relation r whose key's first update in the transaction is their delete, in the order of their keys: what the transaction finds where it leaves no row.
abbrev pub deleted : ℕ → List ℕ → Updates → List Codes
deleted r key [] = []
deleted r key (u ∷ t) = found_by r key u (deleted r key t)

-- Whether the update is of relation r, and of this key.
abbrev pub names : ℕ → List ℕ → Codes → Update → Bool
names r key k u = (relation_of u == r) && has_key key k (tuple_of u)

-- The first update of the key in the transaction.
abbrev pub first_of_key : ℕ → List ℕ → Codes → Updates → Option Update
first_of_key r key k t = find (names r key k) t

abbrev pub or_else : Option Update → Option Update → Option Update
or_else None other = other
or_else (Some u) other = Some u

-- The last update of the key in the transaction.
abbrev pub last_of_key : ℕ → List ℕ → Codes → Updates → Option Update
last_of_key r key k [] = None
last_of_key r key k (u ∷ t) = or_else (last_of_key r key k t) (cond (names r key k u) (Some u) None)

-- The relation of a part of the view.
abbrev pub relation_at : KeyedView → ℕ → ℕ
relation_at v part = slice_index v.base.relations part

-- The tuples that the transaction gives a part: those whose key's last update is their insert, and that meet the part.
abbrev pub given_at : KeyedView → Updates → ℕ → List Codes
given_at v t part = filter (meets_part v.base part) (inserted (relation_at v part) (part_key v part) t)

-- The keys that the transaction takes from a part: those whose first update is a delete of a tuple that meets the part.
abbrev pub taken_at : KeyedView → Updates → ℕ → List Codes
taken_at v t part = map (at_columns (part_key v part)) (filter (meets_part v.base part) (deleted (relation_at v part) (part_key v part) t))

-- The elements of the lists of parts 0 to n - 1, each beside the number of its part.
abbrev pub by_part : ℕ → (ℕ → List Codes) → List (ℕ × Codes)
by_part n f = flat_map (λ part. map (λ x. (part, x)) (f part)) (range_with_len 0 n)

-- All tuples that the transaction gives the view, each with its part, by part and then by key.
abbrev pub given : KeyedView → Updates → List (ℕ × Codes)
given v t = by_part (length v.keys) (given_at v t)

-- All keys that the transaction takes from the view, each with its part, by part and then by key.
abbrev pub taken : KeyedView → Updates → List (ℕ × Codes)
taken v t = by_part (length v.keys) (taken_at v t)
