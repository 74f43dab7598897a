-- The condition that a reply fits, as a test.
use Rattle.std.specs.Prelude.{ℕ, zero, suc, ◌==◌, ◌&&◌, ◌||◌, not, Bool, true, false, List, [], ◌∷◌, length, Option, Some, None, slice_index, slice_index_or}
use Rattle.std.specs.List.{list_all}
use Rattle.whips_model.specs.Tuples.{Codes, at_columns, has_key}
use Rattle.whips_choices.specs.KeyedViews.{KeyedView}
use Rattle.whips_choices.specs.Partials.{Partial}
use Rattle.whips_steps.specs.Steps.{is_filled}

-- Whether a part is filled exactly where it is to be, by a tuple of this width.
abbrev pub is_filled_as : Bool → ℕ → Option Codes → Bool
is_filled_as filled width None = not filled
is_filled_as filled width (Some t) = filled && (length t == width)

-- Whether each of the first n parts is filled exactly where it is filled before this step, by a tuple of its relation's width.
abbrev pub are_filled_before : KeyedView → List ℕ → ℕ → ℕ → Partial → ℕ → Bool
are_filled_before v widths origin step p zero = true
are_filled_before v widths origin step p (suc n) = are_filled_before v widths origin step p n && is_filled_as (is_filled v origin step n) (slice_index widths n) (slice_index_or p n None)

-- Whether the partial choice has all parts, each of them filled as it is to be before this step.
abbrev pub is_filled_before : KeyedView → List ℕ → ℕ → ℕ → Partial → Bool
is_filled_before v widths origin step p = (length p == length v.keys) && are_filled_before v widths origin step p (length v.keys)

-- Whether each of the partial choices is.
abbrev pub are_all_filled_before : KeyedView → List ℕ → ℕ → ℕ → List Partial → Bool
are_all_filled_before v widths origin step partials = list_all (is_filled_before v widths origin step) partials

-- Whether both are filled, by tuples that differ in the key.
abbrev pub differ_at : List ℕ → Option Codes → Option Codes → Bool
differ_at key None q = false
differ_at key (Some t) None = false
differ_at key (Some t) (Some u) = not (has_key key (at_columns key u) t)

-- Whether two partial choices differ in the key of one of the first n parts.
abbrev pub differ_below : List (List ℕ) → Partial → Partial → ℕ → Bool
differ_below keys p q zero = false
differ_below keys p q (suc n) = differ_below keys p q n || differ_at (slice_index_or keys n []) (slice_index_or p n None) (slice_index_or q n None)

-- Whether two partial choices differ in the key of a part that both have.
abbrev pub are_different : List (List ℕ) → Partial → Partial → Bool
are_different keys p q = differ_below keys p q (length keys)

-- Whether the partial choice differs from each of these in the key of a part that both have.
abbrev pub differ_from : List (List ℕ) → Partial → List Partial → Bool
differ_from keys p others = list_all (are_different keys p) others

-- Whether any two of the partial choices differ in the key of a part that both have.
abbrev pub all_differ : List (List ℕ) → List Partial → Bool
all_differ keys [] = true
all_differ keys (p ∷ ps) = differ_from keys p ps && all_differ keys ps
