-- Pairs: rows of two numbers, of which the first is the key.
use Rattle.std.specs.Prelude.{◌≡◌, ◌≤◌, List, [], ◌∷◌, length, map, slice_index_or}
use Rattle.std.specs.List.{AllByRecursion}
use Rattle.whips_model.specs.declared.Kind.TheVariants.{Number}
use Rattle.whips_model.specs.Tuples.{Columns}
use Rattle.whips_model.specs.Relation.{Table}
use Rattle.whips_rel.specs.declared.update.Update.{Update}
use Rattle.whips_rel.specs.Updates.{tuple_of}
use Rattle.whips_states.specs.States.{Updates}
use Rattle.whips_view.specs.ViewDefs.{View, no_columns}

-- Two number columns, of which the first is the key.
abbrev pub pair_columns : Columns
pair_columns = record { kinds = Number ∷ Number ∷ []; key = 0 ∷ [] }

-- No pair.
abbrev pub no_pairs : Table
no_pairs = record { columns = pair_columns; rows = [] }

-- The columns of three relations of pairs.
abbrev pub three_columns : List Columns
three_columns = pair_columns ∷ pair_columns ∷ pair_columns ∷ []

-- The update's tuple has two codes.
abbrev pub IsPair : Update → Type 0
IsPair u = length (tuple_of u) ≡ 2

-- Each update's tuple has two codes.
abbrev pub ArePairs : Updates → Type 0
ArePairs t = AllByRecursion IsPair t
