-- A view of two relations of pairs, and updates of pairs.
use Rattle.std.specs.Prelude.{◌≡◌, [], ◌∷◌, length, None}
use Rattle.std.specs.List.{AllByRecursion}
use Rattle.whips_model.specs.declared.Kind.TheVariants.{Number}
use Rattle.whips_model.specs.Tuples.{Columns}
use Rattle.whips_choices.specs.Partials.{Partial, slot}
use Rattle.whips_rel.specs.Updates.{tuple_of}
use Rattle.whips_states.specs.States.{Updates}
use Rattle.whips_view.specs.ViewDefs.{View}

-- Two number columns, of which the first is the key.
abbrev pub pair_columns : Columns
pair_columns = record { kinds = Number ∷ Number ∷ []; key = 0 ∷ [] }

-- The view has two relations, each of them of pairs.
abbrev pub IsOfPairs : View → Type 0
IsOfPairs view = view.bases ≡ pair_columns ∷ pair_columns ∷ []

-- Each update is of a pair.
abbrev pub ArePairs : Updates → Type 0
ArePairs t = AllByRecursion (λ u. length (tuple_of u) ≡ 2) t

-- The partial choice is one of two relations, and the second isn't filled.
abbrev pub WaitsForSecond : Partial → Type 0
WaitsForSecond p = (length p ≡ 2) × (slot p 1 ≡ None)
