-- The limits of a setup.
use Rattle.std.specs.Prelude.{ℕ, zero, suc, ◌+◌, ◌==◌, ◌&&◌, nat_le, nat_lt, not, Bool, true, false, cond, List, [], ◌∷◌, length, slice_get, Option, Some, None}
use Rattle.std.specs.List.{list_all, list_any}
use Rattle.whips_model.specs.declared.Kind.{Kind}
use Rattle.whips_model.specs.declared.Kind.TheVariants.{Number, Text}
use Rattle.whips_model.specs.Tuples.{Codes, Columns}
use Rattle.whips_model.specs.Relation.{Table}
use Rattle.whips_view.specs.ViewDefs.{View, is_within}
use Rattle.whips_view.specs.Refusals.{is_same_kind}
use Rattle.whips_setup.specs.Setups.{SetupData}

-- How many relations the source has.
abbrev pub relations_at : ℕ → List ℕ → ℕ
relations_at source [] = 0
relations_at source (home ∷ homes) = cond (home == source) 1 0 + relations_at source homes

-- Whether each source below n has 1 to 4 relations.
abbrev pub have_relations : ℕ → List ℕ → Bool
have_relations zero homes = true
have_relations (suc n) homes = is_within 1 4 (relations_at n homes) && have_relations n homes

-- Whether no column stands twice.
abbrev pub are_distinct : List ℕ → Bool
are_distinct [] = true
are_distinct (column ∷ columns) = not (list_any (λ other. other == column) columns) && are_distinct columns

-- Whether there are 1 to 8 columns, and a key that names none of them twice.
abbrev pub is_schema : Columns → Bool
is_schema columns = is_within 1 8 (length columns.kinds) && nat_le 1 (length columns.key) && are_distinct columns.key

abbrev pub are_same_kinds : List Kind → List Kind → Bool
are_same_kinds [] [] = true
are_same_kinds [] (l ∷ ls) = false
are_same_kinds (k ∷ ks) [] = false
are_same_kinds (k ∷ ks) (l ∷ ls) = is_same_kind k l && are_same_kinds ks ls

abbrev pub are_same_places : List ℕ → List ℕ → Bool
are_same_places [] [] = true
are_same_places [] (q ∷ qs) = false
are_same_places (p ∷ ps) [] = false
are_same_places (p ∷ ps) (q ∷ qs) = (p == q) && are_same_places ps qs

-- Whether two schemas have the same kinds and the same key.
abbrev pub are_same_columns : Columns → Columns → Bool
are_same_columns a b = are_same_kinds a.kinds b.kinds && are_same_places a.key b.key

-- Whether each number of the tuple is at most 999,999,999,999.
abbrev pub has_numbers_within : List Kind → Codes → Bool
has_numbers_within [] t = true
has_numbers_within (kind ∷ kinds) [] = true
has_numbers_within (Number ∷ kinds) (code ∷ t) = nat_le code 999999999999 && has_numbers_within kinds t
has_numbers_within (Text ∷ kinds) (code ∷ t) = has_numbers_within kinds t

-- Whether the relation is over this schema, and has up to 4,096 rows with no number above the greatest.
abbrev pub is_initial : Columns → Table → Bool
is_initial schema table = is_schema schema && are_same_columns table.columns schema && nat_le (length table.rows) 4096 && list_all (has_numbers_within table.columns.kinds) table.rows

-- Whether the relations are over these schemas, one each.
abbrev pub are_initial : List Columns → List Table → Bool
are_initial [] [] = true
are_initial [] (table ∷ tables) = false
are_initial (schema ∷ schemas) [] = false
are_initial (schema ∷ schemas) (table ∷ tables) = is_initial schema table && are_initial schemas tables

-- Whether this is there, and is the source.
abbrev pub is_source : ℕ → Option ℕ → Bool
is_source source None = false
is_source source (Some home) = home == source

-- Whether this is there, and is over the schema.
abbrev pub is_over : Columns → Option Table → Bool
is_over schema None = false
is_over schema (Some table) = are_same_columns table.columns schema

-- Whether each of a view's relations is there, at the source and over the schema that the view has for it.
abbrev pub are_bases : List ℕ → List Table → List ℕ → List ℕ → List Columns → Bool
are_bases at db [] homes [] = true
are_bases at db [] homes (base ∷ bases) = false
are_bases at db (relation ∷ relations) [] bases = false
are_bases at db (relation ∷ relations) (home ∷ homes) [] = false
are_bases at db (relation ∷ relations) (home ∷ homes) (base ∷ bases) = is_source home (slice_get at relation) && is_over base (slice_get db relation) && are_bases at db relations homes bases

-- Whether the view is over these relations, which are at these sources.
abbrev pub has_bases : List ℕ → List Table → View → Bool
has_bases at db view = are_bases at db view.parts.relations view.parts.homes view.bases

-- Whether there are 1 to 8 sources, each relation is over its schema and at one of them, and each of them has 1 to 4 relations.
abbrev pub are_sources_within : ℕ → List ℕ → List Columns → List Table → Bool
are_sources_within sources homes schemas initial = is_within 1 8 sources && (length homes == length schemas) && list_all (λ home. nat_lt home sources) homes && have_relations sources homes && are_initial schemas initial

-- Whether there are 1 to 8 views over these relations, each with 1 to 4,096 slots.
abbrev pub are_views_within : List ℕ → List Table → List View → List ℕ → Bool
are_views_within homes initial views slots = is_within 1 8 (length views) && (length slots == length views) && list_all (is_within 1 4096) slots && list_all (has_bases homes initial) views

-- Whether the setup is within all limits, where these are the schemas of its relations.
abbrev pub is_within_limits : List Columns → SetupData → Bool
is_within_limits schemas s = are_sources_within s.sources s.homes schemas s.initial && are_views_within s.homes s.initial s.views s.slots
