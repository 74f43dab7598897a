-- The views of a script, over its relations.
use Rattle.std.specs.Prelude.{ℕ, List, [], ◌∷◌, ◌++◌, length, map, nat_le, is_none, Ok, ⊤}
use Rattle.serde_json.specs.Data.{Data}
use Rattle.whips_model.specs.Tuples.{Columns}
use Rattle.whips_model.specs.Relation.{Table, value_of}
use Rattle.whips_model.specs.Views.{ViewData}
use Rattle.whips_view.specs.ViewDefs.{View, view_of}
use Rattle.whips_view.specs.Refusals.{refusal_of}
use Rattle.whips_reading.specs.declared.place.Code.TheVariants.{Limit, Unbuilt}
use Rattle.whips_reading.specs.declared.place.Member.TheVariants as member
use Rattle.whips_reading.specs.Json.{Text}
use Rattle.whips_reading.specs.Places.{Place, in_member}
use Rattle.whips_reading.specs.Reading.{Read, ◌>>=◌, ◌>>◌, check, elements, in_turn}
use Rattle.whips_relation_reading.specs.Relations.{RelationForm}
use Rattle.whips_view_reading.specs.Views.{Basis, view_in}

-- Views: their names, what they are, and the slots of each.
pub record Views : Type 0 where
  pub names : List Text
  pub views : List View
  pub slots : List ℕ

abbrev pub no_views : Views
no_views = record { names = []; views = []; slots = [] }

-- The relations with their initial rows, and their columns.
abbrev pub tables_of : List RelationForm → List Table
tables_of relations = map (λ r. r.table) relations

abbrev pub schemas_of : List RelationForm → List Columns
schemas_of relations = map (λ r. r.table.columns) relations

-- The view of these parts over the relations. That one of a script is refused here is ruled out by what was read before.
abbrev pub view_over : List RelationForm → ViewData → Place → Read View
view_over relations parts place = do
  check (is_none (refusal_of (schemas_of relations) parts)) Unbuilt place
  Ok (view_of (schemas_of relations) parts)

-- Its value on the initial rows has no more rows than the view has slots.
abbrev pub slots_suffice : List RelationForm → View → ℕ → Place → Read ⊤
slots_suffice relations view slots place = check (nat_le (length (value_of view.parts (tables_of relations))) slots) Limit (in_member place member.Slots)

abbrev pub with_view : Views → Text → View → ℕ → Views
with_view views name view slots = record { names = views.names ++ name ∷ []; views = views.views ++ view ∷ []; slots = views.slots ++ slots ∷ [] }

-- One more view, whose slots are tried when all of it was read.
abbrev pub view_added : Basis → Views → Place → Data → Read Views
view_added basis views place d = do
  form ← view_in basis views.names place d
  view ← view_over basis.relations form.parts place
  slots_suffice basis.relations view form.slots place
  Ok (with_view views form.name view form.slots)

-- 1 to 8 views.
abbrev pub views_in : Basis → Place → Data → Read Views
views_in basis place d = elements 1 8 place d >>= in_turn (view_added basis) place 0 no_views
