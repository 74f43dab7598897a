-- A view that was made: its parts, the columns of its relations and of its rows, and what its making has checked.
use Rattle.std.specs.Prelude.{◌≡◌, ℕ, ◌&&◌, ◌==◌, nat_le, Bool, true, List, [], length, map, is_some, slice_get, slice_index_or, Option, Some, None}
use Rattle.std.specs.Option.{option_map, unwrap_or}
use Rattle.whips_model.specs.declared.Kind.{Kind}
use Rattle.whips_model.specs.declared.Kind.TheVariants.{Number}
use Rattle.whips_model.specs.declared.ColRef.{ColRef}
use Rattle.whips_model.specs.Tuples.{Columns}
use Rattle.whips_model.specs.Views.{ViewData}
use Rattle.whips_model.specs.Relation.{Table}
use Rattle.whips_lists.specs.Members.{Has, AreDistinct}
use Rattle.whips_choices.specs.KeyedViews.{KeyedView, IsKeyedView}
use Rattle.whips_choices.specs.Places.{keyed_view}

-- A view as data: its parts, and the columns of each of its relations.
pub record View : Type 0 where
  pub parts : ViewData
  pub bases : List Columns

abbrev pub no_columns : Columns
no_columns = record { kinds = []; key = [] }

-- The view of these parts, where the columns of all relations by number are given.
abbrev pub view_of : List Columns → ViewData → View
view_of schemas parts = record { parts = parts; bases = map (λ r. slice_index_or schemas r no_columns) parts.relations }

abbrev pub kinds_in : Option Columns → List Kind
kinds_in None = []
kinds_in (Some columns) = columns.kinds

-- The kind of a column, where it is there.
abbrev pub kind_of : List Columns → ColRef → Option Kind
kind_of bases at = slice_get (kinds_in (slice_get bases at.part)) at.col

-- The view with the key columns of its relations, and the places in its rows where these stand.
abbrev pub keyed : View → KeyedView
keyed view = keyed_view view.parts (map (λ b. b.key) view.bases)

-- The columns of the view's rows: the kinds of its out columns, and as their key the key columns of each relation in view order, each at its first place among the out columns.
abbrev pub row_columns : View → Columns
row_columns view = record { kinds = map (λ at. unwrap_or (kind_of view.bases at) Number) view.parts.out; key = (keyed view).columns }

abbrev pub is_within : ℕ → ℕ → ℕ → Bool
is_within low high n = nat_le low n && nat_le n high

-- Whether each list of the parts has as many elements as it may: 1 to 4 relations and as many homes, up to 16 equalities and conditions, and 1 to 16 out columns.
abbrev pub are_within : ViewData → Bool
are_within parts = is_within 1 4 (length parts.relations) && (length parts.homes == length parts.relations) && nat_le (length parts.equal) 16 && nat_le (length parts.conds) 16 && is_within 1 16 (length parts.out)

-- What the making of a view has checked: each list has as many elements as it may, each relation has its columns, no relation stands twice, each out column is there, and each key column of each relation is among the out columns.
pub record IsWellFormed (view : View) : Type 0 where
  pub within : are_within view.parts ≡ true
  pub bases : length view.bases ≡ length view.parts.relations
  pub distinct : AreDistinct view.parts.relations
  pub out : (at : ColRef) → Has at view.parts.out → is_some (kind_of view.bases at) ≡ true
  pub keyed : IsKeyedView (keyed view)

abbrev pub columns_in : Option Table → Option Columns
columns_in table = option_map (λ t. t.columns) table

-- The relations by number have, at the view's relations, the columns that the view was made with.
abbrev pub HasBases : View → List Table → Type 0
HasBases view db = map (λ r. columns_in (slice_get db r)) view.parts.relations ≡ map (λ b. Some b) view.bases
