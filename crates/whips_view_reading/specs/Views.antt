-- The views of a script.
use Rattle.std.specs.Prelude.{ℕ, suc, ◌&&◌, ◌==◌, Bool, true, not, List, [], ◌∷◌, ◌++◌, map, slice_get, slice_index_or, Option, Some, None, Ok}
use Rattle.std.specs.List.{list_all, list_any}
use Rattle.serde_json.specs.Data.{Data}
use Rattle.whips_model.specs.declared.ColRef.{ColRef}
use Rattle.whips_model.specs.Views.{ViewData}
use Rattle.whips_view.specs.Refusals.{is_column}
use Rattle.whips_reading.specs.declared.place.Code.TheVariants.{Name, Key}
use Rattle.whips_reading.specs.declared.place.Member.TheVariants as member
use Rattle.whips_reading.specs.declared.json.ObjectForm.TheVariants.{View}
use Rattle.whips_reading.specs.Json.{Text}
use Rattle.whips_reading.specs.Places.{Place, in_member}
use Rattle.whips_reading.specs.Reading.{Read, ◌>>=◌, ◌>>◌, check, object, elements, in_turn, within, within_or, number_within}
use Rattle.whips_reading.specs.Names.{fresh_name, named}
use Rattle.whips_relation_reading.specs.Relations.{RelationForm, relation_names}
use Rattle.whips_view_reading.specs.Columns.{view_columns}
use Rattle.whips_view_reading.specs.Choices.{Choice, choice_in}

-- What views are read over: the relations of the script, the source of each, and the texts of the script.
pub record Basis : Type 0 where
  pub relations : List RelationForm
  pub homes : List ℕ
  pub texts : List Text

-- One more relation of a view, by its name: one that the view hasn't yet.
abbrev pub relation_added : (names : List Text) → List ℕ → Place → Data → Read (List ℕ)
relation_added names numbers place d = do
  number ← named names place d
  check (not (list_any (λ n. n == number) numbers)) Name place
  Ok (numbers ++ number ∷ [])

-- 1 to 4 relations.
abbrev pub relations_in : (names : List Text) → Place → Data → Read (List ℕ)
relations_in names place d = elements 1 4 place d >>= in_turn (relation_added names) place 0 []

-- The sources of these relations.
abbrev pub homes_of : (homes numbers : List ℕ) → List ℕ
homes_of homes numbers = map (λ n. slice_index_or homes n 0) numbers

-- Whether a column of this part is among these.
abbrev pub is_among_columns : List ColRef → (part col : ℕ) → Bool
is_among_columns out part col = list_any (is_column part col) out

abbrev pub key_of : Option RelationForm → List ℕ
key_of None = []
key_of (Some r) = r.table.columns.key

-- Whether the key columns of these relations of a script, of which the first is at this part of the view, are all among its out columns.
abbrev pub are_keys_out : List ColRef → List RelationForm → ℕ → List ℕ → Bool
are_keys_out out relations part [] = true
are_keys_out out relations part (n ∷ numbers) = list_all (is_among_columns out part) (key_of (slice_get relations n)) && are_keys_out out relations (suc part) numbers

-- The out columns are tried for the keys of the relations when each of them was read.
abbrev pub with_keys : List RelationForm → List ℕ → Place → Choice → Read Choice
with_keys relations numbers place choice = do
  check (are_keys_out choice.out relations 0 numbers) Key (in_member place member.Out)
  Ok choice

-- The equalities, conditions and out columns of a view over these relations.
abbrev pub keyed_choice : Basis → List ℕ → Place → Data → Read Choice
keyed_choice basis numbers place d = choice_in (view_columns basis.relations 0 numbers) basis.texts place d >>= with_keys basis.relations numbers place

-- The parts of a view over these relations, with this choice.
abbrev pub parts_with : Basis → (numbers : List ℕ) → Choice → ViewData
parts_with basis numbers choice = record { relations = numbers; homes = homes_of basis.homes numbers; equal = choice.equal; conds = choice.conds; out = choice.out }

-- A view with its name and its slots.
pub record ViewForm : Type 0 where
  pub name : Text
  pub parts : ViewData
  pub slots : ℕ

-- The slots of a view where the script doesn't say.
abbrev pub default_slots : ℕ
default_slots = 1024

-- A view is an object, which has first a name that isn't one of these,
abbrev pub named_view : (taken : List Text) → Place → Data → Read Text
named_view taken place d = do
  object View place d
  within member.Name (fresh_name taken) place d

-- then relations, and equalities, conditions and out columns,
abbrev pub numbers_in : Basis → Place → Data → Read (List ℕ)
numbers_in basis place d = within member.Relations (relations_in (relation_names basis.relations)) place d

abbrev pub parts_in : Basis → Place → Data → Read ViewData
parts_in basis place d = do
  numbers ← numbers_in basis place d
  choice ← keyed_choice basis numbers place d
  Ok (parts_with basis numbers choice)

-- and then perhaps 1 to 4,096 slots.
abbrev pub view_in : Basis → (taken : List Text) → Place → Data → Read ViewForm
view_in basis taken place d = do
  name ← named_view taken place d
  parts ← parts_in basis place d
  slots ← within_or default_slots member.Slots (number_within 1 4096) place d
  Ok (record { name = name; parts = parts; slots = slots })
