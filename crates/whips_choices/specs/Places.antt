-- Where the key columns of a view's relations stand in its rows.
use Rattle.std.specs.Prelude.{◌≡◌, ℕ, suc, ◌<◌, ◌==◌, ◌&&◌, cond, List, [], ◌∷◌, ◌++◌, length, map, slice_index_or}
use Rattle.whips_model.specs.declared.ColRef.{ColRef}
use Rattle.whips_model.specs.declared.Cond.{Cond}
use Rattle.whips_model.specs.Views.{ViewData}
use Rattle.whips_lists.specs.Members.{Has}
use Rattle.whips_choices.specs.KeyedViews.{KeyedView, IsKeyedView}

abbrev pub column : ℕ → ℕ → ColRef
column p c = record { part = p; col = c }

-- the first place of the column among the out columns
abbrev pub place_of : List ColRef → ℕ → ℕ → ℕ
place_of [] p c = 0
place_of (x ∷ out) p c = cond ((x.part == p) && (x.col == c)) 0 (suc (place_of out p c))

-- the places of the key columns of the parts from p on
abbrev pub key_places_from : List ColRef → ℕ → List (List ℕ) → List (List ℕ)
key_places_from out p [] = []
key_places_from out p (cols ∷ keys) = map (place_of out p) cols ∷ key_places_from out (suc p) keys

abbrev pub joined : List (List ℕ) → List ℕ
joined [] = []
joined (cols ∷ keys) = cols ++ joined keys

-- the view with these key columns of its relations
abbrev pub keyed_view : ViewData → List (List ℕ) → KeyedView
keyed_view view keys = record { base = view; keys = keys; places = key_places_from view.out 0 keys; columns = joined (key_places_from view.out 0 keys) }

-- what the making of a view checks
pub record IsChecked (view : ViewData) (keys : List (List ℕ)) : Type 0 where
  pub homes : length view.homes ≡ length keys
  pub equal : (pair : ColRef × ColRef) → Has pair view.equal → (pair.0.part < length keys) × (pair.1.part < length keys)
  pub conds : (c : Cond) → Has c view.conds → c.at.part < length keys
  pub out : (p c : ℕ) → p < length keys → Has c (slice_index_or keys p []) → Has (column p c) view.out

abbrev pub KeyColumns : Type 0
KeyColumns = (view : ViewData) (keys : List (List ℕ)) → IsChecked view keys → IsKeyedView (keyed_view view keys)
