-- What a plain view's calls do, and rows that are put.
use Rattle.std.specs.Prelude.{◌≡◌, ℕ, ◌<◌, ◌≤◌, List, [], ◌∷◌, length, fold, Option, Some, None}
use Rattle.whips_model.specs.Tuples.{Codes, put_row}
use Rattle.whips_rel.specs.declared.update.Change.{Change}
use Rattle.whips_net.specs.Made.{change_key}
use Rattle.whips_vnl.specs.Records.{seen_row, seen_after}
use Rattle.whips_store.specs.Stores.{ViewState}
use Rattle.whips_store.specs.Calls.{slot_for, changed_view}

-- the view once its first change that is left is made
abbrev pub changed_first : ℕ → ℕ → ViewState → ViewState
changed_first n c v = elim v.left [
  | [] ↦ v
  | change ∷ others ↦ changed_view n c change others v
]

-- The first change that is left in the view is this one, and it is to be made in slot i, which is there.
pub record IsFirstChange (n c : ℕ) (v : ViewState) (i : ℕ) (change : Change) : Type 0 where
  pub others : List Change
  pub left : v.left ≡ change ∷ others
  pub slot : slot_for n c v.columns.key (change_key v.columns.key change) v.records ≡ Some i
  pub there : i < length v.records

-- a row that the change brings has this many codes
abbrev pub IsWide : ℕ → Change → Type 0
IsWide width change = (t : Codes) → seen_after change ≡ seen_row t → length t ≡ width

-- whether slots are enough: where they are none is told, and else how many are needed
abbrev pub IsShortage : ℕ → ℕ → Option ℕ → Type 0
IsShortage need have None = need ≤ have
IsShortage need have (Some m) = (have < need) × (m ≡ need)

-- the rows with these put, one after another
abbrev pub put_all : List ℕ → List Codes → List Codes → List Codes
put_all columns rows ts = fold (λ rows t. put_row columns t rows) rows ts

-- the rows with those of each of these values put
abbrev pub put_values : List ℕ → List Codes → List (List Codes) → List Codes
put_values columns rows values = fold (fold (λ rows t. put_row columns t rows)) rows values
