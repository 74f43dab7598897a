-- A store of one view of three columns, of which the first two are the key, through worked transactions.
use Rattle.std.specs.Prelude.{ℕ, zero, suc, List, [], ◌∷◌, length, map, None}
use Rattle.whips_model.specs.declared.Kind.TheVariants.{Number}
use Rattle.whips_model.specs.Tuples.{Codes, Columns}
use Rattle.whips_changes.specs.Changes.{net_changes}
use Rattle.whips_vnl.specs.Records.{Seen}
use Rattle.whips_store.specs.Stores.{StoreState, ChangeLists, view_in, seen_in}
use Rattle.whips_store.specs.Calls.{begun, changed_once, published}
use Rattle.whips_store.specs.First.{first_view}

abbrev pub row : ℕ → ℕ → Codes
row a c = a ∷ c ∷ 5 ∷ []

abbrev pub columns : Columns
columns = record { kinds = Number ∷ Number ∷ Number ∷ []; key = 0 ∷ 1 ∷ [] }

-- the store of which this many versions stay readable, with these rows at version 0 and spare slots besides
abbrev pub store : ℕ → List Codes → ℕ → StoreState
store versions rows spare = record { versions = versions; phase = 0; views = first_view columns rows spare ∷ []; past = None }

-- the rows afterwards with their net changes
abbrev pub changes_to : StoreState → List Codes → ChangeLists
changes_to s after = (record { columns = columns; rows = after }, net_changes columns.key (view_in s 0).current after) ∷ []

abbrev pub changed_times : ℕ → StoreState → StoreState
changed_times zero s = s
changed_times (suc n) s = changed_times n (changed_once s)

-- the store with the transaction begun and all its changes made
abbrev pub written : StoreState → List Codes → StoreState
written s after = changed_times (length (view_in (begun (changes_to s after) s) 0).left) (begun (changes_to s after) s)

-- the store once the transaction to these rows is committed
abbrev pub committed : StoreState → List Codes → StoreState
committed s after = published (written s after)

-- what slots 0, 1 and so on show at a version
abbrev pub shown : ℕ → StoreState → List ℕ → List Seen
shown v s slots = map (λ i. seen_in s 0 i v) slots

abbrev pub both : List Codes
both = row 1 7 ∷ row 2 7 ∷ []

abbrev pub second : List Codes
second = row 2 7 ∷ []

abbrev pub later : List Codes
later = row 2 7 ∷ row 3 7 ∷ []

abbrev pub two_slots : List ℕ
two_slots = 0 ∷ 1 ∷ []

abbrev pub three_slots : List ℕ
three_slots = 0 ∷ 1 ∷ 2 ∷ []
