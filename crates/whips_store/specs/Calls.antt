-- What the calls of a store do to it.
use Rattle.std.specs.Prelude.{◌≡◌, ℕ, suc, ◌/◌, nat_lt, true, List, [], ◌∷◌, ◌++◌, length, map, slice_index_or, set, Option, Some, None, if◌then◌else◌}
use Rattle.std.specs.Option.{option_map}
use Rattle.std.specs.List.{position, AllByRecursion}
use Rattle.whips_model.specs.declared.Kind.{Kind}
use Rattle.whips_model.specs.Tuples.{Codes}
use Rattle.whips_rel.specs.declared.update.Change.{Change}
use Rattle.whips_changes.specs.Changes.{net_changes, need}
use Rattle.whips_net.specs.Made.{change_key}
use Rattle.whips_setup.specs.Limits.{has_numbers_within}
use Rattle.whips_vnl.specs.Records.{steps_after}
use Rattle.whips_vnl.specs.declared.record.Vstep.{Vstep}
use Rattle.whips_store.specs.declared.error.StoreErr.{StoreErr}
use Rattle.whips_store.specs.declared.error.StoreErr.TheVariants.{Full}
use Rattle.whips_store.specs.Versions.{versions_in_use, shows_key, is_free, rows_shown_at}
use Rattle.whips_store.specs.Stores.{ViewState, StoreState, ChangeLists}

-- ---- a transaction begins

-- No number of these rows is above 999,999,999,999.
abbrev pub AreRowsWithin : List Kind → List Codes → Type 0
AreRowsWithin kinds rows = AllByRecursion (λ t. has_numbers_within kinds t ≡ true) rows

-- The changes are the net ones from the current rows to those afterwards, of which no number is above 999,999,999,999.
pub record AreNetChanges (v : ViewState) (after : List Codes) (changes : List Change) : Type 0 where
  pub net : changes ≡ net_changes v.columns.key v.current after
  pub numbers : AreRowsWithin v.columns.kinds after

-- For each view there are its rows afterwards and their net changes.
abbrev pub AreNet : List ViewState → ChangeLists → Type 0
AreNet [] [] = Unit {0}
AreNet [] (c ∷ cs) = ⊥
AreNet (v ∷ vs) [] = ⊥
AreNet (v ∷ vs) (c ∷ cs) = ((c.0.columns ≡ v.columns) × AreNetChanges v c.0.rows c.1) × AreNet vs cs

-- how many slots a view needs while the version after c is written: the keys of its rows at the versions in use and afterwards, a common key counted once; own, after nVNL 1997, which keeps the versions of one row in one slot
abbrev pub slots_needed : ℕ → ℕ → ViewState → List Codes → ℕ
slots_needed n c v after = need v.columns.key (map (λ w. rows_shown_at n w v.records) (versions_in_use n c) ++ after ∷ [])

-- the first of these views, of which the first is number x, that needs more slots than it has
abbrev pub first_full : ℕ → ℕ → ℕ → List ViewState → ChangeLists → Option StoreErr
first_full n c x [] cs = None
first_full n c x (v ∷ vs) [] = None
first_full n c x (v ∷ vs) (change ∷ cs) =
    if nat_lt (length v.records) (slots_needed n c v change.0.rows)
    then Some (Full x (slots_needed n c v change.0.rows) (length v.records))
    else first_full n c (suc x) vs cs

abbrev pub shortage : StoreState → ChangeLists → Option StoreErr
shortage s cs = first_full s.versions (s.phase / 2) 0 s.views cs

abbrev pub views_with : List ViewState → ChangeLists → List ViewState
views_with [] cs = []
views_with (v ∷ vs) [] = v ∷ vs
views_with (v ∷ vs) (c ∷ cs) = record v { next = c.0.rows; left = c.1 } ∷ views_with vs cs

-- The store once these changes are to be made: the phase is one more, and no record has changed.
abbrev pub begun : ChangeLists → StoreState → StoreState
begun cs s = record s { phase = suc s.phase; views = views_with s.views cs }

-- ---- one change

-- The slot in which a change of the key k is made: the one that shows the key at a version in use; for a new key the first free one.
abbrev pub slot_for : ℕ → ℕ → List ℕ → Codes → List (List Vstep) → Option ℕ
slot_for n c columns k records = elim (position (shows_key columns n (versions_in_use n c) k) records) [
  | Some i ↦ Some i
  | None ↦ position (is_free n c) records
]

-- the records after the change: at the version after c the slot shows what the change says
abbrev pub records_with : ℕ → ℕ → Change → Option ℕ → List (List Vstep) → List (List Vstep)
records_with n c change None records = records
records_with n c change (Some i) records = set records i (steps_after n (suc c) change (slice_index_or records i []))

abbrev pub changed_view : ℕ → ℕ → Change → List Change → ViewState → ViewState
changed_view n c change others v = record v { records = records_with n c change (slot_for n c v.columns.key (change_key v.columns.key change) v.records) v.records; left = others }

-- these views once the first change that is left is made
abbrev pub views_changed : ℕ → ℕ → List ViewState → List ViewState
views_changed n c [] = []
views_changed n c (v ∷ vs) = elim v.left [
  | [] ↦ v ∷ views_changed n c vs
  | change ∷ others ↦ changed_view n c change others v ∷ vs
]

-- The store once the first change that is left is made, in the order of views and keys: all but one record is as it was.
abbrev pub changed_once : StoreState → StoreState
changed_once s = record s { views = views_changed s.versions (s.phase / 2) s.views }

-- ---- a transaction ends

-- The store once the new version is committed: its rows are the current ones, and no record has changed.
abbrev pub published : StoreState → StoreState
published s = record s {
  phase = suc s.phase;
  views = map (λ (v : ViewState). record v { current = v.next }) s.views;
  past = option_map (λ rows. rows ++ map (λ (v : ViewState). v.next) s.views ∷ []) s.past;
}
