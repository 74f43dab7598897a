-- The lists that wait in the merge, and the rows that the writer makes of them.
use Rattle.std.specs.Prelude.{◌≡◌, ℕ, suc, ◌==◌, ◌&&◌, ◌%◌, cond, not, List, [], ◌∷◌, ◌++◌, length, drop, filter, slice_get, slice_index_or, Option, Some, None}
use Rattle.std.specs.List.{flat_map, AllByRecursion}
use Rattle.whips_lists.specs.Lists.{front}
use Rattle.whips_flow.specs.Painted.{Row}
use Rattle.whips_flow.specs.State.{Merge}
use Rattle.whips_flow.specs.Settling.{settled_merge}
use Rattle.whips_flow.specs.Effects.{with_announced_row, with_waiting_list}
use Rattle.whips_flow.specs.declared.event.Event.{Event}
use Rattle.whips_flow.specs.declared.event.Event.TheVariants.{Rel, Act, Begin}
use Rattle.whips_model.specs.Relation.{value_of}
use Rattle.whips_view.specs.ViewDefs.{View, keyed}
use Rattle.whips_actions.specs.declared.action.ActionList.{ActionList}
use Rattle.whips_setup.specs.Setups.{SetupData}
use Rattle.whips_facts.specs.Scripts.{Script, value_at}
use Rattle.whips_facts.specs.ScriptFacts.{facts_of}
use Rattle.whips_merge.specs.declared.lists.Transaction.{Transaction}
use Rattle.whips_merge.specs.Merging.{MergeState, covers_any, with_transaction, with_list}
use Rattle.whips_store.specs.Calls.{begun}
use Rattle.whips_store.specs.Stores.{StoreState, view_in, changes_left}
use Rattle.whips_contents.specs.Contents.{Announcement, LoadedPipeline}
use Rattle.whips_contents.specs.Events.{is_enabled_loaded, is_full_for, step_loaded, row_announced, oldest_list, rows_after, changes_of_transaction}
use Rattle.whips_stage_laws.specs.Fits.{Older, FitsContents}

-- Those of the lists that are of view x.
abbrev pub of_view : ℕ → List ActionList → List ActionList
of_view x ls = filter (λ (l : ActionList). l.view == x) ls

-- The lists of a view that have come to the merge and that no transaction has begun with: those of the transactions that wait, and then those whose rows are in the table or have still to come.
abbrev pub lists_that_wait : ℕ → MergeState → List ActionList
lists_that_wait x m = flat_map (λ (t : Transaction). of_view x t.lists) m.transactions ++ slice_index_or m.lists x []

-- These, behind the rows that the view has once the transaction that was begun last is committed.
abbrev pub older_of : (ℕ → ℕ) → LoadedPipeline → ℕ → Older
older_of numbers l x = record { lists = lists_that_wait x l.merge; rows = Some ((view_in l.store x).next); number = Some (numbers x) }

-- ---- the last list of each view that a transaction has begun with

abbrev pub last_upto : ℕ → List ActionList → ℕ
last_upto j [] = j
last_upto j (l ∷ ls) = last_upto l.upto ls

abbrev pub begun_with : Option Transaction → (ℕ → ℕ) → ℕ → ℕ
begun_with None numbers = numbers
begun_with (Some t) numbers = λ x. last_upto (numbers x) (of_view x t.lists)

abbrev pub next_numbers : LoadedPipeline → Event → (ℕ → ℕ) → ℕ → ℕ
next_numbers l Begin numbers = begun_with (front l.merge.transactions) numbers
next_numbers l _ numbers = numbers

abbrev pub step_numbers : SetupData → LoadedPipeline → Event → (ℕ → ℕ) → ℕ → ℕ
step_numbers s l e numbers = cond (is_enabled_loaded l e && not (is_full_for s l e)) (next_numbers l e numbers) numbers

-- The number of the last list of each view with which some transaction has begun during the events, or as before.
abbrev pub begun_numbers : SetupData → LoadedPipeline → List Event → (ℕ → ℕ) → ℕ → ℕ
begun_numbers s l [] numbers = numbers
begun_numbers s l (e ∷ es) numbers = begun_numbers s (step_loaded s l e) es (step_numbers s l e numbers)

-- ---- what the order of row sets has to keep

-- Of each view the lists that were painted in the rows came before the other ones.
abbrev pub TakesFirst : List Row → List (List ActionList) → Type 0
TakesFirst rows lists = (x : ℕ) (ls : List ActionList) → slice_get lists x ≡ Some ls → filter (covers_any rows) ls ++ filter (λ l. not (covers_any rows l)) ls ≡ ls

abbrev pub AllTakeFirst : MergeState → List (List Row) → Type 0
AllTakeFirst m [] = Unit {0}
AllTakeFirst m (rows ∷ sets) = TakesFirst rows m.lists × AllTakeFirst (with_transaction m rows) sets

-- Each row set that the merge's part of the machine, now g, has taken more.
abbrev pub TakesInOrder : Merge → MergeState → Type 0
TakesInOrder g m = AllTakeFirst (record m { merge = g }) (drop (length m.merge.row_sets) g.row_sets)

abbrev pub RelInOrder : MergeState → Option Announcement → Type 0
RelInOrder m None = Unit {0}
RelInOrder m (Some a) = TakesInOrder (settled_merge (with_announced_row (row_announced (length m.lists) a) m.merge)) m

abbrev pub ActInOrder : MergeState → Option ActionList → Type 0
ActInOrder m None = Unit {0}
ActInOrder m (Some list) = TakesInOrder (settled_merge (with_waiting_list list.view list.upto m.merge)) (with_list list m)

-- Each row set that the event takes from the table takes the first lists of each view.
abbrev pub SettlesInOrder : LoadedPipeline → Event → Type 0
SettlesInOrder l Rel = RelInOrder l.merge (front l.announcements)
SettlesInOrder l (Act x) = ActInOrder l.merge (oldest_list l x)
SettlesInOrder l _ = Unit {0}

-- ---- all of it

-- Each of the merge's lists is of its view, of which the first here is k.
abbrev pub AreOwnLists : ℕ → List (List ActionList) → Type 0
AreOwnLists k [] = Unit {0}
AreOwnLists k (ls ∷ lists) = AllByRecursion (λ (l : ActionList). l.view ≡ k) ls × AreOwnLists (suc k) lists

-- The contents fit, with the lists in the merge behind the rows of the store: the rows that a view has once the transaction that was begun last is committed are its value at the last list of these numbers, and each list after that is right.
pub record FitsMerged (s : Script) (numbers : ℕ → ℕ) (l : LoadedPipeline) : Type 0 where
  pub contents : FitsContents s (older_of numbers l) l
  pub own : AreOwnLists 0 l.merge.lists
  pub lists_long : length l.merge.lists ≡ length s.setup.views
  pub store_long : length l.store.views ≡ length s.setup.views
  pub level : l.store.phase % 2 ≡ 0 → (x : ℕ) → (view_in l.store x).current ≡ (view_in l.store x).next

-- A store that has the views' values on the initial relations and no transaction.
pub record IsFirstStore (s : SetupData) (store : StoreState) : Type 0 where
  pub long : length store.views ≡ length s.views
  pub rows : (x : ℕ) (view : View) → slice_get s.views x ≡ Some view → (view_in store x).next ≡ value_of view.parts s.initial
  pub level : (x : ℕ) → (view_in store x).current ≡ (view_in store x).next

-- ---- the changes of a transaction

-- The store has the views' columns, each view's current rows are its value at the current cut, and the rows that the transaction leads to are its value at the transaction's cut.
pub record IsStoreAt (s : Script) (l : LoadedPipeline) (t : Transaction) : Type 0 where
  pub long : length l.store.views ≡ length s.setup.views
  pub columns : (x : ℕ) (view : View) → slice_get s.setup.views x ≡ Some view → (view_in l.store x).columns.key ≡ (keyed view).columns
  pub current : (x : ℕ) (view : View) → slice_get s.setup.views x ≡ Some view → (view_in l.store x).current ≡ value_at s (keyed view) l.cut
  pub after : (x : ℕ) (view : View) → slice_get s.setup.views x ≡ Some view → rows_after x view t.lists (view_in l.store x).current ≡ value_at s (keyed view) t.cut

-- Then it begins with as many changes as the machine counts.
abbrev pub ChangesAreCounted : Type 0
ChangesAreCounted = (s : Script) (l : LoadedPipeline) (t : Transaction) → IsStoreAt s l t
    → changes_left (begun (changes_of_transaction s.setup l.store t) l.store) ≡ (facts_of s).change_count l.cut t.cut
