-- The changes of a transaction, view by view.
use Rattle.std.proofs.Common.{◌≡◌, ℕ, zero, suc, ◌+◌, ◌<◌, ◌==◌, true, false, cond, List, [], ◌∷◌, ◌++◌, length, map, take, Some, refl, sym, ap, subst, ◌∙◌, arith, ap₂}
use Rattle.std.specs.Prelude.{slice_get, slice_index_or, filter, fold}
use Rattle.std.specs.List.{AllByRecursion}
use Rattle.std.proofs.Common.{◌%◌, is_some, eqb-true}
use Rattle.std.proofs.lemmas.Bool.{and_parts}
use Rattle.whips_lists.specs.Lists.{front}
use Rattle.whips_lists.proofs.Lists.{take_next}
use Rattle.whips_lists.proofs.ByPlace.{get_within}
use Rattle.whips_lists.proofs.Options.{some_same}
use Rattle.whips_contents.proofs.Changes.{map_push}
use Rattle.whips_model.specs.Relation.{Table}
use Rattle.whips_rel.specs.declared.update.Change.{Change}
use Rattle.whips_setup.specs.Setups.{SetupData}
use Rattle.whips_merge.specs.declared.lists.Transaction.{Transaction}
use Rattle.whips_flow.specs.declared.event.Event.TheVariants.{Begin}
use Rattle.whips_contents.specs.Contents.{LoadedPipeline}
use Rattle.whips_model.specs.Tuples.{Codes}
use Rattle.whips_view.specs.ViewDefs.{View, keyed}
use Rattle.whips_actions.specs.Acts.{applied}
use Rattle.whips_actions.specs.Lists.{AreActionsOf}
use Rattle.whips_actions.specs.declared.action.ActionList.{ActionList}
use Rattle.whips_changes.specs.Changes.{net_changes}
use Rattle.whips_store.specs.Stores.{ViewState, no_view}
use Rattle.whips_contents.specs.Events.{rows_after, changes_of, is_enabled_loaded}
use Rattle.whips_core_laws.specs.Calls.{IsListOf, FitsBegin}

-- one list more
pub rows_more : (x : ℕ) (view : View) (lists : List ActionList) (list : ActionList) (rows : List Codes) → rows_after x view (lists ++ list ∷ []) rows ≡ cond (list.view == x) (applied (keyed view) list.actions (rows_after x view lists rows)) (rows_after x view lists rows)
rows_more x view [] list rows = elim (list.view == x) as (λ b. fold (λ rows (list : ActionList). applied (keyed view) list.actions rows) rows (cond b (list ∷ []) []) ≡ cond b (applied (keyed view) list.actions rows) rows) [ true ↦ refl | false ↦ refl ]
rows_more x view (l ∷ lists) list rows = elim (l.view == x) as (λ b. fold (λ rows (list : ActionList). applied (keyed view) list.actions rows) rows (cond b (l ∷ filter (λ l. l.view == x) (lists ++ list ∷ [])) (filter (λ l. l.view == x) (lists ++ list ∷ [])))
    ≡ cond (list.view == x) (applied (keyed view) list.actions (fold (λ rows (list : ActionList). applied (keyed view) list.actions rows) rows (cond b (l ∷ filter (λ l. l.view == x) lists) (filter (λ l. l.view == x) lists)))) (fold (λ rows (list : ActionList). applied (keyed view) list.actions rows) rows (cond b (l ∷ filter (λ l. l.view == x) lists) (filter (λ l. l.view == x) lists)))) [
      | true ↦ rows_more x view lists list (applied (keyed view) l.actions rows)
      | false ↦ rows_more x view lists list rows
    ]

-- what stands for a view
pub changes_at : (k x : ℕ) (views : List View) (vs : List ViewState) (lists : List ActionList) (view : View) → slice_get views x ≡ Some view → x < length vs
    → slice_get (changes_of k views vs lists) x ≡ Some (
      record { columns = (slice_index_or vs x no_view).columns; rows = rows_after (k + x) view lists (slice_index_or vs x no_view).current },
      net_changes (slice_index_or vs x no_view).columns.key (slice_index_or vs x no_view).current (rows_after (k + x) view lists (slice_index_or vs x no_view).current),
    )
changes_at k x [] vs lists view e lt = absurd (cc)
changes_at k x (w ∷ views) [] lists view e lt = absurd (omega arith)
changes_at k zero (w ∷ views) (v ∷ vs) lists view e lt =
    let place : k ≡ k + 0 = omega arith in
    ap₂ (λ n z. Some (record { columns = v.columns; rows = rows_after n z lists v.current }, net_changes v.columns.key v.current (rows_after n z lists v.current))) place (some_same w view e)
changes_at k (suc x) (w ∷ views) (v ∷ vs) lists view e lt =
    let next : suc k + x ≡ k + suc x = omega arith in
    changes_at (suc k) x views vs lists view e (omega arith)
    ∙ ap (λ n. Some (record { columns = (slice_index_or vs x no_view).columns; rows = rows_after n view lists (slice_index_or vs x no_view).current }, net_changes (slice_index_or vs x no_view).columns.key (slice_index_or vs x no_view).current (rows_after n view lists (slice_index_or vs x no_view).current))) next

pub changes_long : (k : ℕ) (views : List View) (vs : List ViewState) (lists : List ActionList) → length vs ≡ length views → length (changes_of k views vs lists) ≡ length views
changes_long k [] vs lists e = refl
changes_long k (w ∷ views) [] lists e = absurd (omega (arith, e))
changes_long k (w ∷ views) (v ∷ vs) lists e = ap suc (changes_long (suc k) views vs lists (omega (arith, e)))

-- the lists of a view have its actions
pub own_actions : (views : List View) (x : ℕ) (view : View) (lists : List ActionList) → slice_get views x ≡ Some view → AllByRecursion (IsListOf views) lists → AllByRecursion (λ (l : ActionList). l.view ≡ x → AreActionsOf view l.actions) lists
own_actions views x view [] there h = tt
own_actions views x view (l ∷ lists) there h = (λ e. h.0 view (subst (λ n. slice_get views n ≡ Some view) (sym e) there), own_actions views x view lists there h.1)

-- one view more
pub taken_next : {A B : Type 0} (f : A → B) (L : List B) (x : ℕ) (before after : List A) (a : A) → map f before ≡ take x L → after ≡ before ++ a ∷ [] → slice_get L x ≡ Some (f a) → map f after ≡ take (x + 1) L
taken_next f L x before after a h e at = ap (map f) e ∙ (map_push f before (a ∷ []) ∙ (ap (λ l. l ++ f a ∷ []) h ∙ sym (take_next L x (f a) at)))

pub change_at : (x : ℕ) (views : List View) (vs : List ViewState) (lists : List ActionList) (view : View) (rows after : Table) (changes : List Change) → slice_get views x ≡ Some view → length vs ≡ length views
    → rows ≡ record { columns = (slice_index_or vs x no_view).columns; rows = (slice_index_or vs x no_view).current } → after ≡ record { columns = rows.columns; rows = rows_after x view lists rows.rows } → changes ≡ net_changes rows.columns.key rows.rows (rows_after x view lists rows.rows)
    → slice_get (changes_of 0 views vs lists) x ≡ Some (after, changes)
change_at x views vs lists view rows after changes there long is e f =
    let v = slice_index_or vs x no_view in
    let place : 0 + x ≡ x = omega arith in
    changes_at 0 x views vs lists view there (omega (arith, long, get_within x views view there))
    ∙ (ap (λ n. Some (record { columns = v.columns; rows = rows_after n view lists v.current }, net_changes v.columns.key v.current (rows_after n view lists v.current))) place
    ∙ (ap (λ (r : Table). Some (record { columns = r.columns; rows = rows_after x view lists r.rows }, net_changes r.columns.key r.rows (rows_after x view lists r.rows))) (sym is) ∙ sym (ap₂ (λ a b. Some (a, b)) e f)))

-- ---- begin

-- a begin that is enabled has a transaction, and what it needs
pub begin_fits : (s : SetupData) (l : LoadedPipeline) → is_enabled_loaded l Begin ≡ true → ((t : Transaction) → front l.merge.transactions ≡ Some t → l.store.phase % 2 ≡ 0 → FitsBegin s l t) → (t : Transaction) → front l.merge.transactions ≡ Some t → FitsBegin s l t
begin_fits s l en fits t first = fits t first (eqb-true (l.store.phase % 2) 0 (and_parts (is_some (front l.merge.transactions)) (l.store.phase % 2 == 0) en).1)
