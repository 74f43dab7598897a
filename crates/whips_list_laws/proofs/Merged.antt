-- The lists in the merge stay right, one after another, behind the rows of the store.
--
-- `step_merged`: where an event takes the lists of each view in order (`SettlesInOrder`), it keeps that the rows of a view once the transaction begun last is committed are its value at the last list begun, and that the lists that wait are right behind that (`FitsMerged`). `start_merged`: so it is at the start.
--
-- The idea: a list stays in its place while it goes from its manager to the merge, into a transaction, and into the store. A row set that becomes a transaction takes the first lists of each view, so what is taken and what is left, put together, are the lists as they came.
--
-- Three lemmas carry it: `taken_own` (of the taken lists those of one view are its own), `begun_next` (the rows after a transaction are those that its lists lead to) and `begins` (the oldest transaction is begun).
use Rattle.std.proofs.Common.{◌≡◌, ℕ, zero, suc, ◌+◌, ◌%◌, ◌<◌, ◌≤◌, ◌==◌, ◌&&◌, Bool, true, false, not, cond, List, [], ◌∷◌, ◌++◌, length, map, drop, Option, Some, None, slice_get, refl, sym, ap, ap₂, subst, ◌∙◌, arith, eqb-true, eq-eqb, append_assoc, append-nil}
use Rattle.std.specs.Prelude.{slice_index_or, filter, fold, is_some, replicate}
use Rattle.std.specs.List.{flat_map, AllByRecursion}
use Rattle.std.proofs.lemmas.Bool.{and_parts, eqb-false}
use Rattle.std.proofs.lemmas.List.{length-map}
use Rattle.whips_lists.proofs.ByPlace.{get_map_at, get_within}
use Rattle.whips_lists.proofs.Lists.{front_is, length_changed}
use Rattle.whips_lists.proofs.Options.{some_same, of_some_is}
use Rattle.whips_lists.specs.Lists.{changed_at, front, without_front}
use Rattle.whips_flow.specs.Painted.{Row}
use Rattle.whips_flow.specs.State.{Merge, NumberedTransaction}
use Rattle.whips_flow.specs.Settling.{settled_merge}
use Rattle.whips_flow.specs.Effects.{with_announced_row, with_waiting_list}
use Rattle.whips_flow.specs.declared.event.Event.{Event}
use Rattle.whips_flow.specs.declared.event.Event.TheVariants.{Commit, Answer, Integrate, Manage, Rel, Act, Begin, Change, Publish, SessionOpen, SessionScan, SessionFetch, SessionClose}
use Rattle.whips_choices.specs.KeyedViews.{KeyedView}
use Rattle.whips_rel.specs.declared.update.Change.{Change as RowChange}
use Rattle.whips_view.specs.ViewDefs.{View, keyed}
use Rattle.whips_actions.specs.declared.action.ActionList.{ActionList}
use Rattle.whips_actions.specs.Acts.{applied as made}
use Rattle.whips_facts.specs.Scripts.{Script}
use Rattle.whips_merge.specs.declared.lists.Transaction.{Transaction}
use Rattle.whips_merge.specs.Merging.{MergeState, covers_any, lists_of, with_transaction, with_merge, with_list}
use Rattle.whips_store.specs.Stores.{ViewState, StoreState, view_in, no_view}
use Rattle.whips_store.specs.Calls.{views_with, views_changed, changed_view}
use Rattle.whips_order.specs.declared.message.Message.{Message}
use Rattle.whips_order.specs.declared.message.Message.TheVariants.{Update, Reply as SentReply}
use Rattle.whips_faithful_laws.proofs.Shapes.{begun_length}
use Rattle.whips_contents.specs.Contents.{ManagerInput, Announcement, LoadedManager, LoadedPipeline, new_loaded_manager, start_loaded}
use Rattle.whips_contents.specs.Events.{rows_after, changes_of, changes_of_transaction, row_announced, after_integrate, after_input, after_manage, after_announcement, after_list, after_begin, oldest_message, oldest_list, is_enabled_loaded, is_full_for, next_loaded, step_loaded}
use Rattle.whips_stage_laws.specs.Fits.{FitsWork, value_after, ListsFit, Older, ManagerFits, FitsContents}
use Rattle.whips_stage_laws.proofs.Flights.{eqb-no, or_here, or_other, get_is}
use Rattle.whips_contents_laws.proofs.Follows.{commit_kept, answer_kept, integrate_kept}
use Rattle.whips_contents_laws.proofs.Kept.{manage_kept, with_list_of, act_kept, relisted, same_contents, rel_kept, begin_kept, start_fits, new_manager_fits, none_at}
use Rattle.whips_list_laws.specs.Merged.{of_view, lists_that_wait, older_of, begun_with, next_numbers, step_numbers, last_upto, TakesFirst, AllTakeFirst, TakesInOrder, RelInOrder, ActInOrder, SettlesInOrder, AreOwnLists, FitsMerged, IsFirstStore}

-- ---- lists of a view

all_own : (x : ℕ) (ls : List ActionList) → AllByRecursion (λ (l : ActionList). l.view ≡ x) ls → of_view x ls ≡ ls
all_own x [] h = refl
all_own x (l ∷ ls) h = ap₂ (λ b more. cond b (l ∷ more) more) (eq-eqb l.view x h.0) (all_own x ls h.1)

none_own : (x y : ℕ) (ls : List ActionList) → (y ≡ x → ⊥) → AllByRecursion (λ (l : ActionList). l.view ≡ y) ls → of_view x ls ≡ []
none_own x y [] ne h = refl
none_own x y (l ∷ ls) ne h = ap₂ (λ b more. cond b (l ∷ more) more) (eqb-no l.view x (λ e. ne (sym h.0 ∙ e))) (none_own x y ls ne h.1)

own_filter : (C : ActionList → Bool) (x : ℕ) (ls : List ActionList) → AllByRecursion (λ (l : ActionList). l.view ≡ x) ls → AllByRecursion (λ (l : ActionList). l.view ≡ x) (filter C ls)
own_filter C x [] h = tt
own_filter C x (l ∷ ls) h = elim (C l) as (λ b. AllByRecursion (λ (l : ActionList). l.view ≡ x) (cond b (l ∷ filter C ls) (filter C ls))) [ true ↦ (h.0, own_filter C x ls h.1) | false ↦ own_filter C x ls h.1 ]

of_view_push : (x : ℕ) (xs ys : List ActionList) → of_view x (xs ++ ys) ≡ of_view x xs ++ of_view x ys
of_view_push x [] ys = refl
of_view_push x (l ∷ xs) ys = elim (l.view == x) as (λ b. cond b (l ∷ of_view x (xs ++ ys)) (of_view x (xs ++ ys)) ≡ cond b (l ∷ of_view x xs) (of_view x xs) ++ of_view x ys) [ true ↦ ap (λ z. l ∷ z) (of_view_push x xs ys) | false ↦ of_view_push x xs ys ]

flat_push : {A B : Type 0} (g : A → List B) (xs : List A) (x : A) → flat_map g (xs ++ x ∷ []) ≡ flat_map g xs ++ g x
flat_push g [] x = append-nil (g x)
flat_push g (y ∷ xs) x = ap (λ z. g y ++ z) (flat_push g xs x) ∙ sym (append_assoc (g y) (flat_map g xs) (g x))

module _ (C : ActionList → Bool) where
  later_none : (x k : ℕ) (lists : List (List ActionList)) → x < k → AreOwnLists k lists → of_view x (flat_map (filter C) lists) ≡ []
  later_none x k [] lt h = refl
  later_none x k (ls ∷ lists) lt h = of_view_push x (filter C ls) (flat_map (filter C) lists) ∙ ap₂ (λ a b. a ++ b) (none_own x k (filter C ls) (λ e. omega (arith, e, lt)) (own_filter C k ls h.0)) (later_none x (suc k) lists (omega (arith, lt)) h.1)

  -- of the taken lists those of one view are the taken ones of its own
  pub taken_own : (k i x : ℕ) (lists : List (List ActionList)) → x ≡ k + i → AreOwnLists k lists → of_view x (flat_map (filter C) lists) ≡ filter C (slice_index_or lists i [])
  taken_own k i x [] e h = refl
  taken_own k zero x (ls ∷ lists) e h =
      let same : k ≡ x = omega (arith, e) in
      of_view_push x (filter C ls) (flat_map (filter C) lists) ∙ (ap₂ (λ a b. a ++ b) (all_own x (filter C ls) (own_filter C x ls (subst (λ n. AllByRecursion (λ (l : ActionList). l.view ≡ n) ls) same h.0))) (later_none x (suc k) lists (omega (arith, e)) h.1) ∙ append-nil (filter C ls))
  taken_own k (suc i) x (ls ∷ lists) e h =
      of_view_push x (filter C ls) (flat_map (filter C) lists) ∙ ap₂ (λ a b. a ++ b) (none_own x k (filter C ls) (λ q. omega (arith, q, e)) (own_filter C k ls h.0)) (taken_own (suc k) i x lists (omega (arith, e)) h.1)

  map_or : (i : ℕ) (lists : List (List ActionList)) → slice_index_or (map (filter C) lists) i [] ≡ filter C (slice_index_or lists i [])
  map_or i [] = refl
  map_or zero (ls ∷ lists) = refl
  map_or (suc i) (ls ∷ lists) = map_or i lists

  pub own_left : (k : ℕ) (lists : List (List ActionList)) → AreOwnLists k lists → AreOwnLists k (map (filter C) lists)
  own_left k [] h = tt
  own_left k (ls ∷ lists) h = (own_filter C k ls h.0, own_left (suc k) lists h.1)

-- ---- row sets become transactions

set_waits : (x : ℕ) (m : MergeState) (rows : List Row) → AreOwnLists 0 m.lists → TakesFirst rows m.lists → lists_that_wait x (with_transaction m rows) ≡ lists_that_wait x m
set_waits x m rows own takes =
    ap₂ (λ a b. a ++ b) (flat_push (λ (t : Transaction). of_view x t.lists) m.transactions (record { rows = map (λ (r : Row). r.number) rows; lists = lists_of rows m.lists; cut = _ })) (map_or (λ l. not (covers_any rows l)) x m.lists)
    ∙ (append_assoc (flat_map (λ (t : Transaction). of_view x t.lists) m.transactions) (of_view x (lists_of rows m.lists)) (filter (λ l. not (covers_any rows l)) (slice_index_or m.lists x []))
    ∙ ap (λ z. flat_map (λ (t : Transaction). of_view x t.lists) m.transactions ++ z) (ap (λ z. z ++ filter (λ l. not (covers_any rows l)) (slice_index_or m.lists x [])) (taken_own (covers_any rows) 0 x x m.lists (omega arith) own) ∙ whole (slice_get m.lists x) refl))
  where
    past : (lists : List (List ActionList)) (i : ℕ) → slice_get lists i ≡ None → slice_index_or lists i [] ≡ []
    past [] i e = refl
    past (ls ∷ lists) zero e = absurd (cc)
    past (ls ∷ lists) (suc i) e = past lists i e

    whole : (o : Option (List ActionList)) → slice_get m.lists x ≡ o → filter (covers_any rows) (slice_index_or m.lists x []) ++ filter (λ l. not (covers_any rows l)) (slice_index_or m.lists x []) ≡ slice_index_or m.lists x []
    whole None e = subst (λ ls. filter (covers_any rows) ls ++ filter (λ l. not (covers_any rows l)) ls ≡ ls) (sym (past m.lists x e)) refl
    whole (Some ls) e = takes x (slice_index_or m.lists x []) (e ∙ ap (λ z. Some z) (sym (get_is m.lists x ls [] e)))

sets_wait : (x : ℕ) (sets : List (List Row)) (m : MergeState) → AreOwnLists 0 m.lists → AllTakeFirst m sets → (lists_that_wait x (fold with_transaction m sets) ≡ lists_that_wait x m) × AreOwnLists 0 (fold with_transaction m sets).lists × (length (fold with_transaction m sets).lists ≡ length m.lists)
sets_wait x [] m own takes = (refl, own, refl)
sets_wait x (rows ∷ sets) m own takes =
    let ih = sets_wait x sets (with_transaction m rows) (own_left (λ l. not (covers_any rows l)) 0 m.lists own) takes.1 in
    (ih.0 ∙ set_waits x m rows own takes.0, ih.1, ih.2 ∙ length-map m.lists (filter (λ l. not (covers_any rows l))))

settled_waits : (x : ℕ) (g : Merge) (m : MergeState) → AreOwnLists 0 m.lists → TakesInOrder g m → (lists_that_wait x (with_merge g m) ≡ lists_that_wait x m) × AreOwnLists 0 (with_merge g m).lists × (length (with_merge g m).lists ≡ length m.lists)
settled_waits x g m own takes = sets_wait x (drop (length m.merge.row_sets) g.row_sets) (record m { merge = g }) own takes

-- ---- one list after another

module _ (sc : Script) (v : KeyedView) (x : ℕ) (numbering : List NumberedTransaction) where
  -- the first lists take the value before them to the value after them
  lists_make : (first : ℕ) (xs ys : List ActionList) (last : ℕ) → first ≤ length numbering → ListsFit sc v x numbering first (xs ++ ys) last
      → (k : ℕ) × (k ≤ length numbering) × ListsFit sc v x numbering k ys last × (fold (λ rows (l : ActionList). made v l.actions rows) (value_after sc v numbering first) xs ≡ value_after sc v numbering k) × (last_upto first xs ≡ k)
  lists_make first [] ys last le h = (first, le, h, refl, refl)
  lists_make first (l ∷ xs) ys last le h =
      let ih = lists_make l.upto xs ys last h.1 h.3 in
      (ih.0, ih.1, ih.2, ap (λ rows. fold (λ rows (l : ActionList). made v l.actions rows) rows xs) h.2 ∙ ih.3, ih.4)

-- ---- the store

pub begun_next : (k i x : ℕ) (views : List View) (vs : List ViewState) (lists : List ActionList) (view : View) → x ≡ k + i → slice_get views i ≡ Some view → i < length vs
    → (slice_index_or (views_with vs (changes_of k views vs lists)) i no_view).next ≡ rows_after x view lists (slice_index_or vs i no_view).current
begun_next k i x [] vs lists view e at lt = absurd (cc)
begun_next k i x (w ∷ views) [] lists view e at lt = absurd (omega (arith, lt))
begun_next k zero x (w ∷ views) (v ∷ vs) lists view e at lt = let same : k ≡ x = omega (arith, e) in ap₂ (λ n w. rows_after n w lists v.current) same (some_same w view at)
begun_next k (suc i) x (w ∷ views) (v ∷ vs) lists view e at lt = begun_next (suc k) i x views vs lists view (omega (arith, e)) at (omega (arith, lt))

changed_rows : (n c : ℕ) (vs : List ViewState) (x : ℕ) → ((slice_index_or (views_changed n c vs) x no_view).next ≡ (slice_index_or vs x no_view).next) × ((slice_index_or (views_changed n c vs) x no_view).current ≡ (slice_index_or vs x no_view).current) × (length (views_changed n c vs) ≡ length vs)
changed_rows n c [] x = (refl, refl, refl)
changed_rows n c (v ∷ vs) x = go x v.left (λ y. changed_rows n c vs y)
  where
    go : (x : ℕ) (left : List RowChange) → ((y : ℕ) → ((slice_index_or (views_changed n c vs) y no_view).next ≡ (slice_index_or vs y no_view).next) × ((slice_index_or (views_changed n c vs) y no_view).current ≡ (slice_index_or vs y no_view).current) × (length (views_changed n c vs) ≡ length vs))
        → ((slice_index_or (elim left as (λ _. List ViewState) [ [] ↦ v ∷ views_changed n c vs | change ∷ others ↦ changed_view n c change others v ∷ vs ]) x no_view).next ≡ (slice_index_or (v ∷ vs) x no_view).next)
        × ((slice_index_or (elim left as (λ _. List ViewState) [ [] ↦ v ∷ views_changed n c vs | change ∷ others ↦ changed_view n c change others v ∷ vs ]) x no_view).current ≡ (slice_index_or (v ∷ vs) x no_view).current)
        × (length (elim left as (λ _. List ViewState) [ [] ↦ v ∷ views_changed n c vs | change ∷ others ↦ changed_view n c change others v ∷ vs ]) ≡ length (v ∷ vs))
    go zero [] ih = (refl, refl, ap suc (ih 0).2)
    go (suc x) [] ih = ((ih x).0, (ih x).1, ap suc (ih x).2)
    go zero (change ∷ others) ih = (refl, refl, refl)
    go (suc x) (change ∷ others) ih = (refl, refl, refl)

published_rows : (vs : List ViewState) (x : ℕ) → ((slice_index_or (map (λ (v : ViewState). record v { current = v.next }) vs) x no_view).next ≡ (slice_index_or vs x no_view).next) × ((slice_index_or (map (λ (v : ViewState). record v { current = v.next }) vs) x no_view).current ≡ (slice_index_or (map (λ (v : ViewState). record v { current = v.next }) vs) x no_view).next)
published_rows [] x = (refl, refl)
published_rows (v ∷ vs) zero = (refl, refl)
published_rows (v ∷ vs) (suc x) = published_rows vs x

-- ---- the events

module _ (s : Script) (l : LoadedPipeline) where
  -- lists and rows that are the same
  older_same : (older others : ℕ → Older) → ((x : ℕ) → older x ≡ others x) → FitsContents s older l → FitsContents s others l
  older_same older others e h = record { managers_long = h.managers_long; valid = h.valid; sources = h.sources; asks = h.asks; once = h.once; unnamed = h.unnamed; managers = λ x m at. subst (λ o. ManagerFits s o l.numbering x m) (e x) (h.managers x m at) }

module _ (s : Script) (fw : FitsWork s) (numbers : ℕ → ℕ) (l : LoadedPipeline) (h : FitsMerged s numbers l) where
  -- the merge and the store stay
  untouched : (k : LoadedPipeline) → k.merge ≡ l.merge → k.store ≡ l.store → FitsContents s (older_of numbers l) k → FitsMerged s numbers k
  untouched k merge store c = record {
    contents = older_same s k (older_of numbers l) (older_of numbers k) (λ x. ap₂ (λ m t. record { lists = lists_that_wait x m; rows = Some ((view_in t x).next); number = Some (numbers x) }) (sym merge) (sym store)) c;
    own = subst (λ m. AreOwnLists 0 m.lists) (sym merge) h.own;
    lists_long = ap (λ (m : MergeState). length m.lists) merge ∙ h.lists_long;
    store_long = ap (λ (t : StoreState). length t.views) store ∙ h.store_long;
    level = subst (λ t. t.phase % 2 ≡ 0 → (x : ℕ) → (view_in t x).current ≡ (view_in t x).next) (sym store) h.level;
  }

  pub integrated_same : (y : ℕ) (o : Option Message) → ((after_integrate s.setup y o l).merge ≡ l.merge) × ((after_integrate s.setup y o l).store ≡ l.store)
  integrated_same y None = (refl, refl)
  integrated_same y (Some (Update t)) = (refl, refl)
  integrated_same y (Some (SentReply r)) = (refl, refl)

  pub managed_same : (x : ℕ) (o : Option LoadedManager) → ((after_manage x o l).merge ≡ l.merge) × ((after_manage x o l).store ≡ l.store)
  managed_same x None = (refl, refl)
  managed_same x (Some m) = go (front m.messages)
    where
      go : (i : Option ManagerInput) → ((after_input x m i l).merge ≡ l.merge) × ((after_input x m i l).store ≡ l.store)
      go None = (refl, refl)
      go (Some i) = (refl, refl)

  released : (o : Option Announcement) → RelInOrder l.merge o → FitsMerged s numbers (after_announcement o l)
  released None order = h
  released (Some a) order =
      let g = settled_merge (with_announced_row (row_announced (length l.merge.lists) a) l.merge.merge) in
      record {
        contents = older_same s (after_announcement (Some a) l) (older_of numbers l) (older_of numbers (after_announcement (Some a) l)) (λ x. ap (λ ls. record { lists = ls; rows = Some ((view_in l.store x).next); number = Some (numbers x) }) (sym (settled_waits x g l.merge h.own order).0)) (rel_kept s (older_of numbers l) fw l h.contents (Some a));
        own = (settled_waits 0 g l.merge h.own order).1;
        lists_long = (settled_waits 0 g l.merge h.own order).2 ∙ h.lists_long;
        store_long = h.store_long;
        level = h.level;
      }

  acted : (x : ℕ) (o : Option ActionList) → oldest_list l x ≡ o → ActInOrder l.merge o → FitsMerged s numbers (after_list x o l)
  acted x None e order = h
  acted x (Some list) e order =
      let g = settled_merge (with_waiting_list list.view list.upto l.merge.merge) in
      record {
        contents = older_same s (after_list x (Some list) l) (with_list_of s (older_of numbers l) fw l h.contents x list) (older_of numbers (after_list x (Some list) l))
            (λ w. ap (λ ls. record { lists = ls; rows = Some ((view_in l.store w).next); number = Some (numbers w) }) (pushed w ∙ sym (settled_waits w g (with_list list l.merge) own_pushed order).0)) (act_kept s (older_of numbers l) fw l h.contents x list e);
        own = (settled_waits 0 g (with_list list l.merge) own_pushed order).1;
        lists_long = (settled_waits 0 g (with_list list l.merge) own_pushed order).2 ∙ (length_changed (λ ls. ls ++ list ∷ []) list.view l.merge.lists ∙ h.lists_long);
        store_long = h.store_long;
        level = h.level;
      }
    where
      m : (m : LoadedManager) × (slice_get l.managers x ≡ Some m) × (front m.lists ≡ Some list)
      m = of_some_is (slice_get l.managers x) (λ m. front m.lists) list e

      in_chain : (older ls : List ActionList) (first last : ℕ) (v : KeyedView) → ListsFit s v x l.numbering first (older ++ list ∷ ls) last → list.view ≡ x
      in_chain [] ls first last v f = f.0
      in_chain (a ∷ older) ls first last v f = in_chain older ls a.upto last v f.3

      view_is : list.view ≡ x
      view_is = let f = h.contents.managers x m.0 m.1 in in_chain (lists_that_wait x l.merge) (without_front m.0.lists) f.first_list f.last_list (keyed m.0.manager.view) (subst (λ ls. ListsFit s (keyed m.0.manager.view) x l.numbering f.first_list (lists_that_wait x l.merge ++ ls) f.last_list) (front_is m.0.lists list m.2) f.lists)

      there : list.view < length l.merge.lists
      there = omega (arith, view_is, h.lists_long, get_within x s.setup.views m.0.manager.view (h.contents.managers x m.0 m.1).view)

      own_push : (k i : ℕ) (lists : List (List ActionList)) → list.view ≡ k + i → AreOwnLists k lists → AreOwnLists k (changed_at i (λ ls. ls ++ list ∷ []) lists)
      own_push k i [] q f = tt
      own_push k zero (ls ∷ lists) q f = (last ls f.0, f.1)
        where
          last : (ls : List ActionList) → AllByRecursion (λ (l : ActionList). l.view ≡ k) ls → AllByRecursion (λ (l : ActionList). l.view ≡ k) (ls ++ list ∷ [])
          last [] g = (omega (arith, q), tt)
          last (a ∷ ls) g = (g.0, last ls g.1)
      own_push k (suc i) (ls ∷ lists) q f = (f.0, own_push (suc k) i lists (omega (arith, q)) f.1)

      own_pushed : AreOwnLists 0 (with_list list l.merge).lists
      own_pushed = own_push 0 list.view l.merge.lists (omega arith) h.own

      pushed : (w : ℕ) → cond (w == x) (lists_that_wait w l.merge ++ list ∷ []) (lists_that_wait w l.merge) ≡ lists_that_wait w (with_list list l.merge)
      pushed w = go (w == x) refl
        where
          go : (b : Bool) → (w == x) ≡ b → cond b (lists_that_wait w l.merge ++ list ∷ []) (lists_that_wait w l.merge) ≡ lists_that_wait w (with_list list l.merge)
          go true q =
              let same : list.view ≡ w = view_is ∙ sym (eqb-true w x q) in
              append_assoc (flat_map (λ (t : Transaction). of_view w t.lists) l.merge.transactions) (slice_index_or l.merge.lists w []) (list ∷ [])
              ∙ ap (λ z. flat_map (λ (t : Transaction). of_view w t.lists) l.merge.transactions ++ z) (sym (subst (λ n. slice_index_or (changed_at list.view (λ ls. ls ++ list ∷ []) l.merge.lists) n [] ≡ slice_index_or l.merge.lists n [] ++ list ∷ []) same (or_here (λ ls. ls ++ list ∷ []) list.view l.merge.lists [] there)))
          go false q = ap (λ z. flat_map (λ (t : Transaction). of_view w t.lists) l.merge.transactions ++ z) (sym (or_other (λ ls. ls ++ list ∷ []) list.view w l.merge.lists [] (λ same. eqb-false w x q (same ∙ view_is))))

  pub begins : (o : Option Transaction) → front l.merge.transactions ≡ o → l.store.phase % 2 ≡ 0 → FitsMerged s (begun_with o numbers) (after_begin s.setup o l)
  begins None e even = h
  begins (Some t) e even = record {
    contents = relisted s (older_of numbers l) fw (after_begin s.setup (Some t) l) (begin_kept s (older_of numbers l) fw l h.contents (Some t)) (older_of (begun_with (Some t) numbers) (after_begin s.setup (Some t) l)) move;
    own = h.own;
    lists_long = h.lists_long;
    store_long = begun_length l.store.views (changes_of_transaction s.setup l.store t) ∙ h.store_long;
    level = λ odd. absurd (omega (arith, odd, even));
  }
    where
      waits : (w : ℕ) → lists_that_wait w l.merge ≡ of_view w t.lists ++ lists_that_wait w (after_begin s.setup (Some t) l).merge
      waits w = ap (λ ts. flat_map (λ (t : Transaction). of_view w t.lists) ts ++ slice_index_or l.merge.lists w []) (front_is l.merge.transactions t e)
          ∙ append_assoc (of_view w t.lists) (flat_map (λ (t : Transaction). of_view w t.lists) (without_front l.merge.transactions)) (slice_index_or l.merge.lists w [])

      move : (w : ℕ) (m : LoadedManager) (first last : ℕ) → slice_get l.managers w ≡ Some m → first ≤ length l.numbering → ListsFit s (keyed m.manager.view) w l.numbering first (lists_that_wait w l.merge ++ m.lists) last → (view_in l.store w).next ≡ value_after s (keyed m.manager.view) l.numbering first → numbers w ≡ first
          → (k : ℕ) × (k ≤ length l.numbering) × ListsFit s (keyed m.manager.view) w l.numbering k (lists_that_wait w (after_begin s.setup (Some t) l).merge ++ m.lists) last × ((view_in (after_begin s.setup (Some t) l).store w).next ≡ value_after s (keyed m.manager.view) l.numbering k) × (last_upto (numbers w) (of_view w t.lists) ≡ k)
      move w m first last at le f rows count =
          let there = (h.contents.managers w m at).view in
          let cut = lists_make s (keyed m.manager.view) w l.numbering first (of_view w t.lists) (lists_that_wait w (after_begin s.setup (Some t) l).merge ++ m.lists) last le
          (subst (λ ls. ListsFit s (keyed m.manager.view) w l.numbering first ls last) (ap (λ ls. ls ++ m.lists) (waits w) ∙ append_assoc (of_view w t.lists) (lists_that_wait w (after_begin s.setup (Some t) l).merge) m.lists) f) in (
            cut.0,
            cut.1,
            cut.2,
            begun_next 0 w w s.setup.views l.store.views t.lists m.manager.view (omega arith) there (omega (arith, h.store_long, get_within w s.setup.views m.manager.view there))
                ∙ (ap (rows_after w m.manager.view t.lists) (h.level even w ∙ rows) ∙ cut.3),
            ap (λ n. last_upto n (of_view w t.lists)) count ∙ cut.4,
          )

  changes : FitsMerged s numbers (next_loaded s.setup l Change)
  changes = record {
    contents = older_same s (next_loaded s.setup l Change) (older_of numbers l) (older_of numbers (next_loaded s.setup l Change)) (λ x. ap (λ rows. record { lists = lists_that_wait x l.merge; rows = Some rows; number = Some (numbers x) }) (sym (changed_rows l.store.versions _ l.store.views x).0)) (same_contents s (older_of numbers l) fw l h.contents (next_loaded s.setup l Change));
    own = h.own;
    lists_long = h.lists_long;
    store_long = (changed_rows l.store.versions _ l.store.views 0).2 ∙ h.store_long;
    level = λ even x. (changed_rows l.store.versions _ l.store.views x).1 ∙ (h.level even x ∙ sym (changed_rows l.store.versions _ l.store.views x).0);
  }

  publishes : FitsMerged s numbers (next_loaded s.setup l Publish)
  publishes = record {
    contents = older_same s (next_loaded s.setup l Publish) (older_of numbers l) (older_of numbers (next_loaded s.setup l Publish)) (λ x. ap (λ rows. record { lists = lists_that_wait x l.merge; rows = Some rows; number = Some (numbers x) }) (sym (published_rows l.store.views x).0)) (same_contents s (older_of numbers l) fw l h.contents (next_loaded s.setup l Publish));
    own = h.own;
    lists_long = h.lists_long;
    store_long = length-map l.store.views (λ (v : ViewState). record v { current = v.next }) ∙ h.store_long;
    level = λ even x. (published_rows l.store.views x).1;
  }

  next_merged : (e : Event) → is_enabled_loaded l e ≡ true → SettlesInOrder l e → FitsMerged s (next_numbers l e numbers) (next_loaded s.setup l e)
  next_merged (Commit y) en order = untouched (next_loaded s.setup l (Commit y)) refl refl (commit_kept s (older_of numbers l) fw l h.contents y en)
  next_merged (Answer y x) en order = untouched (next_loaded s.setup l (Answer y x)) refl refl (answer_kept s (older_of numbers l) fw l h.contents y x)
  next_merged (Integrate y) en order = let k = integrated_same y (oldest_message l y) in untouched (next_loaded s.setup l (Integrate y)) k.0 k.1 (integrate_kept s (older_of numbers l) fw l h.contents y)
  next_merged (Manage x) en order = let k = managed_same x (slice_get l.managers x) in untouched (next_loaded s.setup l (Manage x)) k.0 k.1 (manage_kept s (older_of numbers l) fw l h.contents x)
  next_merged Rel en order = released (front l.announcements) order
  next_merged (Act x) en order = acted x (oldest_list l x) refl order
  next_merged Begin en order = begins (front l.merge.transactions) refl (eqb-true (l.store.phase % 2) 0 (and_parts (is_some (front l.merge.transactions)) (l.store.phase % 2 == 0) en).1)
  next_merged Change en order = changes
  next_merged Publish en order = publishes
  next_merged (SessionOpen v) en order = h
  next_merged (SessionScan v x) en order = h
  next_merged (SessionFetch v n) en order = h
  next_merged (SessionClose v) en order = h

  pub step_merged : (e : Event) → SettlesInOrder l e → FitsMerged s (step_numbers s.setup l e numbers) (step_loaded s.setup l e)
  step_merged e order = elim (is_enabled_loaded l e && not (is_full_for s.setup l e)) as (λ b. (is_enabled_loaded l e && not (is_full_for s.setup l e)) ≡ b → FitsMerged s (cond b (next_numbers l e numbers) numbers) (cond b (next_loaded s.setup l e) l)) [
    | true ↦ λ d. next_merged e (and_parts (is_enabled_loaded l e) (not (is_full_for s.setup l e)) d).0 order
    | false ↦ λ d. h
  ] refl

none_own_at : (k n : ℕ) → AreOwnLists k (replicate n [])
none_own_at k zero = tt
none_own_at k (suc n) = (tt, none_own_at (suc k) n)

copies_long : {A : Type 0} (n : ℕ) (x : A) → length (replicate n x) ≡ n
copies_long zero x = refl
copies_long (suc n) x = ap suc (copies_long n x)

pub start_merged : (s : Script) (store : StoreState) → FitsWork s → IsFirstStore s.setup store → FitsMerged s (λ x. 0) (start_loaded s.setup s.work store)
start_merged s store fw first =
    let h = start_fits s store fw in
    record {
      contents = record {
        managers_long = h.managers_long;
        valid = h.valid;
        sources = h.sources;
        asks = h.asks;
        once = h.once;
        unnamed = h.unnamed;
        managers = λ x m e.
            let k = get_map_at new_loaded_manager 0 x x s.setup.views m (omega arith) e in
            subst (λ m. ManagerFits s (older_of (λ x. 0) (start_loaded s.setup s.work store) x) [] x m) k.2
            (new_manager_fits s store fw (older_of (λ x. 0) (start_loaded s.setup s.work store) x) x k.0 (none_at {A = List ActionList} [] (length s.setup.views) x) (first.rows x k.0 k.1) refl k.1);
      };
      own = none_own_at 0 (length s.setup.views);
      lists_long = copies_long {A = List ActionList} (length s.setup.views) [];
      store_long = first.long;
      level = λ even x. first.level x;
    }
