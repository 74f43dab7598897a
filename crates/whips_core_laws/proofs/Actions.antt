-- After every list of events the actions of each list are those of its view.
use Rattle.std.proofs.Common.{◌≡◌, inl, inr, ℕ, zero, suc, ◌&&◌, Bool, true, false, not, cond, List, [], ◌∷◌, ◌++◌, length, map, drop, Option, Some, None, refl, sym, subst, ◌∙◌, arith}
use Rattle.std.specs.Prelude.{slice_get, filter, fold, replicate}
use Rattle.std.specs.Option.{option_map, option_and_then}
use Rattle.std.specs.List.{AllByRecursion, flat_map}
use Rattle.whips_lists.specs.Lists.{changed_at, front, without_front}
use Rattle.whips_lists.proofs.Options.{some_same}
use Rattle.whips_lists.proofs.ByPlace.{get_cases, get_map_at}
use Rattle.whips_lists.proofs.Alls.{all_append, all_more}
use Rattle.whips_choices.specs.Partials.{Partial}
use Rattle.whips_states.specs.States.{Updates}
use Rattle.whips_view.specs.ViewDefs.{View, keyed, row_columns}
use Rattle.whips_actions.specs.declared.action.Action.{Action}
use Rattle.whips_actions.specs.declared.action.ActionList.{ActionList}
use Rattle.whips_actions.specs.Lists.{IsActionOf, AreActionsOf}
use Rattle.whips_managers.specs.Managers.{Query, ManagerState, is_named, has_next, with_step, with_answer, with_reply_to, with_reply_behind, list_where, kept_where}
use Rattle.whips_strobe.specs.Strobes.{IsStateOf}
use Rattle.whips_strobe.specs.Outs.{list_by}
use Rattle.whips_strobe.proofs.Sound.{sound_transaction}
use Rattle.whips_flow.specs.Painted.{Row}
use Rattle.whips_flow.specs.declared.event.Event.{Event}
use Rattle.whips_flow.specs.declared.event.Event.TheVariants.{Commit, Answer, Integrate, Manage, Rel, Act, Begin, Change, Publish, SessionOpen, SessionScan, SessionFetch, SessionClose}
use Rattle.whips_setup.specs.Setups.{SetupData}
use Rattle.whips_order.specs.declared.message.Message.{Message}
use Rattle.whips_order.specs.declared.message.Message.TheVariants.{Update, Reply as SentReply}
use Rattle.whips_order.specs.Numbering.{next_of, concerned_views}
use Rattle.whips_merge.specs.declared.lists.Transaction.{Transaction}
use Rattle.whips_merge.specs.Merging.{MergeState, covers_any, with_transaction, with_list}
use Rattle.whips_flow.specs.Settling.{settled_merge}
use Rattle.whips_flow.specs.Effects.{with_announced_row, with_waiting_list}
use Rattle.whips_store.specs.Stores.{StoreState}
use Rattle.whips_contents.specs.Contents.{ManagerInput, numbered_transaction, reply_to_ask, Announcement, LoadedManager, LoadedPipeline, new_loaded_manager, start_loaded}
use Rattle.whips_contents.specs.Events.{with_input, all_with_input, after_integrate, oldest_message, state_after_input, list_or_none, manager_after_input, after_input, after_manage, after_announcement, without_oldest_list, after_list, row_announced, oldest_list, after_begin, is_enabled_loaded, is_full_for, next_loaded, step_loaded}
use Rattle.whips_core_laws.specs.Calls.{FitsInput, IsListOf}

-- ---- a manager

-- the actions of a manager after a reply
reply_actions : (view : View) (m : ManagerState) (before qs : List Query) (transaction origin : ℕ) (ps : List Partial) → AreActionsOf view m.actions → AreActionsOf view (with_reply_behind (keyed view) (row_columns view) m before qs transaction origin ps).actions
reply_actions view m before [] transaction origin ps h = h
reply_actions view m before (q ∷ after) transaction origin ps h = elim (is_named transaction origin q) as (λ b. AreActionsOf view (cond b (with_reply_to (keyed view) (row_columns view) m before q ps after) (with_reply_behind (keyed view) (row_columns view) m (before ++ q ∷ []) after transaction origin ps)).actions) [
  | true ↦ elim (has_next (keyed view) q) as (λ b. AreActionsOf view (cond b (with_step m before q ps after) (with_answer (keyed view) (row_columns view) m before q ps after)).actions) [ true ↦ h | false ↦ all_more (IsActionOf view) m.actions _ h refl ]
  | false ↦ reply_actions view m (before ++ q ∷ []) after transaction origin ps h
]

kept_actions : (view : View) (qs : List Query) (actions : List Action) → AreActionsOf view actions → AreActionsOf view (kept_where qs actions)
kept_actions view [] actions h = tt
kept_actions view (q ∷ qs) actions h = h

abbrev Lists : List View → List ActionList → Type 0
Lists views ls = AllByRecursion (IsListOf views) ls

abbrev Good : List View → LoadedManager → Type 0
Good views m = AreActionsOf m.manager.view m.manager.state.actions × Lists views m.lists

abbrev Managers : List View → List LoadedManager → Type 0
Managers views ms = (x : ℕ) (m : LoadedManager) → slice_get ms x ≡ Some m → Good views m

-- the list that leaves is of its view
left_list : (views : List View) (view : View) (number last : ℕ) (actions : List Action) (qs : List Query) → slice_get views number ≡ Some view → AreActionsOf view actions
    → Lists views (list_or_none (option_map (λ (a : List Action). record { view = number; upto = last; actions = a }) (list_where qs actions)))
left_list views view number last actions [] there h = (λ v at. subst (λ w. AreActionsOf w actions) (some_same view v (sym there ∙ at)) h, tt)
left_list views view number last actions (q ∷ qs) there h = tt

module _ (views : List View) where
  changed : (g : LoadedManager → LoadedManager) (i : ℕ) (ms : List LoadedManager) → Managers views ms → ((m : LoadedManager) → slice_get ms i ≡ Some m → Good views (g m)) → Managers views (changed_at i g ms)
  changed g i ms h here x m e = elim (get_cases g i x ms m e) [
    | inl (place, (old, is, made)) ↦ subst (Good views) made (here old is)
    | inr other ↦ h x m other.1
  ]

  all_sent : (i : ManagerInput) (xs : List ℕ) (ms : List LoadedManager) → Managers views ms → Managers views (all_with_input i ms xs)
  all_sent i [] ms h = h
  all_sent i (x ∷ xs) ms h = all_sent i xs (changed_at x (with_input i) ms) (changed (with_input i) x ms h (λ m at. h x m at))

  -- ---- the merge

  some_left : (p : ActionList → Bool) (ls : List ActionList) → Lists views ls → Lists views (filter p ls)
  some_left p [] h = tt
  some_left p (l ∷ ls) h = elim (p l) as (λ b. Lists views (cond b (l ∷ filter p ls) (filter p ls))) [ true ↦ (h.0, some_left p ls h.1) | false ↦ some_left p ls h.1 ]

  all_left : (p : ActionList → Bool) (lists : List (List ActionList)) → AllByRecursion (Lists views) lists → AllByRecursion (Lists views) (map (filter p) lists)
  all_left p [] h = tt
  all_left p (ls ∷ lists) h = (some_left p ls h.0, all_left p lists h.1)

  all_taken : (p : ActionList → Bool) (lists : List (List ActionList)) → AllByRecursion (Lists views) lists → Lists views (flat_map (filter p) lists)
  all_taken p [] h = tt
  all_taken p (ls ∷ lists) h = all_append (IsListOf views) (filter p ls) (flat_map (filter p) lists) (some_left p ls h.0) (all_taken p lists h.1)

  abbrev Waits : MergeState → Type 0
  Waits m = AllByRecursion (Lists views) m.lists × AllByRecursion (λ (t : Transaction). Lists views t.lists) m.transactions

  settled : (sets : List (List Row)) (m : MergeState) → Waits m → Waits (fold with_transaction m sets)
  settled [] m h = h
  settled (rows ∷ sets) m h = settled sets (with_transaction m rows) (all_left (λ l. not (covers_any rows l)) m.lists h.0, all_more (λ (t : Transaction). Lists views t.lists) m.transactions _ h.1 (all_taken (covers_any rows) m.lists h.0))

  more : (i : ℕ) (l : ActionList) (lists : List (List ActionList)) → IsListOf views l → AllByRecursion (Lists views) lists → AllByRecursion (Lists views) (changed_at i (λ ls. ls ++ l ∷ []) lists)
  more i l [] own h = tt
  more zero l (ls ∷ lists) own h = (all_more (IsListOf views) ls l h.0 own, h.1)
  more (suc i) l (ls ∷ lists) own h = (h.0, more i l lists own h.1)

-- What holds of the managers' lists, of those in the merge and of those of the transactions that wait.
pub record HaveActions (views : List View) (l : LoadedPipeline) : Type 0 where
  pub managers : Managers views l.managers
  pub waiting : AllByRecursion (Lists views) l.merge.lists
  pub transactions : AllByRecursion (λ (t : Transaction). Lists views t.lists) l.merge.transactions

-- ---- one event

module _ (s : SetupData) (l : LoadedPipeline) (h : HaveActions s.views l)
    (state : (x : ℕ) (m : LoadedManager) → slice_get l.managers x ≡ Some m → AreActionsOf m.manager.view m.manager.state.actions → IsStateOf m.manager.view m.manager.state)
    (there : (x : ℕ) (m : LoadedManager) → slice_get l.managers x ≡ Some m → slice_get s.views m.manager.number ≡ Some m.manager.view)
    (inputs : (x : ℕ) (m : LoadedManager) (i : ManagerInput) → slice_get l.managers x ≡ Some m → front m.messages ≡ Some i → FitsInput m.manager i) where
  integrated : (y : ℕ) (o : Option Message) → HaveActions s.views (after_integrate s y o l)
  integrated y None = h
  integrated y (Some (Update t)) = record { managers = all_sent s.views (numbered_transaction (next_of l.numbering y) t) (concerned_views s.views t) l.managers h.managers; waiting = h.waiting; transactions = h.transactions }
  integrated y (Some (SentReply r)) = record { managers = changed s.views (with_input (reply_to_ask r)) r.view l.managers h.managers (λ m at. h.managers r.view m at); waiting = h.waiting; transactions = h.transactions }

  after_actions : (x : ℕ) (m : LoadedManager) (i : ManagerInput) → slice_get l.managers x ≡ Some m → front m.messages ≡ Some i → AreActionsOf m.manager.view (state_after_input m.manager i).actions
  after_actions x m (numbered_transaction n t) at first =
      let fits = inputs x m (numbered_transaction n t) at first in
      (sound_transaction m.manager.view m.manager.state n.number t fits.1 fits.2 (state x m at (h.managers x m at).0)).actions
  after_actions x m (reply_to_ask r) at first = reply_actions m.manager.view m.manager.state [] m.manager.state.queries r.update r.origin r.partials (h.managers x m at).0

  taken : (x : ℕ) (m : LoadedManager) → slice_get l.managers x ≡ Some m → (o : Option ManagerInput) → front m.messages ≡ o → HaveActions s.views (after_input x m o l)
  taken x m at None first = h
  taken x m at (Some i) first = record {
    managers = changed s.views (manager_after_input i) x l.managers h.managers (λ old is. subst (λ z. Good s.views (manager_after_input i z)) (some_same m old (sym at ∙ is)) (
      kept_actions m.manager.view (state_after_input m.manager i).queries (state_after_input m.manager i).actions (after_actions x m i at first),
      all_append (IsListOf s.views) m.lists (list_or_none (list_by m.manager.number (state_after_input m.manager i))) (h.managers x m at).1
          (left_list s.views m.manager.view m.manager.number (state_after_input m.manager i).last (state_after_input m.manager i).actions (state_after_input m.manager i).queries (there x m at) (after_actions x m i at first)),
    ));
    waiting = h.waiting;
    transactions = h.transactions;
  }

  managed : (x : ℕ) (o : Option LoadedManager) → slice_get l.managers x ≡ o → HaveActions s.views (after_manage x o l)
  managed x None at = h
  managed x (Some m) at = taken x m at (front m.messages) refl

  released : (o : Option Announcement) → HaveActions s.views (after_announcement o l)
  released None = h
  released (Some a) =
      let g = settled_merge (with_announced_row (row_announced (length l.merge.lists) a) l.merge.merge) in
      let w = settled s.views (drop (length l.merge.merge.row_sets) g.row_sets) (record (l.merge) { merge = g }) (h.waiting, h.transactions) in
      record { managers = h.managers; waiting = w.0; transactions = w.1 }

  oldest_of : (m : LoadedManager) (ls : List ActionList) → Lists s.views ls → (a : ActionList) → front ls ≡ Some a → IsListOf s.views a
  oldest_of m [] g a e = absurd (cc)
  oldest_of m (b ∷ ls) g a e = subst (IsListOf s.views) (some_same b a e) g.0

  fewer : (ls : List ActionList) → Lists s.views ls → Lists s.views (without_front ls)
  fewer [] g = tt
  fewer (b ∷ ls) g = g.1

  acted : (x : ℕ) (o : Option ActionList) → oldest_list l x ≡ o → HaveActions s.views (after_list x o l)
  acted x None e = h
  acted x (Some a) e =
      let own = own_list (slice_get l.managers x) refl e in
      let g = settled_merge (with_waiting_list a.view a.upto l.merge.merge) in
      let w = settled s.views (drop (length l.merge.merge.row_sets) g.row_sets) (record (with_list a l.merge) { merge = g }) (more s.views a.view a l.merge.lists own h.waiting, h.transactions) in
      record { managers = changed s.views without_oldest_list x l.managers h.managers (λ m at. ((h.managers x m at).0, fewer m.lists (h.managers x m at).1)); waiting = w.0; transactions = w.1 }
    where
      own_list : (o : Option LoadedManager) → slice_get l.managers x ≡ o → option_and_then (λ (m : LoadedManager). front m.lists) o ≡ Some a → IsListOf s.views a
      own_list None at q = absurd (cc)
      own_list (Some m) at q = oldest_of m m.lists (h.managers x m at).1 a q

  begun : (o : Option Transaction) → HaveActions s.views (after_begin s o l)
  begun None = h
  begun (Some t) = record { managers = h.managers; waiting = h.waiting; transactions = behind l.merge.transactions h.transactions }
    where
      behind : (ts : List Transaction) → AllByRecursion (λ (t : Transaction). Lists s.views t.lists) ts → AllByRecursion (λ (t : Transaction). Lists s.views t.lists) (without_front ts)
      behind [] g = tt
      behind (t ∷ ts) g = g.1

  next_actions : (e : Event) → HaveActions s.views (next_loaded s l e)
  next_actions (Commit y) = record { managers = h.managers; waiting = h.waiting; transactions = h.transactions }
  next_actions (Answer y x) = record { managers = h.managers; waiting = h.waiting; transactions = h.transactions }
  next_actions (Integrate y) = integrated y (oldest_message l y)
  next_actions (Manage x) = managed x (slice_get l.managers x) refl
  next_actions Rel = released (front l.announcements)
  next_actions (Act x) = acted x (oldest_list l x) refl
  next_actions Begin = begun (front l.merge.transactions)
  next_actions Change = record { managers = h.managers; waiting = h.waiting; transactions = h.transactions }
  next_actions Publish = record { managers = h.managers; waiting = h.waiting; transactions = h.transactions }
  next_actions (SessionOpen v) = h
  next_actions (SessionScan v x) = h
  next_actions (SessionFetch v n) = h
  next_actions (SessionClose v) = h

  pub step_actions : (e : Event) → HaveActions s.views (step_loaded s l e)
  step_actions e = elim (is_enabled_loaded l e && not (is_full_for s l e)) as (λ b. HaveActions s.views (cond b (next_loaded s l e) l)) [ true ↦ next_actions e | false ↦ h ]

-- ---- the start

none_wait : (views : List View) (n : ℕ) → AllByRecursion (Lists views) (replicate n [])
none_wait views zero = tt
none_wait views (suc n) = (tt, none_wait views n)

pub start_actions : (s : SetupData) (work : List (List Updates)) (store : StoreState) → HaveActions s.views (start_loaded s work store)
start_actions s work store = record {
  managers = λ x m e. let k = get_map_at new_loaded_manager 0 x x s.views m (omega arith) e in subst (Good s.views) k.2 (tt, tt);
  waiting = none_wait s.views (length s.views);
  transactions = tt;
}
