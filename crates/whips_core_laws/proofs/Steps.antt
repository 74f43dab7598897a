-- All that holds of the loaded pipeline, with the machine, its store and the lists of its views, is kept by every event.
--
-- `step_carried`: the record `Carried` of a moment is kept by every event; with it `projects` (the numbers go as the machine's state), `step_goes` (the store goes with the machine's writer) and `settles` (the event takes lists in order).
--
-- The idea: the laws of contents, numbers, lists, versions and stores each have a premise that another one gives. None needs more than the same moment, so one induction over the events carries them all.
--
-- Four lemmas carry it: `begins_right` and `leads` (the next transaction), and `rel_moved` and `act_moved` (the lists stay in their lines).
use Rattle.std.proofs.Common.{◌≡◌, ℕ, zero, suc, ◌%◌, ◌≤◌, ◌&&◌, ◌==◌, true, false, not, cond, List, [], ◌∷◌, ◌++◌, length, drop, Option, Some, None, ◌+◌, refl, sym, ap, subst, ◌∙◌, arith, eqb-true, append-nil}
use Rattle.std.specs.Prelude.{slice_get, map, is_some}
use Rattle.std.specs.Option.{option_and_then, option_map}
use Rattle.std.specs.List.{AllByRecursion}
use Rattle.std.proofs.lemmas.Bool.{and_parts}
use Rattle.std.proofs.lemmas.List.{drop_all}
use Rattle.whips_lists.proofs.Members.{has_none}
use Rattle.whips_lists.specs.Lists.{changed_at, front, without_front}
use Rattle.whips_lists.proofs.Lists.{front_is}
use Rattle.whips_lists.proofs.Options.{of_some_is, some_of}
use Rattle.whips_lists.proofs.ByPlace.{get_map}
use Rattle.whips_lists.specs.Members.{Has}
use Rattle.whips_flow.specs.Facts.{Facts}
use Rattle.whips_flow.specs.Painted.{Row}
use Rattle.whips_flow.specs.State.{QueryStep, update, reply, Manager, Pipeline, with_manager, with_source, oldest_message, oldest_manager_message}
use Rattle.whips_flow.specs.Effects.{after_integrate, after_message, without_message, without_manager_message, with_list_if_answered, after_rel as machine_rel, after_act as machine_act, after_begin as machine_begin, next_cut}
use Rattle.whips_flow.specs.Progress.{is_enabled, next, step}
use Rattle.whips_flow.specs.declared.event.Event.{Event}
use Rattle.whips_flow.specs.declared.event.Event.TheVariants.{Commit, Answer, Integrate, Manage, Rel, Act, Begin, Change, Publish, SessionOpen, SessionScan, SessionFetch, SessionClose}
use Rattle.whips_model.specs.Relation.{IsTable}
use Rattle.whips_settled_laws.proofs.Accounts.{IsOpen}
use Rattle.whips_settled_laws.proofs.Ends.{Sound, after_sound}
use Rattle.whips_view.specs.ViewDefs.{View, keyed, row_columns}
use Rattle.whips_actions.specs.declared.action.ActionList.{ActionList}
use Rattle.whips_setup.specs.Limits.{has_numbers_within}
use Rattle.whips_facts.specs.Scripts.{Script, value_at}
use Rattle.whips_facts.specs.ScriptFacts.{facts_of}
use Rattle.whips_facts.specs.Values.{IsValidScript, taken_sets}
use Rattle.whips_managers.specs.Managers.{Query}
use Rattle.whips_merge.specs.declared.lists.Transaction.{Transaction}
use Rattle.whips_merge.specs.Merging.{MergeState}
use Rattle.whips_store.specs.Stores.{StoreState, view_in}
use Rattle.whips_facts_laws.proofs.Premises.{asks_there}
use Rattle.whips_version_laws.proofs.Kept.{Kept, step_kept as machine_kept}
use Rattle.whips_faithful_laws.specs.Scans.{IsLater}
use Rattle.whips_faithful_laws.proofs.Scans.{later_itself}
use Rattle.whips_writer_laws.specs.Writers.{GoesWith, IsMove}
use Rattle.whips_writer_laws.proofs.Events.{events}
use Rattle.whips_contents.specs.Contents.{ManagerInput, numbered_transaction, reply_to_ask, Announcement, LoadedManager, LoadedPipeline}
use Rattle.whips_contents.specs.Events.{row_announced, oldest_message as loaded_message, oldest_list, after_announcement, after_list, after_begin, is_enabled_loaded, is_full_for, next_loaded, step_loaded, changes_of_transaction}
use Rattle.whips_contents.specs.Tokens.{tokens, input_token, open_step, manager_tokens}
use Rattle.whips_contents.proofs.Changes.{map_front, map_get}
use Rattle.whips_stage_laws.specs.Fits.{FitsWork, FitsContents, no_older, AnswersOn, InputsFit, ListsFit}
use Rattle.whips_contents_laws.proofs.Kept.{step_kept}
use Rattle.whips_token_laws.specs.Ties.{FitsMerge, FitsStart, BeginsRight}
use Rattle.whips_token_laws.proofs.Sets.{step_fits}
use Rattle.whips_token_laws.proofs.Tied.{enabled_same, done_same, step_projects, slots_are}
use Rattle.whips_list_laws.specs.Merged.{AreOwnLists, SettlesInOrder, RelInOrder, ActInOrder, FitsMerged, begun_with, next_numbers, step_numbers}
use Rattle.whips_list_laws.specs.States.{AreInOrder}
use Rattle.whips_list_laws.proofs.States.{order_after}
use Rattle.whips_list_laws.proofs.Merged.{integrated_same, managed_same, step_merged}
use Rattle.whips_line_laws.proofs.Moves.{Moved, quiet, begun_moved, manage_moved, integrate_moved, rel_order, rel_moved, act_order, act_moved}
use Rattle.whips_line_laws.proofs.Sweeps.{Lines}
use Rattle.whips_line_laws.proofs.Coming.{coming_in}
use Rattle.whips_core_laws.proofs.Begun.{begins_right, leads, machine_cut}

-- ---- small

own_push : (a : ActionList) (k i : ℕ) (lists : List (List ActionList)) → a.view ≡ k + i → AreOwnLists k lists → AreOwnLists k (changed_at i (λ ls. ls ++ a ∷ []) lists)
own_push a k i [] q f = tt
own_push a k zero (ls ∷ lists) q f = (last ls f.0, f.1)
  where
    last : (ls : List ActionList) → AllByRecursion (λ (l : ActionList). l.view ≡ k) ls → AllByRecursion (λ (l : ActionList). l.view ≡ k) (ls ++ a ∷ [])
    last [] g = (omega (arith, q), tt)
    last (b ∷ ls) g = (g.0, last ls g.1)
own_push a k (suc i) (ls ∷ lists) q f = (f.0, own_push a (suc k) i lists (omega (arith, q)) f.1)

has_open : (q : Query) (qs : List Query) → Has q qs → IsOpen (map open_step qs)
has_open q [] h = absurd (has_none q h)
has_open q (p ∷ qs) h = tt

shorter : {A : Type 0} (xs : List A) → length (without_front xs) ≤ length xs
shorter [] = omega arith
shorter (x ∷ xs) = omega arith

module _ (s : Script) (store : StoreState) (fw : FitsWork s) (fs : FitsStart s store) (valid : IsValidScript s) (homes_long : length s.setup.homes ≡ length s.setup.initial)
    (tables : (x : ℕ) (view : View) (cut : List ℕ) → slice_get s.setup.views x ≡ Some view → IsTable (row_columns view) (value_at s (keyed view) cut))
    (numbered : (x : ℕ) (view : View) (cut : List ℕ) → slice_get s.setup.views x ≡ Some view → AllByRecursion (λ t. has_numbers_within (row_columns view).kinds t ≡ true) (value_at s (keyed view) cut)) where
  abbrev f : Facts
  f = facts_of s

  -- All that holds at a moment, with the numbers of the last lists that have begun and all row sets that the merge has taken.
  pub record Carried (l : LoadedPipeline) (numbers : ℕ → ℕ) (sets : List (List Row)) : Type 0 where
    pub bare : FitsContents s no_older l
    pub merged : FitsMerged s numbers l
    pub merge : FitsMerge s.setup l
    pub order : AreInOrder [] l.numbering
    pub sound : Sound (facts_of s) (tokens (length s.setup.views) l)
    pub kept : Kept (facts_of s) (tokens (length s.setup.views) l) sets
    pub moved : Moved (tokens (length s.setup.views) l) l.merge numbers sets
    pub columns : (x : ℕ) (view : View) → slice_get s.setup.views x ≡ Some view → (view_in l.store x).columns ≡ row_columns view
    pub goes : GoesWith s (tokens (length s.setup.views) l).writer l.store

  module _ (l : LoadedPipeline) (numbers : ℕ → ℕ) (sets : List (List Row)) (h : Carried l numbers sets) where
    abbrev P : Pipeline
    P = tokens (length s.setup.views) l

    pub right : BeginsRight s l
    right = begins_right s fw valid homes_long tables numbered l numbers sets h.merged h.order h.merge h.kept h.moved h.columns h.goes

    machine_enabled : (e : Event) → is_enabled_loaded l e ≡ true → is_enabled (facts_of s) (tokens (length s.setup.views) l) e ≡ true
    machine_enabled e en = sym (enabled_same s store fw fs l h.bare h.merge right e) ∙ en

    opened : (x : ℕ) (m : Manager) (t : QueryStep) → slice_get (tokens (length s.setup.views) l).managers x ≡ Some m → front m.messages ≡ Some (reply t) → IsOpen m.open_steps
    opened x m t at first = let k = get_map manager_tokens x l.managers m at in subst (λ (w : Manager). IsOpen w.open_steps) k.2 (go k.0 k.1 k.0.messages refl (ap (λ (w : Manager). front w.messages) k.2 ∙ first))
      where
        go : (k : LoadedManager) → slice_get l.managers x ≡ Some k → (ms : List ManagerInput) → k.messages ≡ ms → front (map input_token k.messages) ≡ Some (reply t) → IsOpen (map open_step k.manager.state.queries)
        go k at [] e g = absurd (let bad : front (map input_token []) ≡ Some (reply t) = subst (λ ms. front (map input_token ms) ≡ Some (reply t)) e g in cc)
        go k at (numbered_transaction n u ∷ ms) e g = absurd (let bad : Some (update n) ≡ Some (reply t) = subst (λ ms. front (map input_token ms) ≡ Some (reply t)) e g in cc)
        go k at (reply_to_ask r ∷ ms) e g =
            let c = h.bare.managers x k at in
            let i = subst (InputsFit s (keyed k.manager.view) (AnswersOn (keyed k.manager.view) k.manager.state) c.before c.after) e c.inputs in
            has_open i.4.query k.manager.state.queries i.4.open_query

    slots_long : length (facts_of s).slots ≡ length s.setup.views
    slots_long = slots_are s

    list_view : (x : ℕ) (m : LoadedManager) (a : ActionList) → slice_get l.managers x ≡ Some m → front m.lists ≡ Some a → a.view ≡ x
    list_view x m a at first =
        let c = h.bare.managers x m at in
        let own = subst (λ ls. ListsFit s (keyed m.manager.view) x l.numbering c.first_list ls c.last_list) (front_is m.lists a first) c.lists in
        own.0

    -- ---- the merge

    rel_in : (o : Option Announcement) → front l.announcements ≡ o → RelInOrder l.merge o
    rel_in None e = tt
    rel_in (Some a) e = rel_order f (length s.setup.views) l numbers sets h.moved h.kept h.sound.accounted h.merge.lists_long slots_long h.merged.own opened a e

    act_in : (x : ℕ) (o : Option ActionList) → oldest_list l x ≡ o → ActInOrder l.merge o
    act_in x None e = tt
    act_in x (Some a) e =
        let m = of_some_is (slice_get l.managers x) (λ (m : LoadedManager). front m.lists) a e in
        let v = list_view x m.0 a m.1 m.2 in
        act_order f (length s.setup.views) l numbers sets h.moved h.kept h.sound.accounted h.merge.lists_long slots_long h.merged.own opened x a (manager_tokens m.0) v
        (map_get manager_tokens l.managers x ∙ ap (option_map manager_tokens) m.1) (map_front (λ (l : ActionList). l.upto) m.0.lists ∙ ap (option_map (λ (l : ActionList). l.upto)) m.2)
        (own_push a 0 a.view l.merge.lists (omega arith) h.merged.own)

    pub settles : (e : Event) → SettlesInOrder l e
    settles (Commit y) = tt
    settles (Answer y x) = tt
    settles (Integrate y) = tt
    settles (Manage x) = tt
    settles Rel = rel_in (front l.announcements) refl
    settles (Act x) = act_in x (oldest_list l x) refl
    settles Begin = tt
    settles Change = tt
    settles Publish = tt
    settles (SessionOpen v) = tt
    settles (SessionScan v x) = tt
    settles (SessionFetch v n) = tt
    settles (SessionClose v) = tt

    -- ---- the lines

    abbrev After : Pipeline → MergeState → (ℕ → ℕ) → Type 0
    After q k ns = Moved q k ns (sets ++ drop (length l.merge.merge.row_sets) q.merge.row_sets)

    still : (q : Pipeline) → q.merge ≡ l.merge.merge → q.announcements ≡ (tokens (length s.setup.views) l).announcements → q.managers ≡ (tokens (length s.setup.views) l).managers → After q l.merge numbers
    still q a b c = quiet f P l.merge numbers sets h.moved q a (subst (λ rows. Lines sets l.merge.merge rows l.merge.lists (coming_in q.managers)) (sym b) (subst (λ ms. Lines sets l.merge.merge P.announcements l.merge.lists (coming_in ms)) (sym c) h.moved.lined))

    integrates : (y : ℕ) → is_enabled_loaded l (Integrate y) ≡ true → After (next (facts_of s) (tokens (length s.setup.views) l) (Integrate y)) (next_loaded s.setup l (Integrate y)).merge numbers
    integrates y en =
        let m = some_of (oldest_message P y) (machine_enabled (Integrate y) en) in
        subst (λ k. After (next f P (Integrate y)) k numbers) (sym (integrated_same s fw numbers l h.merged y (loaded_message l y)).0)
        (subst (λ o. After (after_integrate f y o (with_source y without_message P)) l.merge numbers) (sym m.1) (integrate_moved f (length s.setup.views) l numbers sets h.moved h.kept h.sound.accounted h.merge.lists_long slots_long h.merged.own opened y m.0))

    manages : (x : ℕ) → is_enabled_loaded l (Manage x) ≡ true → After (next (facts_of s) (tokens (length s.setup.views) l) (Manage x)) (next_loaded s.setup l (Manage x)).merge numbers
    manages x en =
        let o = some_of (oldest_manager_message P x) (machine_enabled (Manage x) en) in
        let m = of_some_is (slice_get P.managers x) (λ (m : Manager). front m.messages) o.0 o.1 in
        subst (λ k. After (next f P (Manage x)) k numbers) (sym (managed_same s fw numbers l h.merged x (slice_get l.managers x)).0)
        (subst (λ o. After (with_manager x with_list_if_answered (after_message f x o (with_manager x without_manager_message P))) l.merge numbers) (sym o.1) (manage_moved f (length s.setup.views) l numbers sets h.moved h.kept h.sound.accounted h.merge.lists_long slots_long h.merged.own opened x m.0 o.0 m.1 m.2))

    rels : is_enabled_loaded l Rel ≡ true → After (next (facts_of s) (tokens (length s.setup.views) l) Rel) (next_loaded s.setup l Rel).merge numbers
    rels en =
        let a = some_of (front l.announcements) en in
        let first : front P.announcements ≡ Some (row_announced (length l.merge.lists) a.0) = map_front (row_announced (length s.setup.views)) l.announcements ∙ (ap (option_map (row_announced (length s.setup.views))) a.1 ∙ ap (λ k. Some (row_announced k a.0)) (sym h.merge.lists_long)) in
        subst (λ o. After (next f P Rel) (after_announcement o l).merge numbers) (sym a.1)
        (subst (λ o. After (machine_rel o P) (after_announcement (Some a.0) l).merge numbers) (sym first) (rel_moved f (length s.setup.views) l numbers sets h.moved h.kept h.sound.accounted h.merge.lists_long slots_long h.merged.own opened a.0 a.1))

    acts : (x : ℕ) → is_enabled_loaded l (Act x) ≡ true → After (next (facts_of s) (tokens (length s.setup.views) l) (Act x)) (next_loaded s.setup l (Act x)).merge numbers
    acts x en =
        let a = some_of (oldest_list l x) en in
        let m = of_some_is (slice_get l.managers x) (λ (m : LoadedManager). front m.lists) a.0 a.1 in
        let at : slice_get P.managers x ≡ Some (manager_tokens m.0) = map_get manager_tokens l.managers x ∙ ap (option_map manager_tokens) m.1 in
        let first : front (manager_tokens m.0).lists ≡ Some a.0.upto = map_front (λ (l : ActionList). l.upto) m.0.lists ∙ ap (option_map (λ (l : ActionList). l.upto)) m.2 in
        subst (λ o. After (next f P (Act x)) (after_list x o l).merge numbers) (sym a.1)
        (subst (λ o. After (machine_act x o P) (after_list x (Some a.0) l).merge numbers) (sym (ap (λ o. option_and_then (λ (m : Manager). front m.lists) o) at ∙ first))
        (act_moved f (length s.setup.views) l numbers sets h.moved h.kept h.sound.accounted h.merge.lists_long slots_long h.merged.own opened x a.0 (manager_tokens m.0) (list_view x m.0 a.0 m.1 m.2) at first (own_push a.0 0 a.0.view l.merge.lists (omega arith) h.merged.own)))

    begin_parts : is_enabled_loaded l Begin ≡ true → (t : Transaction) × (front l.merge.transactions ≡ Some t) × (l.store.phase % 2 ≡ 0)
    begin_parts en =
        let both = and_parts (is_some (front l.merge.transactions)) (l.store.phase % 2 == 0) en in
        let t = some_of (front l.merge.transactions) both.0 in
        (t.0, t.1, eqb-true (l.store.phase % 2) 0 both.1)

    begun_cut : (t : Transaction) → front l.merge.transactions ≡ Some t → l.store.phase % 2 ≡ 0 → next_cut (tokens (length s.setup.views) l) ≡ Some t.cut
    begun_cut t first even = machine_cut s fw valid homes_long tables numbered l numbers sets h.merged h.order h.merge h.kept h.moved h.columns h.goes t first even

    begins : is_enabled_loaded l Begin ≡ true → After (next (facts_of s) (tokens (length s.setup.views) l) Begin) (next_loaded s.setup l Begin).merge (next_numbers l Begin numbers)
    begins en =
        let t = begin_parts en in
        let set = some_of (front l.merge.merge.row_sets) (and_parts (is_some (front l.merge.merge.row_sets)) (l.store.phase % 2 == 0) (machine_enabled Begin en)).0 in
        let q = machine_begin f (Some t.0.cut) P in
        let none : sets ≡ sets ++ drop (length l.merge.merge.row_sets) (without_front l.merge.merge.row_sets) = sym (ap (λ z. sets ++ z) (drop_all (length l.merge.merge.row_sets) (without_front l.merge.merge.row_sets) (shorter l.merge.merge.row_sets)) ∙ append-nil sets) in
        subst (λ o. After (next f P Begin) (after_begin s.setup o l).merge (begun_with o numbers)) (sym t.1)
        (subst (λ o. After (machine_begin f o P) (after_begin s.setup (Some t.0) l).merge (begun_with (Some t.0) numbers)) (sym (begun_cut t.0 t.1 t.2))
        (subst (λ z. Moved q (after_begin s.setup (Some t.0) l).merge (begun_with (Some t.0) numbers) z) none
        (begun_moved f P l.merge numbers sets h.moved t.0 set.0 q t.1 set.1 refl refl refl (after_begin s.setup (Some t.0) l).merge refl refl)))

    next_moved : (e : Event) → is_enabled_loaded l e ≡ true → After (next (facts_of s) (tokens (length s.setup.views) l) e) (next_loaded s.setup l e).merge (next_numbers l e numbers)
    next_moved (Commit y) en = still (next f P (Commit y)) refl refl refl
    next_moved (Answer y x) en = still (next f P (Answer y x)) refl refl refl
    next_moved (Integrate y) en = integrates y en
    next_moved (Manage x) en = manages x en
    next_moved Rel en = rels en
    next_moved (Act x) en = acts x en
    next_moved Begin en = begins en
    next_moved Change en = still (next f P Change) refl refl refl
    next_moved Publish en = still (next f P Publish) refl refl refl
    next_moved (SessionOpen v) en = still P refl refl refl
    next_moved (SessionScan v x) en = still P refl refl refl
    next_moved (SessionFetch v n) en = still P refl refl refl
    next_moved (SessionClose v) en = still P refl refl refl

    -- ---- the store

    rel_store : (o : Option Announcement) → (after_announcement o l).store ≡ l.store
    rel_store None = refl
    rel_store (Some a) = refl

    act_store : (x : ℕ) (o : Option ActionList) → (after_list x o l).store ≡ l.store
    act_store x None = refl
    act_store x (Some a) = refl

    next_move : (e : Event) → is_enabled_loaded l e ≡ true → IsMove s (tokens (length s.setup.views) l) e l.store (next_loaded s.setup l e).store
    next_move (Commit y) en = refl
    next_move (Answer y x) en = refl
    next_move (Integrate y) en = (integrated_same s fw numbers l h.merged y (loaded_message l y)).1
    next_move (Manage x) en = (managed_same s fw numbers l h.merged x (slice_get l.managers x)).1
    next_move Rel en = rel_store (front l.announcements)
    next_move (Act x) en = act_store x (oldest_list l x)
    next_move Begin en =
        let t = begin_parts en in (
          t.0.cut,
          changes_of_transaction s.setup l.store t.0,
          begun_cut t.0 t.1 t.2,
          leads s fw valid homes_long tables numbered l numbers sets h.merged h.order h.merge h.kept h.moved h.columns h.goes t.0 t.1 t.2,
          ap (λ o. (after_begin s.setup o l).store) t.1,
        )
    next_move Change en = refl
    next_move Publish en = refl
    next_move (SessionOpen v) en = refl
    next_move (SessionScan v x) en = refl
    next_move (SessionFetch v n) en = refl
    next_move (SessionClose v) en = refl

    -- ---- one event

    pub projects : (e : Event) → tokens (length s.setup.views) (step_loaded s.setup l e) ≡ step (facts_of s) (tokens (length s.setup.views) l) e
    projects e = step_projects s store fw fs l h.bare h.merge right e

    step_moved : (e : Event) → Moved (step (facts_of s) (tokens (length s.setup.views) l) e) (step_loaded s.setup l e).merge (step_numbers s.setup l e numbers) (sets ++ taken_sets (facts_of s) (tokens (length s.setup.views) l) e)
    step_moved e = elim (is_enabled_loaded l e && not (is_full_for s.setup l e)) as (λ b. (is_enabled_loaded l e && not (is_full_for s.setup l e)) ≡ b → Moved (step f P e) (cond b (next_loaded s.setup l e) l).merge (cond b (next_numbers l e numbers) numbers) (sets ++ drop (length l.merge.merge.row_sets) (step f P e).merge.row_sets)) [
      | true ↦ λ d. subst (λ c. After (cond c (next f P e) P) (next_loaded s.setup l e).merge (next_numbers l e numbers)) (sym d ∙ done_same s store fw fs l h.bare h.merge right e) (next_moved e (and_parts (is_enabled_loaded l e) (not (is_full_for s.setup l e)) d).0)
      | false ↦ λ d. subst (λ c. After (cond c (next f P e) P) l.merge numbers) (sym d ∙ done_same s store fw fs l h.bare h.merge right e) (still P refl refl refl)
    ] refl

    pub step_goes : (e : Event) → GoesWith s (step (facts_of s) (tokens (length s.setup.views) l) e).writer (step_loaded s.setup l e).store × IsLater l.store (step_loaded s.setup l e).store
    step_goes e = elim (is_enabled_loaded l e && not (is_full_for s.setup l e)) as (λ b. (is_enabled_loaded l e && not (is_full_for s.setup l e)) ≡ b → GoesWith s (step f P e).writer (cond b (next_loaded s.setup l e) l).store × IsLater l.store (cond b (next_loaded s.setup l e) l).store) [
      | true ↦ λ d.
          events s P e l.store (next_loaded s.setup l e).store h.goes (sym (sym d ∙ done_same s store fw fs l h.bare h.merge right e)) (next_move e (and_parts (is_enabled_loaded l e) (not (is_full_for s.setup l e)) d).0)
      | false ↦ λ d. (subst (λ c. GoesWith s (cond c (next f P e) P).writer l.store) (sym d ∙ done_same s store fw fs l h.bare h.merge right e) h.goes, later_itself l.store)
    ] refl

    pub step_carried : (e : Event) → Carried (step_loaded s.setup l e) (step_numbers s.setup l e numbers) (sets ++ taken_sets (facts_of s) (tokens (length s.setup.views) l) e)
    step_carried e =
        let back = sym (projects e) in
        let g = step_goes e in
        record {
          bare = step_kept s fw l h.bare e;
          merged = step_merged s fw numbers l h.merged e (settles e);
          merge = step_fits s.setup l h.merge e;
          order = order_after s.setup (e ∷ []) l h.order;
          sound = subst (Sound f) back (after_sound f (asks_there s valid.sources) (e ∷ []) P h.sound);
          kept = subst (λ p. Kept f p (sets ++ taken_sets f P e)) back (machine_kept f P e sets h.sound.accounted h.kept);
          moved = subst (λ p. Moved p (step_loaded s.setup l e).merge (step_numbers s.setup l e numbers) (sets ++ taken_sets f P e)) back (step_moved e);
          columns = λ x view there. g.1.columns x ∙ h.columns x view there;
          goes = subst (λ p. GoesWith s p.writer (step_loaded s.setup l e).store) back g.0;
        }
