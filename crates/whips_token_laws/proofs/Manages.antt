-- A manager that takes a message does to the numbers of the pipeline what the machine does.
--
-- `manage_update_projects`, `manage_reply_projects`: the numbers (`tokens`) of the pipeline after the manager's event, for a transaction and for a reply, are the machine's state after that event.
--
-- The idea: the machine's open steps are those of the manager's open queries, and its asks go to the sources in the same order. A query that is done leaves both. The list leaves exactly where no query is open.
--
-- Two lemmas carry it, that name the same first and next steps on both sides: `begun_steps` and `ask_all`.
use Rattle.std.proofs.Common.{◌≡◌, ℕ, suc, ◌+◌, ◌-◌, ◌==◌, ◌&&◌, Bool, true, false, not, List, [], ◌∷◌, ◌++◌, length, map, Some, cond, refl, sym, ap, ap₂, subst, ◌∙◌, arith, eqb-true, eq-eqb, append-nil}
use Rattle.std.specs.Prelude.{slice_get, slice_index, filter, fold, nat_lt}
use Rattle.std.specs.Option.{option_and_then, option_map}
use Rattle.std.proofs.lemmas.Bool.{eqb-false, lt-ltb, and_parts}
use Rattle.whips_lists.proofs.ByPlace.{changed_twice}
use Rattle.whips_lists.proofs.Options.{some_same}
use Rattle.whips_lists.proofs.Members.{has_first, has_later, has_left, has_right}
use Rattle.whips_lists.specs.Lists.{changed_at, front, without_front, places_from}
use Rattle.whips_lists.specs.Members.{Has}
use Rattle.whips_flow.specs.Facts.{Facts}
use Rattle.whips_flow.specs.State.{QueryStep, NumberedTransaction, ManagerMessage, reply, Source, Manager, Pipeline, oldest_manager_message, with_manager}
use Rattle.whips_flow.specs.Effects.{is_same_query, next_step, with_ask, with_step_asked, first_steps, with_transaction as machine_transaction, advanced_step, with_next_step, without_query, after_message, with_list_unless, with_list_if_answered, without_manager_message}
use Rattle.whips_flow.specs.Progress.{next}
use Rattle.whips_flow.specs.declared.event.Event.TheVariants.{Manage}
use Rattle.whips_model.specs.Tuples.{Codes}
use Rattle.whips_choices.specs.KeyedViews.{KeyedView}
use Rattle.whips_states.specs.States.{Updates}
use Rattle.whips_states.specs.Net.{given_at, taken}
use Rattle.whips_view.specs.ViewDefs.{keyed, row_columns}
use Rattle.whips_actions.specs.declared.action.Action.{Action}
use Rattle.whips_actions.specs.declared.action.ActionList.{ActionList}
use Rattle.whips_setup.specs.Setups.{SetupData}
use Rattle.whips_steps.specs.Steps.{asked_sources, source_of_step}
use Rattle.whips_managers.specs.Managers.{Query, ManagerState, with_reply, with_reply_to, with_step, with_answer, moved_on, has_next, is_named, list_where}
use Rattle.whips_managers.specs.Messages.{ask_of, asks_after, next_asks}
use Rattle.whips_query.specs.declared.asks.Reply.{Reply}
use Rattle.whips_strobe.specs.Outs.{sent_by, all_sent_by, list_by}
use Rattle.whips_ask_laws.specs.Begun.{begun_at, begun, with_all_pending}
use Rattle.whips_ask_laws.proofs.After.{after_transaction}
use Rattle.whips_ask_laws.proofs.Named.{to_first}
use Rattle.whips_contents.specs.Contents.{ManagerInput, numbered_transaction, reply_to_ask, LoadedSource, LoadedManager, LoadedPipeline}
use Rattle.whips_contents.specs.Events.{state_after_input, asks_after_input, list_or_none, manager_after_input, with_ask_of, all_asked, after_input, after_manage, next_loaded}
use Rattle.whips_contents.specs.Tokens.{ask_step, reply_step, open_step, source_tokens, input_token, manager_tokens, tokens}
use Rattle.whips_contents.proofs.Changes.{map_changed, map_behind, map_front, map_push, map_get}

eqb_flip : (a b : ℕ) → (a == b) ≡ (b == a)
eqb_flip a b = go (a == b) refl
  where
    other : (c : Bool) → (b == a) ≡ c → (a ≡ b → ⊥) → false ≡ (b == a)
    other true h ne = absurd (ne (sym (eqb-true b a h)))
    other false h ne = sym h

    go : (c : Bool) → (a == b) ≡ c → (a == b) ≡ (b == a)
    go true e = e ∙ sym (eq-eqb b a (sym (eqb-true a b e)))
    go false e = e ∙ other (b == a) refl (eqb-false a b e)

-- ---- the list

upto_of : ActionList → ℕ
upto_of l = l.upto

-- the list leaves exactly where the machine's does
hand_out : (x : ℕ) (m : ManagerState) (ms : List ManagerMessage) (lists : List ActionList)
    → record { messages = ms; open_steps = map open_step m.queries; last_number = m.last; lists = map (λ (l : ActionList). l.upto) (lists ++ list_or_none (list_by x m)) }
    ≡ with_list_unless (map open_step m.queries) (record { messages = ms; open_steps = map open_step m.queries; last_number = m.last; lists = map (λ (l : ActionList). l.upto) lists })
hand_out x m ms lists = go m.queries
  where
    go : (queries : List Query) → record { messages = ms; open_steps = map open_step queries; last_number = m.last; lists = map (λ (l : ActionList). l.upto) (lists ++ list_or_none (option_map (λ (actions : List Action). record { view = x; upto = m.last; actions = actions }) (list_where queries m.actions))) }
        ≡ with_list_unless (map open_step queries) (record { messages = ms; open_steps = map open_step queries; last_number = m.last; lists = map (λ (l : ActionList). l.upto) lists })
    go [] = ap (λ ls. record { messages = ms; open_steps = []; last_number = m.last; lists = ls }) (map_push (λ (l : ActionList). l.upto) lists (record { view = x; upto = m.last; actions = m.actions } ∷ []))
    go (q ∷ queries) = ap (λ ls. record { messages = ms; open_steps = map open_step (q ∷ queries); last_number = m.last; lists = map (λ (l : ActionList). l.upto) ls }) (append-nil lists)

module _ (f : Facts) (x : ℕ) where
  -- asks change the sources alone
  abbrev asked_in : List Source → QueryStep → List Source
  asked_in ss t = changed_at (slice_index (f.asked_sources x t.origin) (t.step - 1)) (with_ask x t) ss

  fold_asks : (ts : List QueryStep) (p : Pipeline) → fold (with_step_asked f x) p ts ≡ record p { sources = fold asked_in p.sources ts }
  fold_asks [] p = refl
  fold_asks (t ∷ ts) p = fold_asks ts (with_step_asked f x p t)

  module _ (v : KeyedView) (asked : (o : ℕ) → f.asked_sources x o ≡ asked_sources v o) where
    ask_all : (number : ℕ) (qs : List Query) (ss : List LoadedSource) → map source_tokens (all_asked x ss (all_sent_by number (map (ask_of v) qs))) ≡ fold asked_in (map source_tokens ss) (map open_step qs)
    ask_all number [] ss = refl
    ask_all number (q ∷ qs) ss =
        ask_all number qs (changed_at (source_of_step v q.origin q.step) (with_ask_of x (sent_by number (ask_of v q)).1) ss)
        ∙ ap (λ zs. fold asked_in zs (map open_step qs)) (map_changed source_tokens (with_ask_of x (sent_by number (ask_of v q)).1) (with_ask x (open_step q)) (source_of_step v q.origin q.step) ss one
        ∙ ap (λ l. changed_at (slice_index l (q.step - 1)) (with_ask x (open_step q)) (map source_tokens ss)) (sym (asked q.origin)))
      where
        one : (s : LoadedSource) → slice_get ss (source_of_step v q.origin q.step) ≡ Some s → source_tokens (with_ask_of x (sent_by number (ask_of v q)).1 s) ≡ with_ask x (open_step q) (source_tokens s)
        one s at = ap (λ qs. record (source_tokens s) { asks = qs }) (map_changed (map ask_step) (λ l. l ++ (sent_by number (ask_of v q)).1 ∷ []) (λ l. l ++ open_step q ∷ []) x s.asks (λ l e. map_push ask_step l ((sent_by number (ask_of v q)).1 ∷ [])))

    -- ---- a transaction

    begun_steps : (number : ℕ) (t : Updates) (parts : List ℕ) → map (λ o. record { number = number; origin = o; step = 1 }) (filter (λ o. nat_lt 0 (length (f.asked_sources x o))) (filter (λ o. nat_lt 0 (length (given_at v t o))) parts)) ≡ map open_step (begun v number t parts)
    begun_steps number t [] = refl
    begun_steps number t (part ∷ parts) = go (begun_steps number t parts) (given_at v t part) (asked_sources v part) (asked part)
      where
        go : map (λ o. record { number = number; origin = o; step = 1 }) (filter (λ o. nat_lt 0 (length (f.asked_sources x o))) (filter (λ o. nat_lt 0 (length (given_at v t o))) parts)) ≡ map open_step (begun v number t parts)
            → (ts : List Codes) (ys : List ℕ) → f.asked_sources x part ≡ ys
            → map (λ o. record { number = number; origin = o; step = 1 }) (filter (λ o. nat_lt 0 (length (f.asked_sources x o))) (cond (nat_lt 0 (length ts)) (part ∷ filter (λ o. nat_lt 0 (length (given_at v t o))) parts) (filter (λ o. nat_lt 0 (length (given_at v t o))) parts)))
            ≡ map open_step (begun_at v number part ys ts ++ begun v number t parts)
        go ih [] ys e = ih
        go ih (u ∷ ts) [] e =
            ap (λ b. map (λ o. record { number = number; origin = o; step = 1 }) (filter (λ o. nat_lt 0 (length (f.asked_sources x o))) (cond b (part ∷ filter (λ o. nat_lt 0 (length (given_at v t o))) parts) (filter (λ o. nat_lt 0 (length (given_at v t o))) parts)))) (lt-ltb 0 (length (u ∷ ts)) (omega arith))
            ∙ (ap (λ l. map (λ o. record { number = number; origin = o; step = 1 }) (cond (nat_lt 0 (length l)) (part ∷ filter (λ o. nat_lt 0 (length (f.asked_sources x o))) (filter (λ o. nat_lt 0 (length (given_at v t o))) parts)) (filter (λ o. nat_lt 0 (length (f.asked_sources x o))) (filter (λ o. nat_lt 0 (length (given_at v t o))) parts)))) e ∙ ih)
        go ih (u ∷ ts) (y ∷ ys) e =
            ap (λ b. map (λ o. record { number = number; origin = o; step = 1 }) (filter (λ o. nat_lt 0 (length (f.asked_sources x o))) (cond b (part ∷ filter (λ o. nat_lt 0 (length (given_at v t o))) parts) (filter (λ o. nat_lt 0 (length (given_at v t o))) parts)))) (lt-ltb 0 (length (u ∷ ts)) (omega arith))
            ∙ (ap (λ b. map (λ o. record { number = number; origin = o; step = 1 }) (cond b (part ∷ filter (λ o. nat_lt 0 (length (f.asked_sources x o))) (filter (λ o. nat_lt 0 (length (given_at v t o))) parts)) (filter (λ o. nat_lt 0 (length (f.asked_sources x o))) (filter (λ o. nat_lt 0 (length (given_at v t o))) parts)))) (lt-ltb 0 (length (f.asked_sources x part)) (let z = ap length e in omega (arith, z)))
            ∙ ap (λ l. record { number = number; origin = part; step = 1 } ∷ l) ih)

  -- a message whose asks and whose state are what the machine makes of it
  module _ (s : SetupData) (n : ℕ) (l : LoadedPipeline) (m : LoadedManager) (at : slice_get l.managers x ≡ Some m) where
    oldest : (i : ManagerInput) → front m.messages ≡ Some i → oldest_manager_message (tokens n l) x ≡ Some (input_token i)
    oldest i first = ap (λ o. option_and_then (λ m. front m.messages) o) (map_get manager_tokens l.managers x ∙ ap (option_map manager_tokens) at) ∙ (map_front input_token m.messages ∙ ap (option_map input_token) first)

    managers_are : (i : ManagerInput) (h : Manager → Manager) → manager_tokens (manager_after_input i m) ≡ with_list_if_answered (h (without_manager_message (manager_tokens m)))
        → map manager_tokens (changed_at x (manager_after_input i) l.managers) ≡ changed_at x with_list_if_answered (changed_at x h (changed_at x without_manager_message (map manager_tokens l.managers)))
    managers_are i h e =
        map_changed manager_tokens (manager_after_input i) (λ w. with_list_if_answered (h (without_manager_message w))) x l.managers (λ w there.
        let same : m ≡ w = some_same m w (sym at ∙ there) in
        subst (λ w. manager_tokens (manager_after_input i w) ≡ with_list_if_answered (h (without_manager_message (manager_tokens w)))) same e)
        ∙ (sym (changed_twice with_list_if_answered (λ w. h (without_manager_message w)) x (map manager_tokens l.managers)) ∙ ap (changed_at x with_list_if_answered) (sym (changed_twice h without_manager_message x (map manager_tokens l.managers))))

    module _ (asked : (o : ℕ) → f.asked_sources x o ≡ asked_sources (keyed m.manager.view) o) where
      pub manage_update_projects : (k : NumberedTransaction) (t : Updates) → front m.messages ≡ Some (numbered_transaction k t)
          → f.origins k.source k.place x ≡ filter (λ o. nat_lt 0 (length (given_at (keyed m.manager.view) t o))) (places_from 0 (length (keyed m.manager.view).keys))
          → tokens n (next_loaded s l (Manage x)) ≡ next f (tokens n l) (Manage x)
      manage_update_projects k t first origins =
          ap (λ o. tokens n (after_manage x o l)) at
          ∙ (ap (λ o. tokens n (after_input x m o l)) first
          ∙ (ap₂ (λ ss ms. record (tokens n l) { sources = ss; managers = ms }) sources (managers_are (numbered_transaction k t) (machine_transaction f x k) manager)
          ∙ (ap (with_manager x with_list_if_answered) (sym (fold_asks (first_steps f x k) (with_manager x (machine_transaction f x k) (with_manager x without_manager_message (tokens n l)))))
          ∙ ap (λ o. with_manager x with_list_if_answered (after_message f x o (with_manager x without_manager_message (tokens n l)))) (sym (oldest (numbered_transaction k t) first)))))
        where
          steps : first_steps f x k ≡ map open_step (begun (keyed m.manager.view) k.number t (places_from 0 (length (keyed m.manager.view).keys)))
          steps = ap (λ os. map (λ o. record { number = k.number; origin = o; step = 1 }) (filter (λ o. nat_lt 0 (length (f.asked_sources x o))) os)) origins ∙ begun_steps (keyed m.manager.view) asked k.number t (places_from 0 (length (keyed m.manager.view).keys))

          sources : map source_tokens (all_asked x l.sources (all_sent_by m.manager.number (asks_after_input m.manager (numbered_transaction k t)))) ≡ fold asked_in (map source_tokens l.sources) (first_steps f x k)
          sources =
              ap (λ a. map source_tokens (all_asked x l.sources (all_sent_by m.manager.number a))) (after_transaction (keyed m.manager.view) (row_columns m.manager.view) m.manager.state k.number t).asks
              ∙ (ask_all (keyed m.manager.view) asked m.manager.number (begun (keyed m.manager.view) k.number t (places_from 0 (length (keyed m.manager.view).keys))) l.sources ∙ ap (fold asked_in (map source_tokens l.sources)) (sym steps))

          kept : (queries : List Query) → map open_step (map (with_all_pending (taken (keyed m.manager.view) t)) queries) ≡ map open_step queries
          kept [] = refl
          kept (q ∷ queries) = ap (λ z. open_step q ∷ z) (kept queries)

          opens : map open_step (state_after_input m.manager (numbered_transaction k t)).queries ≡ map open_step m.manager.state.queries ++ first_steps f x k
          opens =
              ap (map open_step) (after_transaction (keyed m.manager.view) (row_columns m.manager.view) m.manager.state k.number t).queries
              ∙ (map_push open_step (map (with_all_pending (taken (keyed m.manager.view) t)) m.manager.state.queries) (begun (keyed m.manager.view) k.number t (places_from 0 (length (keyed m.manager.view).keys)))
              ∙ ap₂ (λ a b. a ++ b) (kept m.manager.state.queries) (sym steps))

          manager : manager_tokens (manager_after_input (numbered_transaction k t) m) ≡ with_list_if_answered (machine_transaction f x k (without_manager_message (manager_tokens m)))
          manager =
              hand_out m.manager.number (state_after_input m.manager (numbered_transaction k t)) (map input_token (without_front m.messages)) m.lists
              ∙ (ap₂ (λ os last. with_list_unless os (record { messages = map input_token (without_front m.messages); open_steps = os; last_number = last; lists = map (λ (l : ActionList). l.upto) m.lists })) opens (after_transaction (keyed m.manager.view) (row_columns m.manager.view) m.manager.state k.number t).last
              ∙ ap (λ ms. with_list_if_answered (machine_transaction f x k (record (manager_tokens m) { messages = ms }))) (map_behind input_token m.messages))

      -- ---- a reply

      module _ (r : Reply) (before after : List Query) (q : Query) (queries : m.manager.state.queries ≡ before ++ q ∷ after)
          (others : (p : Query) → Has p (before ++ after) → is_named r.update r.origin p ≡ false) (named : is_named r.update r.origin q ≡ true) (at_step : q.step ≡ r.step) where
        same_query : (p : Query) → is_same_query (reply_step r) (open_step p) ≡ is_named r.update r.origin p
        same_query p = ap₂ (λ a b. a && b) (eqb_flip r.update p.transaction) (eqb_flip r.origin p.origin)

        state : with_reply (keyed m.manager.view) (row_columns m.manager.view) m.manager.state r.update r.origin r.partials ≡ with_reply_to (keyed m.manager.view) (row_columns m.manager.view) m.manager.state before q r.partials after
        state = to_first (keyed m.manager.view) (row_columns m.manager.view) m.manager.state r.update r.origin r.partials before after q queries (λ p h. others p (has_left p before after h)) named

        asks : asks_after (keyed m.manager.view) m.manager.state.queries r.update r.origin r.partials ≡ next_asks (keyed m.manager.view) q r.partials
        asks = ap (λ qs. asks_after (keyed m.manager.view) qs r.update r.origin r.partials) queries ∙ go before (λ p h. others p (has_left p before after h))
          where
            go : (seen : List Query) → ((p : Query) → Has p seen → is_named r.update r.origin p ≡ false) → asks_after (keyed m.manager.view) (seen ++ q ∷ after) r.update r.origin r.partials ≡ next_asks (keyed m.manager.view) q r.partials
            go [] h = ap (λ b. cond b (next_asks (keyed m.manager.view) q r.partials) (asks_after (keyed m.manager.view) after r.update r.origin r.partials)) named
            go (p ∷ seen) h = ap (λ b. cond b (next_asks (keyed m.manager.view) p r.partials) (asks_after (keyed m.manager.view) (seen ++ q ∷ after) r.update r.origin r.partials)) (h p (has_first p seen)) ∙ go seen (λ p k. h p (has_later p _ seen k))

        -- the query of the step goes on, the others stay
        same_steps : (qs : List Query) → ((p : Query) → Has p qs → is_named r.update r.origin p ≡ false) → map (advanced_step (reply_step r)) (map open_step qs) ≡ map open_step qs
        same_steps [] h = refl
        same_steps (p ∷ qs) h = ap₂ (λ a b. a ∷ b) (ap (λ b. cond b (next_step (reply_step r)) (open_step p)) (same_query p ∙ h p (has_first p qs))) (same_steps qs (λ p k. h p (has_later p _ qs k)))

        advanced : (qs : List Query) → ((p : Query) → Has p qs → is_named r.update r.origin p ≡ false) → map (advanced_step (reply_step r)) (map open_step (qs ++ q ∷ after)) ≡ map open_step (qs ++ moved_on q r.partials ∷ after)
        advanced [] h =
            let step : suc r.step ≡ q.step + 1 = omega (arith, at_step) in
            let both = named_is in
            ap₂ (λ a b. a ∷ b) (ap (λ b. cond b (next_step (reply_step r)) (open_step q)) (same_query q ∙ named) ∙ (ap₂ (λ a b. record { number = a; origin = b; step = suc r.step }) (sym both.0) (sym both.1) ∙ ap (λ k. record { number = q.transaction; origin = q.origin; step = k }) step))
            (same_steps after (λ p k. others p (has_right p before after k)))
          where
            named_is : (q.transaction ≡ r.update) × (q.origin ≡ r.origin)
            named_is = let parts = and_parts (q.transaction == r.update) (q.origin == r.origin) named in (eqb-true q.transaction r.update parts.0, eqb-true q.origin r.origin parts.1)
        advanced (p ∷ qs) h = ap₂ (λ a b. a ∷ b) (ap (λ b. cond b (next_step (reply_step r)) (open_step p)) (same_query p ∙ h p (has_first p qs))) (advanced qs (λ p k. h p (has_later p _ qs k)))

        kept_steps : (qs : List Query) → ((p : Query) → Has p qs → is_named r.update r.origin p ≡ false) → filter (λ u. not (is_same_query (reply_step r) u)) (map open_step qs) ≡ map open_step qs
        kept_steps [] h = refl
        kept_steps (p ∷ qs) h =
            ap (λ b. cond (not b) (open_step p ∷ filter (λ u. not (is_same_query (reply_step r) u)) (map open_step qs)) (filter (λ u. not (is_same_query (reply_step r) u)) (map open_step qs))) (same_query p ∙ h p (has_first p qs))
            ∙ ap (λ l. open_step p ∷ l) (kept_steps qs (λ p k. h p (has_later p _ qs k)))

        closed : (qs : List Query) → ((p : Query) → Has p qs → is_named r.update r.origin p ≡ false) → filter (λ u. not (is_same_query (reply_step r) u)) (map open_step (qs ++ q ∷ after)) ≡ map open_step (qs ++ after)
        closed [] h =
            ap (λ b. cond (not b) (open_step q ∷ filter (λ u. not (is_same_query (reply_step r) u)) (map open_step after)) (filter (λ u. not (is_same_query (reply_step r) u)) (map open_step after))) (same_query q ∙ named)
            ∙ kept_steps after (λ p k. others p (has_right p before after k))
        closed (p ∷ qs) h =
            ap (λ b. cond (not b) (open_step p ∷ filter (λ u. not (is_same_query (reply_step r) u)) (map open_step (qs ++ q ∷ after))) (filter (λ u. not (is_same_query (reply_step r) u)) (map open_step (qs ++ q ∷ after)))) (same_query p ∙ h p (has_first p qs))
            ∙ ap (λ l. open_step p ∷ l) (closed qs (λ p k. h p (has_later p _ qs k)))

        pub manage_reply_projects : front m.messages ≡ Some (reply_to_ask r) → tokens n (next_loaded s l (Manage x)) ≡ next f (tokens n l) (Manage x)
        manage_reply_projects first =
            ap (λ o. tokens n (after_manage x o l)) at
            ∙ (ap (λ o. tokens n (after_input x m o l)) first
            ∙ (go (has_next (keyed m.manager.view) q) refl
            ∙ ap (λ o. with_manager x with_list_if_answered (after_message f x o (with_manager x without_manager_message (tokens n l)))) (sym (oldest (reply_to_ask r) first))))
          where
            both : (q.transaction ≡ r.update) × (q.origin ≡ r.origin)
            both = let parts = and_parts (q.transaction == r.update) (q.origin == r.origin) named in (eqb-true q.transaction r.update parts.0, eqb-true q.origin r.origin parts.1)

            goes_on : nat_lt r.step (length (f.asked_sources x r.origin)) ≡ has_next (keyed m.manager.view) q
            goes_on = ap₂ (λ a b. nat_lt a (length b)) (sym at_step) (asked r.origin ∙ ap (asked_sources (keyed m.manager.view)) (sym both.1))

            moved_step : open_step (moved_on q r.partials) ≡ next_step (reply_step r)
            moved_step = let step : q.step + 1 ≡ suc r.step = omega (arith, at_step) in ap₂ (λ a b. record { number = a; origin = b; step = q.step + 1 }) both.0 both.1 ∙ ap (λ k. record { number = r.update; origin = r.origin; step = k }) step

            -- the manager, where its steps become these
            manager : (h : Manager → Manager) (st : ManagerState) → with_reply (keyed m.manager.view) (row_columns m.manager.view) m.manager.state r.update r.origin r.partials ≡ st → (os : List QueryStep) → map open_step st.queries ≡ os
                → h (record (manager_tokens m) { messages = without_front (map input_token m.messages) }) ≡ record { messages = without_front (map input_token m.messages); open_steps = os; last_number = st.last; lists = map (λ (l : ActionList). l.upto) m.lists }
                → manager_tokens (manager_after_input (reply_to_ask r) m) ≡ with_list_if_answered (h (without_manager_message (manager_tokens m)))
            manager h st e os opens same =
                hand_out m.manager.number (state_after_input m.manager (reply_to_ask r)) (map input_token (without_front m.messages)) m.lists
                ∙ (ap (λ st. with_list_unless (map open_step st.queries) (record { messages = map input_token (without_front m.messages); open_steps = map open_step st.queries; last_number = st.last; lists = map (λ (l : ActionList). l.upto) m.lists })) e
                ∙ (ap₂ (λ os ms. with_list_unless os (record { messages = ms; open_steps = os; last_number = st.last; lists = map (λ (l : ActionList). l.upto) m.lists })) opens (map_behind input_token m.messages)
                ∙ ap with_list_if_answered (sym same)))

            go : (b : Bool) → has_next (keyed m.manager.view) q ≡ b → tokens n (after_input x m (Some (reply_to_ask r)) l) ≡ with_manager x with_list_if_answered (after_message f x (Some (reply (reply_step r))) (with_manager x without_manager_message (tokens n l)))
            go true e =
                ap₂ (λ ss ms. record (tokens n l) { sources = ss; managers = ms }) sources (managers_are (reply_to_ask r) (with_next_step (reply_step r)) (manager (with_next_step (reply_step r)) (with_step m.manager.state before q r.partials after) (state ∙ ap (λ b. cond b (with_step m.manager.state before q r.partials after) (with_answer (keyed m.manager.view) (row_columns m.manager.view) m.manager.state before q r.partials after)) e)
                (map (advanced_step (reply_step r)) (map open_step m.manager.state.queries)) (sym (advanced before (λ p h. others p (has_left p before after h))) ∙ ap (λ qs. map (advanced_step (reply_step r)) (map open_step qs)) (sym queries)) refl))
                ∙ ap (λ b. with_manager x with_list_if_answered (cond b (with_step_asked f x (with_manager x (with_next_step (reply_step r)) (with_manager x without_manager_message (tokens n l))) (next_step (reply_step r))) (with_manager x (without_query (reply_step r)) (with_manager x without_manager_message (tokens n l))))) (sym (goes_on ∙ e))
              where
                sources : map source_tokens (all_asked x l.sources (all_sent_by m.manager.number (asks_after_input m.manager (reply_to_ask r)))) ≡ asked_in (map source_tokens l.sources) (next_step (reply_step r))
                sources =
                    ap (λ a. map source_tokens (all_asked x l.sources (all_sent_by m.manager.number a))) (asks ∙ ap (λ b. cond b (ask_of (keyed m.manager.view) (moved_on q r.partials) ∷ []) []) e)
                    ∙ (ask_all (keyed m.manager.view) asked m.manager.number (moved_on q r.partials ∷ []) l.sources ∙ ap (λ t. asked_in (map source_tokens l.sources) t) moved_step)
            go false e =
                ap₂ (λ ss ms. record (tokens n l) { sources = ss; managers = ms }) (ap (λ a. map source_tokens (all_asked x l.sources (all_sent_by m.manager.number a))) (asks ∙ ap (λ b. cond b (ask_of (keyed m.manager.view) (moved_on q r.partials) ∷ []) []) e))
                (managers_are (reply_to_ask r) (without_query (reply_step r)) (manager (without_query (reply_step r)) (with_answer (keyed m.manager.view) (row_columns m.manager.view) m.manager.state before q r.partials after) (state ∙ ap (λ b. cond b (with_step m.manager.state before q r.partials after) (with_answer (keyed m.manager.view) (row_columns m.manager.view) m.manager.state before q r.partials after)) e)
                (filter (λ u. not (is_same_query (reply_step r) u)) (map open_step m.manager.state.queries)) (sym (closed before (λ p h. others p (has_left p before after h))) ∙ ap (λ qs. filter (λ u. not (is_same_query (reply_step r) u)) (map open_step qs)) (sym queries)) refl))
                ∙ ap (λ b. with_manager x with_list_if_answered (cond b (with_step_asked f x (with_manager x (with_next_step (reply_step r)) (with_manager x without_manager_message (tokens n l))) (next_step (reply_step r))) (with_manager x (without_query (reply_step r)) (with_manager x without_manager_message (tokens n l))))) (sym (goes_on ∙ e))
