-- How a manager stands after the integrator has numbered a transaction, and after it has taken a message.
--
-- `manager_takes`, `manager_hears`: a manager that fits the numbered transactions (`ManagerFits`) fits them after it has taken a transaction, or a reply that comes first in its queue. Before them `manager_missed`, `manager_sent` and `manager_replied`: it fits where the integrator numbers one more transaction or hands a reply on.
--
-- The idea: what the manager has taken is the first part of the numbering, and its queue holds the concerned ones of the rest in order, with each reply somewhere between the transactions round it. A transaction is taken after those that don't concern the view, which change neither its value nor its pending deletions. A reply is taken by first passing the unconcerned transactions before the point where the reply was true, and then by the law on replies of one manager.
--
-- Four lemmas carry it: `lists_push` (a list that leaves goes on from the last one), `value_keyed` (a value after a prefix is in the order of its keys), `stays_after_transaction` and `stays_after_reply` (a query stays open under its name).
use Rattle.std.proofs.Common.{◌≡◌, inl, inr, ℕ, zero, suc, ◌≤◌, ◌==◌, Bool, true, false, cond, List, [], ◌∷◌, ◌++◌, length, map, take, Option, Some, None, refl, sym, ap, subst, ◌∙◌, arith, append_assoc, append-nil, length-append}
use Rattle.std.proofs.lemmas.Bool.{and_parts, eqb-true}
use Rattle.std.specs.Option.{option_map}
use Rattle.whips_lists.proofs.Members.{has_cases, has_later, has_left, has_right, has_either, has_mapped}
use Rattle.whips_lists.specs.Lists.{without_front, places_from}
use Rattle.whips_lists.specs.Members.{Has}
use Rattle.whips_flow.specs.State.{NumberedTransaction}
use Rattle.whips_model.specs.Tuples.{Codes, Columns, IsKeyed}
use Rattle.whips_model.specs.Relation.{Table, value_of}
use Rattle.whips_choices.specs.KeyedViews.{KeyedView, IsKeyedView}
use Rattle.whips_choices.specs.Partials.{Partial}
use Rattle.whips_choices.proofs.Values.{value_in_order}
use Rattle.whips_states.specs.States.{Updates, applied, all_applied, AreValid, AreAllValid}
use Rattle.whips_states.specs.Concerns.{concerns}
use Rattle.whips_states.specs.Net.{taken}
use Rattle.whips_view.specs.ViewDefs.{keyed, row_columns}
use Rattle.whips_actions.specs.declared.action.Action.{Action}
use Rattle.whips_actions.specs.declared.action.ActionList.{ActionList}
use Rattle.whips_actions.specs.Acts.{applied as made}
use Rattle.whips_steps.specs.Answers.{tables_of}
use Rattle.whips_facts.specs.Scripts.{Script}
use Rattle.whips_managers.specs.Managers.{Query, ManagerState, is_named, moved_on, has_next, with_step, with_answer, with_reply_to, with_reply_behind, with_reply, with_transaction, list_of, without_list}
use Rattle.whips_managers.specs.Invariants.{Keeps}
use Rattle.whips_query.specs.declared.asks.Reply.{Reply}
use Rattle.whips_manager_trans_laws.specs.Laws.{AreRelationsOf, HandsOut}
use Rattle.whips_manager_trans_laws.proofs.Relations.{tables_good}
use Rattle.whips_manager_trans_laws.proofs.Replies.{transaction_leaves, reply_leaves}
use Rattle.whips_ask_laws.specs.Begun.{begun, with_all_pending}
use Rattle.whips_ask_laws.proofs.After.{after_transaction}
use Rattle.whips_contents.specs.Contents.{ManagerInput, numbered_transaction, reply_to_ask, LoadedManager}
use Rattle.whips_contents.specs.Events.{with_input, state_after_input, list_or_none, manager_after_input}
use Rattle.whips_contents.proofs.Changes.{map_push}
use Rattle.whips_stage_laws.specs.Fits.{content, relations_after, FitsSetup, AnswersOn, AllMiss, InputsFit, value_after, ListsFit, Older, Shows, ManagerFits}
use Rattle.whips_stage_laws.proofs.Agree.{valid_parts, all_relations}
use Rattle.whips_stage_laws.proofs.Inputs.{relations_append, inputs_missed, inputs_sent, inputs_replied, inputs_map, miss_keeps, miss_value}

-- ---- prefixes

module _ {A : Type 0} where
  pub take_front : (xs ys : List A) → take (length xs) (xs ++ ys) ≡ xs
  take_front [] ys = refl
  take_front (x ∷ xs) ys = ap (λ z. x ∷ z) (take_front xs ys)

  pub take_within : (j : ℕ) (xs ys : List A) → j ≤ length xs → take j (xs ++ ys) ≡ take j xs
  take_within zero xs ys le = refl
  take_within (suc j) [] ys le = absurd (omega (arith, le))
  take_within (suc j) (x ∷ xs) ys le = ap (λ z. x ∷ z) (take_within j xs ys (omega (arith, le)))

module _ (sc : Script) (v : KeyedView) where
  pub take_relations : (j : ℕ) (ks : List NumberedTransaction) (db : List Table) → AreRelationsOf v db → AreAllValid db (map (content sc) ks) → AreRelationsOf v (all_applied db (map (content sc) (take j ks)))
  take_relations zero ks db rel valid = rel
  take_relations (suc j) [] db rel valid = rel
  take_relations (suc j) (k ∷ ks) db rel valid = take_relations j ks (applied db (content sc k)) (all_relations v db (content sc k ∷ []) rel (valid.0, tt)) valid.1

  -- a value after a prefix comes in the order of its keys
  pub value_keyed : (numbering : List NumberedTransaction) (j : ℕ) → IsKeyedView v → AreRelationsOf v sc.setup.initial → AreAllValid sc.setup.initial (map (content sc) numbering) → IsKeyed v.columns (value_after sc v numbering j)
  value_keyed numbering j is rel valid = value_in_order v is (tables_of v.base (relations_after sc (take j numbering))) (tables_good v (relations_after sc (take j numbering)) (take_relations j numbering sc.setup.initial rel valid))

  pub value_grows : (numbering more : List NumberedTransaction) (j : ℕ) → j ≤ length numbering → value_after sc v numbering j ≡ value_after sc v (numbering ++ more) j
  value_grows numbering more j le = ap (λ ks. value_of v.base (relations_after sc ks)) (sym (take_within j numbering more le))

  pub lists_grow : (x j : ℕ) (numbering more : List NumberedTransaction) (ls : List ActionList) (last : ℕ) → j ≤ length numbering → ListsFit sc v x numbering j ls last → ListsFit sc v x (numbering ++ more) j ls last
  lists_grow x j numbering more [] last le h = h
  lists_grow x j numbering more (l ∷ ls) last le h = (
    h.0,
    omega (arith, h.1, length-append numbering more),
    ap (made v l.actions) (sym (value_grows numbering more j le)) ∙ (h.2 ∙ value_grows numbering more l.upto h.1),
    lists_grow x l.upto numbering more ls last h.1 h.3,
  )

  pub lists_push : (x j : ℕ) (numbering : List NumberedTransaction) (ls : List ActionList) (last : ℕ) (l : ActionList) → ListsFit sc v x numbering j ls last → l.view ≡ x → l.upto ≤ length numbering → made v l.actions (value_after sc v numbering last) ≡ value_after sc v numbering l.upto → ListsFit sc v x numbering j (ls ++ l ∷ []) l.upto
  lists_push x j numbering [] last l h own le is = (own, le, ap (λ k. made v l.actions (value_after sc v numbering k)) h ∙ is, refl)
  lists_push x j numbering (k ∷ ls) last l h own le is = (h.0, h.1, h.2, lists_push x k.upto numbering ls last l h.3 own le is)

shows_grow : (o : Option (List Codes)) {a b : List Codes} → a ≡ b → Shows o a → Shows o b
shows_grow None e h = tt
shows_grow (Some rows) e h = h ∙ e

-- ---- the integrator

module _ (s : Script) (older : Older) (numbering : List NumberedTransaction) (x : ℕ) (m : LoadedManager) (h : ManagerFits s older numbering x m) where
  long : length h.before ≤ length numbering
  long = omega (arith, ap length h.split, length-append h.before h.after)

  module _ (k : NumberedTransaction) where
    pub manager_missed : concerns m.manager.view.parts (content s k) ≡ false → ManagerFits s older (numbering ++ k ∷ []) x m
    manager_missed miss = record {
      view = h.view;
      number = h.number;
      before = h.before;
      after = h.after ++ k ∷ [];
      split = ap (λ l. l ++ k ∷ []) h.split ∙ append_assoc h.before h.after (k ∷ []);
      first_list = h.first_list;
      last_list = h.last_list;
      first_known = omega (arith, h.first_known, length-append numbering (k ∷ []));
      known = h.known;
      keeps = subst (λ rows. Keeps (keyed m.manager.view) (tables_of m.manager.view.parts (relations_after s h.before)) rows m.manager.state) (value_grows s (keyed m.manager.view) numbering (k ∷ []) h.last_list (omega (arith, h.known, long))) h.keeps;
      taken = h.taken;
      same_value = sym (value_grows s (keyed m.manager.view) numbering (k ∷ []) m.manager.state.last (omega (arith, h.taken, long))) ∙ h.same_value;
      inputs = inputs_missed s (keyed m.manager.view) (AnswersOn (keyed m.manager.view) m.manager.state) h.before h.after k m.messages miss h.inputs;
      lists = lists_grow s (keyed m.manager.view) x h.first_list numbering (k ∷ []) (older.lists ++ m.lists) h.last_list h.first_known h.lists;
      shown = shows_grow older.rows (value_grows s (keyed m.manager.view) numbering (k ∷ []) h.first_list h.first_known) h.shown;
      counted = h.counted;
    }

    pub manager_sent : (t : Updates) → k.number ≡ suc (length numbering) → t ≡ content s k → concerns m.manager.view.parts t ≡ true → ManagerFits s older (numbering ++ k ∷ []) x (with_input (numbered_transaction k t) m)
    manager_sent t number is met = record {
      view = h.view;
      number = h.number;
      before = h.before;
      after = h.after ++ k ∷ [];
      split = ap (λ l. l ++ k ∷ []) h.split ∙ append_assoc h.before h.after (k ∷ []);
      first_list = h.first_list;
      last_list = h.last_list;
      first_known = omega (arith, h.first_known, length-append numbering (k ∷ []));
      known = h.known;
      keeps = subst (λ rows. Keeps (keyed m.manager.view) (tables_of m.manager.view.parts (relations_after s h.before)) rows m.manager.state) (value_grows s (keyed m.manager.view) numbering (k ∷ []) h.last_list (omega (arith, h.known, long))) h.keeps;
      taken = h.taken;
      same_value = sym (value_grows s (keyed m.manager.view) numbering (k ∷ []) m.manager.state.last (omega (arith, h.taken, long))) ∙ h.same_value;
      inputs = inputs_sent s (keyed m.manager.view) (AnswersOn (keyed m.manager.view) m.manager.state) h.before h.after k t m.messages (number ∙ ap (λ l. suc (length l)) h.split) is met h.inputs;
      lists = lists_grow s (keyed m.manager.view) x h.first_list numbering (k ∷ []) (older.lists ++ m.lists) h.last_list h.first_known h.lists;
      shown = shows_grow older.rows (value_grows s (keyed m.manager.view) numbering (k ∷ []) h.first_list h.first_known) h.shown;
      counted = h.counted;
    }

  pub manager_replied : (r : Reply) → AnswersOn (keyed m.manager.view) m.manager.state (relations_after s numbering) r → ManagerFits s older numbering x (with_input (reply_to_ask r) m)
  manager_replied r a = record {
    view = h.view;
    number = h.number;
    before = h.before;
    after = h.after;
    split = h.split;
    first_list = h.first_list;
    last_list = h.last_list;
    first_known = h.first_known;
    known = h.known;
    keeps = h.keeps;
    taken = h.taken;
    same_value = h.same_value;
    inputs = inputs_replied s (keyed m.manager.view) (AnswersOn (keyed m.manager.view) m.manager.state) h.before h.after r m.messages (subst (λ l. AnswersOn (keyed m.manager.view) m.manager.state (relations_after s l) r) h.split a) h.inputs;
    lists = h.lists;
    shown = h.shown;
    counted = h.counted;
  }

-- ---- the open queries after a message

-- a query stays after a transaction, with more pending deletions
pub stays_after_transaction : (v : KeyedView) (columns : Columns) (m : ManagerState) (number : ℕ) (t : Updates) (q : Query) → Has q m.queries → Has (with_all_pending (taken v t) q) (with_transaction v columns m number t).queries
stays_after_transaction v columns m number t q h =
    subst (λ l. Has (with_all_pending (taken v t) q) l) (sym (after_transaction v columns m number t).queries)
    (has_left (with_all_pending (taken v t) q) (map (with_all_pending (taken v t)) m.queries) (begun v number t (places_from 0 (length v.keys))) (has_mapped (with_all_pending (taken v t)) q m.queries h))

-- a query that isn't the one a reply names
pub other_name : (r : Reply) (q : Query) → ((q.transaction ≡ r.update) × (q.origin ≡ r.origin) → ⊥) → is_named r.update r.origin q ≡ false
other_name r q ne = go (is_named r.update r.origin q) refl
  where
    go : (b : Bool) → is_named r.update r.origin q ≡ b → is_named r.update r.origin q ≡ false
    go true e = let both = and_parts (q.transaction == r.update) (q.origin == r.origin) e in absurd (ne (eqb-true q.transaction r.update both.0, eqb-true q.origin r.origin both.1))
    go false e = e

-- a query of another name stays after a reply
module _ (v : KeyedView) (columns : Columns) (m : ManagerState) (transaction origin : ℕ) (partials : List Partial) (q : Query) (other : is_named transaction origin q ≡ false) where
  stays_beside : (before after : List Query) (p : Query) → is_named transaction origin p ≡ true → Has q (before ++ p ∷ after) → Has q (with_reply_to v columns m before p partials after).queries
  stays_beside before after p named h = elim (has_next v p) as (λ b. Has q (cond b (with_step m before p partials after) (with_answer v columns m before p partials after)).queries) [
    | true ↦ elim (has_either q before (p ∷ after) h) [
      | inl i ↦ has_left q before (moved_on p partials ∷ after) i
      | inr i ↦ has_right q before (moved_on p partials ∷ after) (has_later q (moved_on p partials) after (later i))
    ]
    | false ↦ elim (has_either q before (p ∷ after) h) [
      | inl i ↦ has_left q before after i
      | inr i ↦ has_right q before after (later i)
    ]
  ]
    where
      later : Has q (p ∷ after) → Has q after
      later i = elim (has_cases q p after i) [
        | inl same ↦ let no : is_named transaction origin p ≡ false = subst (λ z. is_named transaction origin z ≡ false) same other in absurd (cc (named, no))
        | inr k ↦ k
      ]

  stays_behind : (queries before : List Query) → Has q (before ++ queries) → Has q m.queries → Has q (with_reply_behind v columns m before queries transaction origin partials).queries
  stays_behind [] before h g = g
  stays_behind (p ∷ queries) before h g = go (stays_behind queries (before ++ p ∷ []) (subst (λ l. Has q l) (sym (append_assoc before (p ∷ []) queries)) h) g) (is_named transaction origin p) refl
    where
      go : Has q (with_reply_behind v columns m (before ++ p ∷ []) queries transaction origin partials).queries → (b : Bool) → is_named transaction origin p ≡ b
          → Has q (cond b (with_reply_to v columns m before p partials queries) (with_reply_behind v columns m (before ++ p ∷ []) queries transaction origin partials)).queries
      go ih true e = stays_beside before queries p e h
      go ih false e = ih

  pub stays_after_reply : Has q m.queries → Has q (with_reply v columns m transaction origin partials).queries
  stays_after_reply h = stays_behind m.queries [] h h

-- the last number stays after a reply
last_behind : (v : KeyedView) (columns : Columns) (m : ManagerState) (transaction origin : ℕ) (partials : List Partial) (queries before : List Query) → (with_reply_behind v columns m before queries transaction origin partials).last ≡ m.last
last_behind v columns m transaction origin partials [] before = refl
last_behind v columns m transaction origin partials (p ∷ queries) before = elim (is_named transaction origin p) as (λ b. (cond b (with_reply_to v columns m before p partials queries) (with_reply_behind v columns m (before ++ p ∷ []) queries transaction origin partials)).last ≡ m.last) [
  | true ↦ elim (has_next v p) as (λ b. (cond b (with_step m before p partials queries) (with_answer v columns m before p partials queries)).last ≡ m.last) [ true ↦ refl | false ↦ refl ]
  | false ↦ last_behind v columns m transaction origin partials queries (before ++ p ∷ [])
]

pub last_after_reply : (v : KeyedView) (columns : Columns) (m : ManagerState) (transaction origin : ℕ) (partials : List Partial) → (with_reply v columns m transaction origin partials).last ≡ m.last
last_after_reply v columns m transaction origin partials = last_behind v columns m transaction origin partials m.queries []

-- ---- the manager takes a message

module _ (s : Script) (older : Older) (numbering : List NumberedTransaction) (x : ℕ) (m : LoadedManager) (h : ManagerFits s older numbering x m) (fits : FitsSetup s.setup (keyed m.manager.view)) (start : AreRelationsOf (keyed m.manager.view) s.setup.initial)
    (valid : AreAllValid s.setup.initial (map (content s) numbering)) where
  -- what the manager is after it has handed out a list or none, where it stands after the transactions before
  module _ (i : ManagerInput) (before rest : List NumberedTransaction) (split : numbering ≡ before ++ rest) (more : length h.before ≤ length before)
      (out : HandsOut (keyed m.manager.view) (relations_after s before) (value_after s (keyed m.manager.view) numbering h.last_list) (state_after_input m.manager i))
      (last : (state_after_input m.manager i).last ≤ length before)
      (same : value_after s (keyed m.manager.view) numbering (state_after_input m.manager i).last ≡ value_of m.manager.view.parts (relations_after s before))
      (inputs : InputsFit s (keyed m.manager.view) (AnswersOn (keyed m.manager.view) (without_list (state_after_input m.manager i))) before rest (without_front m.messages)) where
    handed : ManagerFits s older numbering x (manager_after_input i m)
    handed = go (list_of (state_after_input m.manager i)) refl
      where
        all : length before ≤ length numbering
        all = omega (arith, ap length split, length-append before rest)

        go : (o : Option (List Action)) → list_of (state_after_input m.manager i) ≡ o → ManagerFits s older numbering x (manager_after_input i m)
        go None e = record {
          view = h.view;
          number = h.number;
          before = before;
          after = rest;
          split = split;
          first_list = h.first_list;
          last_list = h.last_list;
          first_known = h.first_known;
          known = omega (arith, h.known, more);
          keeps = out.none e;
          taken = last;
          same_value = same;
          inputs = inputs;
          shown = h.shown;
          counted = h.counted;
          lists = subst (λ o. ListsFit s (keyed m.manager.view) x numbering h.first_list (older.lists ++ (m.lists ++ list_or_none o)) h.last_list) (sym (ap (option_map (λ (actions : List Action). record { view = m.manager.number; upto = (state_after_input m.manager i).last; actions = actions })) e))
              (subst (λ ls. ListsFit s (keyed m.manager.view) x numbering h.first_list (older.lists ++ ls) h.last_list) (sym (append-nil m.lists)) h.lists);
        }
        go (Some actions) e = record {
          view = h.view;
          number = h.number;
          before = before;
          after = rest;
          split = split;
          first_list = h.first_list;
          last_list = (state_after_input m.manager i).last;
          first_known = h.first_known;
          known = last;
          keeps = subst (λ rows. Keeps (keyed m.manager.view) (tables_of m.manager.view.parts (relations_after s before)) rows (without_list (state_after_input m.manager i))) (sym same) (out.list actions e).1;
          taken = last;
          same_value = same;
          inputs = inputs;
          shown = h.shown;
          counted = h.counted;
          lists = subst (λ o. ListsFit s (keyed m.manager.view) x numbering h.first_list (older.lists ++ (m.lists ++ list_or_none o)) (state_after_input m.manager i).last) (sym (ap (option_map (λ (actions : List Action). record { view = m.manager.number; upto = (state_after_input m.manager i).last; actions = actions })) e))
              (subst (λ ls. ListsFit s (keyed m.manager.view) x numbering h.first_list ls (state_after_input m.manager i).last) (append_assoc older.lists m.lists (record { view = m.manager.number; upto = (state_after_input m.manager i).last; actions = actions } ∷ []))
              (lists_push s (keyed m.manager.view) x h.first_list numbering (older.lists ++ m.lists) h.last_list (record { view = m.manager.number; upto = (state_after_input m.manager i).last; actions = actions }) h.lists h.number (omega (arith, last, all)) ((out.list actions e).0 ∙ sym same)));
        }

  keyed_rows : IsKeyed (keyed m.manager.view).columns (value_after s (keyed m.manager.view) numbering h.last_list)
  keyed_rows = value_keyed s (keyed m.manager.view) numbering h.last_list fits.view start valid

  -- what is known where the numbering is cut in three
  parts : (skipped rest : List NumberedTransaction) → h.after ≡ skipped ++ rest
      → AreRelationsOf (keyed m.manager.view) (relations_after s h.before) × AreAllValid (relations_after s h.before) (map (content s) skipped) × AreAllValid (relations_after s (h.before ++ skipped)) (map (content s) rest)
  parts skipped rest e =
      let whole : AreAllValid s.setup.initial (map (content s) h.before ++ map (content s) (skipped ++ rest)) = subst (AreAllValid s.setup.initial) (ap (map (content s)) (h.split ∙ ap (λ l. h.before ++ l) e) ∙ map_push (content s) h.before (skipped ++ rest)) valid in
      let a = valid_parts s.setup.initial (map (content s) h.before) (map (content s) (skipped ++ rest)) whole in
      let b = valid_parts (relations_after s h.before) (map (content s) skipped) (map (content s) rest) (subst (AreAllValid (relations_after s h.before)) (map_push (content s) skipped rest) a.1) in
      (all_relations (keyed m.manager.view) s.setup.initial (map (content s) h.before) start a.0, b.0, subst (λ db. AreAllValid db (map (content s) rest)) (sym (relations_append s (keyed m.manager.view) h.before skipped)) b.1)

  pub manager_takes : (k : NumberedTransaction) (t : Updates) (ms : List ManagerInput) → m.messages ≡ numbered_transaction k t ∷ ms → ManagerFits s older numbering x (manager_after_input (numbered_transaction k t) m)
  manager_takes k t ms e =
      let f : InputsFit s (keyed m.manager.view) (AnswersOn (keyed m.manager.view) m.manager.state) h.before h.after (numbered_transaction k t ∷ ms) = subst (InputsFit s (keyed m.manager.view) (AnswersOn (keyed m.manager.view) m.manager.state) h.before h.after) e h.inputs in
      taken_in f.0 f.1 f.2 f.3 f.4 f.5 f.7
    where
      taken_in : (skipped rest : List NumberedTransaction) → h.after ≡ skipped ++ k ∷ rest → AllMiss s (keyed m.manager.view) skipped → k.number ≡ suc (length (h.before ++ skipped)) → t ≡ content s k
          → InputsFit s (keyed m.manager.view) (AnswersOn (keyed m.manager.view) m.manager.state) ((h.before ++ skipped) ++ k ∷ []) rest ms → ManagerFits s older numbering x (manager_after_input (numbered_transaction k t) m)
      taken_in skipped rest cut miss number is fit =
          handed (numbered_transaction k t) ((h.before ++ skipped) ++ k ∷ []) rest split (omega (arith, length-append h.before skipped, length-append (h.before ++ skipped) (k ∷ [])))
          (subst (λ db. HandsOut (keyed m.manager.view) db (value_after s (keyed m.manager.view) numbering h.last_list) (state_after_input m.manager (numbered_transaction k t))) at
          (transaction_leaves (keyed m.manager.view) (row_columns m.manager.view) (relations_after s (h.before ++ skipped)) (value_after s (keyed m.manager.view) numbering h.last_list) m.manager.state k.number t rel valid_t (omega (arith, number, h.taken, length-append h.before skipped)) keyed_rows stands))
          (omega (arith, last_is, long))
          (ap (value_after s (keyed m.manager.view) numbering) (last_is ∙ long) ∙ ap (λ l. value_of m.manager.view.parts (relations_after s l)) (ap (take (length ((h.before ++ skipped) ++ k ∷ []))) split ∙ take_front ((h.before ++ skipped) ++ k ∷ []) rest))
          (subst (λ l. InputsFit s (keyed m.manager.view) (AnswersOn (keyed m.manager.view) (without_list (state_after_input m.manager (numbered_transaction k t)))) ((h.before ++ skipped) ++ k ∷ []) rest (without_front l)) (sym e)
          (inputs_map s (keyed m.manager.view) (AnswersOn (keyed m.manager.view) m.manager.state) (AnswersOn (keyed m.manager.view) (without_list (state_after_input m.manager (numbered_transaction k t)))) ((h.before ++ skipped) ++ k ∷ []) rest ms (λ db r i a. record {
            query = with_all_pending (taken (keyed m.manager.view) t) a.query;
            open_query = stays_after_transaction (keyed m.manager.view) (row_columns m.manager.view) m.manager.state k.number t a.query a.open_query;
            transaction_is = a.transaction_is;
            origin_is = a.origin_is;
            step_is = a.step_is;
            answer = a.answer;
          }) fit))
        where
          p : AreRelationsOf (keyed m.manager.view) (relations_after s h.before) × AreAllValid (relations_after s h.before) (map (content s) skipped) × AreAllValid (relations_after s (h.before ++ skipped)) (map (content s) (k ∷ rest))
          p = parts skipped (k ∷ rest) cut

          rel : AreRelationsOf (keyed m.manager.view) (relations_after s (h.before ++ skipped))
          rel = subst (AreRelationsOf (keyed m.manager.view)) (sym (relations_append s (keyed m.manager.view) h.before skipped)) (all_relations (keyed m.manager.view) (relations_after s h.before) (map (content s) skipped) p.0 p.1)

          valid_t : AreValid (relations_after s (h.before ++ skipped)) t
          valid_t = subst (AreValid (relations_after s (h.before ++ skipped))) (sym is) p.2.0

          stands : Keeps (keyed m.manager.view) (tables_of m.manager.view.parts (relations_after s (h.before ++ skipped))) (value_after s (keyed m.manager.view) numbering h.last_list) m.manager.state
          stands = subst (λ db. Keeps (keyed m.manager.view) (tables_of m.manager.view.parts db) (value_after s (keyed m.manager.view) numbering h.last_list) m.manager.state) (sym (relations_append s (keyed m.manager.view) h.before skipped))
              (miss_keeps s (keyed m.manager.view) (value_after s (keyed m.manager.view) numbering h.last_list) m.manager.state skipped (relations_after s h.before) p.0 p.1 miss h.keeps)

          at : applied (relations_after s (h.before ++ skipped)) t ≡ relations_after s ((h.before ++ skipped) ++ k ∷ [])
          at = ap (applied (relations_after s (h.before ++ skipped))) is ∙ sym (relations_append s (keyed m.manager.view) (h.before ++ skipped) (k ∷ []))

          split : numbering ≡ ((h.before ++ skipped) ++ k ∷ []) ++ rest
          split = h.split ∙ (ap (λ l. h.before ++ l) cut ∙ sym (append_assoc (h.before ++ skipped) (k ∷ []) rest ∙ append_assoc h.before skipped (k ∷ rest)))

          last_is : (state_after_input m.manager (numbered_transaction k t)).last ≡ k.number
          last_is = (after_transaction (keyed m.manager.view) (row_columns m.manager.view) m.manager.state k.number t).last

          long : k.number ≡ length ((h.before ++ skipped) ++ k ∷ [])
          long = omega (arith, number, length-append (h.before ++ skipped) (k ∷ []))

  pub manager_hears : (r : Reply) (ms : List ManagerInput) → m.messages ≡ reply_to_ask r ∷ ms → ((q : Reply) → Has (reply_to_ask q) ms → (r.update ≡ q.update) × (r.origin ≡ q.origin) → ⊥) → ManagerFits s older numbering x (manager_after_input (reply_to_ask r) m)
  manager_hears r ms e apart =
      let f : InputsFit s (keyed m.manager.view) (AnswersOn (keyed m.manager.view) m.manager.state) h.before h.after (reply_to_ask r ∷ ms) = subst (InputsFit s (keyed m.manager.view) (AnswersOn (keyed m.manager.view) m.manager.state) h.before h.after) e h.inputs in
      heard f.0 f.1 f.2 f.3 f.4 f.5
    where
      heard : (skipped rest : List NumberedTransaction) → h.after ≡ skipped ++ rest → AllMiss s (keyed m.manager.view) skipped → AnswersOn (keyed m.manager.view) m.manager.state (relations_after s (h.before ++ skipped)) r
          → InputsFit s (keyed m.manager.view) (AnswersOn (keyed m.manager.view) m.manager.state) (h.before ++ skipped) rest ms → ManagerFits s older numbering x (manager_after_input (reply_to_ask r) m)
      heard skipped rest cut miss a fit =
          handed (reply_to_ask r) (h.before ++ skipped) rest (h.split ∙ (ap (λ l. h.before ++ l) cut ∙ sym (append_assoc h.before skipped rest))) (omega (arith, length-append h.before skipped))
          (reply_leaves (keyed m.manager.view) (row_columns m.manager.view) (relations_after s (h.before ++ skipped)) (value_after s (keyed m.manager.view) numbering h.last_list) m.manager.state r.update r.origin r.partials
          (record { query = a.query; there = a.open_query; transaction_is = a.transaction_is; origin_is = a.origin_is; answer = a.answer }) keyed_rows stands)
          (omega (arith, last_is, h.taken, length-append h.before skipped))
          (ap (value_after s (keyed m.manager.view) numbering) last_is ∙ (h.same_value ∙ sym (ap (value_of m.manager.view.parts) (relations_append s (keyed m.manager.view) h.before skipped) ∙ miss_value s (keyed m.manager.view) skipped (relations_after s h.before) p.0 p.1 miss)))
          (subst (λ l. InputsFit s (keyed m.manager.view) (AnswersOn (keyed m.manager.view) (without_list (state_after_input m.manager (reply_to_ask r)))) (h.before ++ skipped) rest (without_front l)) (sym e)
          (inputs_map s (keyed m.manager.view) (AnswersOn (keyed m.manager.view) m.manager.state) (AnswersOn (keyed m.manager.view) (without_list (state_after_input m.manager (reply_to_ask r)))) (h.before ++ skipped) rest ms (λ db q i b. record {
            query = b.query;
            open_query = stays_after_reply (keyed m.manager.view) (row_columns m.manager.view) m.manager.state r.update r.origin r.partials b.query (other_name r b.query (λ g. apart q i (sym g.0 ∙ b.transaction_is, sym g.1 ∙ b.origin_is))) b.open_query;
            transaction_is = b.transaction_is;
            origin_is = b.origin_is;
            step_is = b.step_is;
            answer = b.answer;
          }) fit))
        where
          p : AreRelationsOf (keyed m.manager.view) (relations_after s h.before) × AreAllValid (relations_after s h.before) (map (content s) skipped) × AreAllValid (relations_after s (h.before ++ skipped)) (map (content s) rest)
          p = parts skipped rest cut

          stands : Keeps (keyed m.manager.view) (tables_of m.manager.view.parts (relations_after s (h.before ++ skipped))) (value_after s (keyed m.manager.view) numbering h.last_list) m.manager.state
          stands = subst (λ db. Keeps (keyed m.manager.view) (tables_of m.manager.view.parts db) (value_after s (keyed m.manager.view) numbering h.last_list) m.manager.state) (sym (relations_append s (keyed m.manager.view) h.before skipped))
              (miss_keeps s (keyed m.manager.view) (value_after s (keyed m.manager.view) numbering h.last_list) m.manager.state skipped (relations_after s h.before) p.0 p.1 miss h.keeps)

          last_is : (state_after_input m.manager (reply_to_ask r)).last ≡ m.manager.state.last
          last_is = last_after_reply (keyed m.manager.view) (row_columns m.manager.view) m.manager.state r.update r.origin r.partials
