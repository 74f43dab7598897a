-- What the integrator and a manager do to the manager's messages, its state and its lists.
use Rattle.std.proofs.Common.{◌≡◌, suc, true, false, List, [], ◌∷◌, ◌++◌, length, map, refl, sym, ap, subst, ◌∙◌, append_assoc, append-nil}
use Rattle.whips_lists.proofs.Members.{has_first, has_later}
use Rattle.whips_lists.specs.Members.{Has}
use Rattle.whips_flow.specs.State.{NumberedTransaction}
use Rattle.whips_model.specs.Tuples.{Codes}
use Rattle.whips_model.specs.Relation.{Table, value_of}
use Rattle.whips_choices.specs.KeyedViews.{KeyedView}
use Rattle.whips_states.specs.States.{Updates, applied, all_applied, AreAllValid}
use Rattle.whips_states.specs.Concerns.{concerns}
use Rattle.whips_states.proofs.Unconcerned.{transaction_keeps}
use Rattle.whips_steps.specs.Answers.{tables_of}
use Rattle.whips_facts.specs.Scripts.{Script}
use Rattle.whips_managers.specs.Managers.{ManagerState}
use Rattle.whips_managers.specs.Invariants.{Keeps}
use Rattle.whips_query.specs.declared.asks.Reply.{Reply}
use Rattle.whips_manager_trans_laws.specs.Laws.{AreRelationsOf}
use Rattle.whips_manager_trans_laws.proofs.Unconcerned.{unconcerned}
use Rattle.whips_contents.specs.Contents.{ManagerInput, numbered_transaction, reply_to_ask}
use Rattle.whips_contents.proofs.Changes.{map_push}
use Rattle.whips_stage_laws.specs.Fits.{content, relations_after, AllMiss, InputsFit}
use Rattle.whips_stage_laws.proofs.Agree.{applied_append, all_relations}

module _ (sc : Script) (v : KeyedView) where
  pub relations_append : (ks js : List NumberedTransaction) → relations_after sc (ks ++ js) ≡ all_applied (relations_after sc ks) (map (content sc) js)
  relations_append ks js = ap (all_applied sc.setup.initial) (map_push (content sc) ks js) ∙ applied_append sc.setup.initial (map (content sc) ks) (map (content sc) js)

  pub miss_append : (ks js : List NumberedTransaction) → AllMiss sc v ks → AllMiss sc v js → AllMiss sc v (ks ++ js)
  miss_append [] js a b = b
  miss_append (k ∷ ks) js a b = (a.0, miss_append ks js a.1 b)

  -- ---- what comes behind

  module _ (A : List Table → Reply → Type 0) where
    -- a transaction that doesn't concern the view is numbered
    pub inputs_missed : (before after : List NumberedTransaction) (k : NumberedTransaction) (ms : List ManagerInput) → concerns v.base (content sc k) ≡ false → InputsFit sc v A before after ms → InputsFit sc v A before (after ++ k ∷ []) ms
    inputs_missed before after k [] miss h = miss_append after (k ∷ []) h (miss, tt)
    inputs_missed before after k (numbered_transaction j t ∷ ms) miss h =
        (h.0, h.1 ++ k ∷ [], ap (λ l. l ++ k ∷ []) h.2 ∙ append_assoc h.0 (j ∷ h.1) (k ∷ []), h.3, h.4, h.5, h.6, inputs_missed ((before ++ h.0) ++ j ∷ []) h.1 k ms miss h.7)
    inputs_missed before after k (reply_to_ask r ∷ ms) miss h =
        (h.0, h.1 ++ k ∷ [], ap (λ l. l ++ k ∷ []) h.2 ∙ append_assoc h.0 h.1 (k ∷ []), h.3, h.4, inputs_missed (before ++ h.0) h.1 k ms miss h.5)

    -- one that concerns it is numbered and sent
    pub inputs_sent : (before after : List NumberedTransaction) (k : NumberedTransaction) (t : Updates) (ms : List ManagerInput) → k.number ≡ suc (length (before ++ after)) → t ≡ content sc k → concerns v.base t ≡ true
        → InputsFit sc v A before after ms → InputsFit sc v A before (after ++ k ∷ []) (ms ++ numbered_transaction k t ∷ [])
    inputs_sent before after k t [] number is met h = (after, [], refl, h, number, is, met, tt)
    inputs_sent before after k t (numbered_transaction j u ∷ ms) number is met h =
        let long : length (((before ++ h.0) ++ j ∷ []) ++ h.1) ≡ length (before ++ after) = ap length (append_assoc (before ++ h.0) (j ∷ []) h.1 ∙ append_assoc before h.0 (j ∷ h.1) ∙ ap (λ l. before ++ l) (sym h.2)) in
        (h.0, h.1 ++ k ∷ [], ap (λ l. l ++ k ∷ []) h.2 ∙ append_assoc h.0 (j ∷ h.1) (k ∷ []), h.3, h.4, h.5, h.6, inputs_sent ((before ++ h.0) ++ j ∷ []) h.1 k t ms (number ∙ ap suc (sym long)) is met h.7)
    inputs_sent before after k t (reply_to_ask r ∷ ms) number is met h =
        let long : length ((before ++ h.0) ++ h.1) ≡ length (before ++ after) = ap length (append_assoc before h.0 h.1 ∙ ap (λ l. before ++ l) (sym h.2)) in
        (h.0, h.1 ++ k ∷ [], ap (λ l. l ++ k ∷ []) h.2 ∙ append_assoc h.0 h.1 (k ∷ []), h.3, h.4, inputs_sent (before ++ h.0) h.1 k t ms (number ∙ ap suc (sym long)) is met h.5)

    -- a reply that fits the relations after all that is numbered is handed on
    pub inputs_replied : (before after : List NumberedTransaction) (r : Reply) (ms : List ManagerInput) → A (relations_after sc (before ++ after)) r → InputsFit sc v A before after ms → InputsFit sc v A before after (ms ++ reply_to_ask r ∷ [])
    inputs_replied before after r [] a h = (after, [], sym (append-nil after), h, a, tt)
    inputs_replied before after r (numbered_transaction j u ∷ ms) a h =
        let same : before ++ after ≡ ((before ++ h.0) ++ j ∷ []) ++ h.1 = sym (append_assoc (before ++ h.0) (j ∷ []) h.1 ∙ append_assoc before h.0 (j ∷ h.1) ∙ ap (λ l. before ++ l) (sym h.2)) in
        (h.0, h.1, h.2, h.3, h.4, h.5, h.6, inputs_replied ((before ++ h.0) ++ j ∷ []) h.1 r ms (subst (λ l. A (relations_after sc l) r) same a) h.7)
    inputs_replied before after r (reply_to_ask q ∷ ms) a h =
        let same : before ++ after ≡ (before ++ h.0) ++ h.1 = sym (append_assoc before h.0 h.1 ∙ ap (λ l. before ++ l) (sym h.2)) in
        (h.0, h.1, h.2, h.3, h.4, inputs_replied (before ++ h.0) h.1 r ms (subst (λ l. A (relations_after sc l) r) same a) h.5)

  -- where each reply on its way stays right
  pub inputs_map : (A B : List Table → Reply → Type 0) (before after : List NumberedTransaction) (ms : List ManagerInput) → ((db : List Table) (r : Reply) → Has (reply_to_ask r) ms → A db r → B db r) → InputsFit sc v A before after ms → InputsFit sc v B before after ms
  inputs_map A B before after [] g h = h
  inputs_map A B before after (numbered_transaction k t ∷ ms) g h = (h.0, h.1, h.2, h.3, h.4, h.5, h.6, inputs_map A B ((before ++ h.0) ++ k ∷ []) h.1 ms (λ db r i. g db r (has_later (reply_to_ask r) (numbered_transaction k t) ms i)) h.7)
  inputs_map A B before after (reply_to_ask q ∷ ms) g h = (h.0, h.1, h.2, h.3, g (relations_after sc (before ++ h.0)) q (has_first (reply_to_ask q) ms) h.4, inputs_map A B (before ++ h.0) h.1 ms (λ db r i. g db r (has_later (reply_to_ask r) (reply_to_ask q) ms i)) h.5)

  -- ---- transactions that don't concern the view

  -- the manager stands after them as before, and the view's value is the same
  pub miss_keeps : (rows : List Codes) (m : ManagerState) (ts : List NumberedTransaction) (db : List Table) → AreRelationsOf v db → AreAllValid db (map (content sc) ts) → AllMiss sc v ts
      → Keeps v (tables_of v.base db) rows m → Keeps v (tables_of v.base (all_applied db (map (content sc) ts))) rows m
  miss_keeps rows m [] db rel valid miss h = h
  miss_keeps rows m (k ∷ ks) db rel valid miss h =
      miss_keeps rows m ks (applied db (content sc k)) (all_relations v db (content sc k ∷ []) rel (valid.0, tt)) valid.1 miss.1 (unconcerned v db rows m (content sc k) rel valid.0 miss.0 h)

  pub miss_value : (ts : List NumberedTransaction) (db : List Table) → AreRelationsOf v db → AreAllValid db (map (content sc) ts) → AllMiss sc v ts → value_of v.base (all_applied db (map (content sc) ts)) ≡ value_of v.base db
  miss_value [] db rel valid miss = refl
  miss_value (k ∷ ks) db rel valid miss = miss_value ks (applied db (content sc k)) (all_relations v db (content sc k ∷ []) rel (valid.0, tt)) valid.1 miss.1 ∙ transaction_keeps v.base db (content sc k) rel.sound valid.0 miss.0
