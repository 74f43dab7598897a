-- A reply, and the list that leaves.
use Rattle.std.proofs.Common.{◌≡◌, inl, inr, ℕ, ◌≤◌, ◌==◌, Bool, true, false, cond, Some, List, [], ◌∷◌, ◌++◌, length, map, refl, sym, ap, subst, ◌∙◌, arith, eq-eqb, eqb-true}
use Rattle.std.proofs.lemmas.Bool.{and_parts, and_from, ltb-true, ltb-false}
use Rattle.std.proofs.lemmas.List.{append_assoc}
use Rattle.whips_lists.specs.Members.{Has, AreDistinct}
use Rattle.whips_model.specs.Tuples.{Codes, Columns}
use Rattle.whips_model.specs.Relation.{value_of}
use Rattle.whips_lists.proofs.Members.{has_none, has_cases, has_mapped}
use Rattle.whips_choices.specs.KeyedViews.{KeyedView}
use Rattle.whips_states.specs.States.{applied}
use Rattle.whips_steps.specs.Steps.{asked_sources}
use Rattle.whips_steps.specs.Answers.{tables_of}
use Rattle.whips_actions.specs.declared.action.Action.{Action}
use Rattle.whips_actions.specs.Acts.{applied as made}
use Rattle.whips_managers.specs.Managers.{Query, ManagerState, name_of, has_next, with_step, with_answer, with_reply_to, is_named, with_reply_behind, with_reply, with_transaction, list_where, kept_where}
use Rattle.whips_managers.specs.Invariants.{Keeps}
use Rattle.whips_manager_laws.specs.Laws.{answer_to}
use Rattle.whips_manager_laws.proofs.Invariant.{mid_has}
use Rattle.whips_manager_laws.proofs.Lawful.{earlier_answer, last_answer, settles, begins}
use Rattle.whips_manager_trans_laws.specs.Laws.{ReplyKeeps, HandsOut, ListLeaves, TransactionHandsOut, ReplyHandsOut}
use Rattle.whips_manager_trans_laws.proofs.Transaction.{transaction}

-- ---- names

pub named_once : (queries : List Query) (q x : Query) → AreDistinct (map name_of queries) → Has q queries → Has x queries → name_of q ≡ name_of x → q ≡ x
named_once [] q x d h g e = absurd (has_none q h)
named_once (y ∷ queries) q x d h g e = elim (has_cases q y queries h) [
  | inl same ↦ elim (has_cases x y queries g) [
    | inl is ↦ same ∙ sym is
    | inr k ↦ absurd (d.0 (subst (λ z. Has z (map name_of queries)) (sym e ∙ ap name_of same) (has_mapped name_of x queries k)))
  ]
  | inr k ↦ elim (has_cases x y queries g) [
    | inl is ↦ absurd (d.0 (subst (λ z. Has z (map name_of queries)) (e ∙ ap name_of is) (has_mapped name_of q queries k)))
    | inr m ↦ named_once queries q x d.1 k m e
  ]
]

pub name_is : (transaction origin : ℕ) (q : Query) → is_named transaction origin q ≡ true → name_of q ≡ (transaction, origin)
name_is transaction origin q e =
    let both = and_parts (q.transaction == transaction) (q.origin == origin) e in
    let a = eqb-true q.transaction transaction both.0 in
    let b = eqb-true q.origin origin both.1 in
    λ i. (a i, b i)

module _ (v : KeyedView) (columns : Columns) (tables : List (List Codes)) (rows : List Codes) (m : ManagerState) (s : Keeps v tables rows m) where
  -- the query's own reply
  replied : (before after : List Query) (q : Query) → m.queries ≡ before ++ q ∷ after → Keeps v tables rows (with_reply_to v columns m before q (answer_to v tables q) after)
  replied before after q e = go (has_next v q) refl
    where
      steps : (1 ≤ q.step) × (q.step ≤ length (asked_sources v q.origin))
      steps = s.invariant.numbered.steps q (subst (λ l. Has q l) (sym e) (mid_has q before after))

      go : (b : Bool) → has_next v q ≡ b → Keeps v tables rows (cond b (with_step m before q (answer_to v tables q) after) (with_answer v columns m before q (answer_to v tables q) after))
      go true n = earlier_answer v tables rows m before after q s e (ltb-true q.step (length (asked_sources v q.origin)) n)
      go false n = last_answer v columns tables rows m before after q s e (let past = ltb-false q.step (length (asked_sources v q.origin)) n in let upto = steps.1 in omega arith)

  module _ (transaction origin : ℕ) (q : Query) (there : Has q m.queries) (name : name_of q ≡ (transaction, origin)) where
    -- the first query with the name is the one that is meant
    pub behind : (queries before : List Query) → m.queries ≡ before ++ queries → Has q queries → Keeps v tables rows (with_reply_behind v columns m before queries transaction origin (answer_to v tables q))
    behind [] before e h = absurd (has_none q h)
    behind (x ∷ queries) before e h = go (λ k. behind queries (before ++ x ∷ []) (e ∙ sym (append_assoc before (x ∷ []) queries)) k) (is_named transaction origin x) refl
      where
        go : (Has q queries → Keeps v tables rows (with_reply_behind v columns m (before ++ x ∷ []) queries transaction origin (answer_to v tables q))) → (b : Bool) → is_named transaction origin x ≡ b
            → Keeps v tables rows (cond b (with_reply_to v columns m before x (answer_to v tables q) queries) (with_reply_behind v columns m (before ++ x ∷ []) queries transaction origin (answer_to v tables q)))
        go ih true n =
            let is : q ≡ x = named_once m.queries q x s.invariant.numbered.distinct there (subst (λ l. Has x l) (sym e) (mid_has x before queries)) (name ∙ sym (name_is transaction origin x n)) in
            subst (λ z. Keeps v tables rows (with_reply_to v columns m before x (answer_to v tables z) queries)) (sym is) (replied before queries x e)
        go ih false n = ih (elim (has_cases q x queries h) [
          | inl same ↦ absurd (other (subst (λ z. is_named transaction origin z ≡ false) (sym same) n))
          | inr k ↦ k
        ])
          where
            other : is_named transaction origin q ≡ false → ⊥
            other f =
                let g : is_named transaction origin q ≡ true = and_from (q.transaction == transaction) (q.origin == origin) (eq-eqb q.transaction transaction (ap (λ z. z.0) name)) (eq-eqb q.origin origin (ap (λ z. z.1) name)) in
                absurd (cc (f, g))

pub reply : ReplyKeeps
reply v columns db rows m transaction origin partials a s =
    subst (λ l. Keeps v (tables_of v.base db) rows (with_reply_behind v columns m [] m.queries transaction origin l)) (sym a.answer)
    (behind v columns (tables_of v.base db) rows m s transaction origin a.query a.there (λ i. (a.transaction_is i, a.origin_is i)) m.queries [] refl a.there)

-- ---- the list

pub leaves : ListLeaves
leaves v db rows m keyed s = go m.queries refl
  where
    is_list : (queries : List Query) (actions own : List Action) → list_where queries own ≡ Some actions → queries ≡ [] × (own ≡ actions)
    is_list [] actions own e = let same : own ≡ actions = cc in (refl, same)
    is_list (q ∷ queries) actions own e = absurd (cc)

    go : (queries : List Query) → m.queries ≡ queries → HandsOut v db rows m
    go [] e = record {
      none = λ n. let g : list_where m.queries m.actions ≡ Some m.actions = ap (λ l. list_where l m.actions) e in absurd (cc (n, g));
      list = λ actions g.
          let is = is_list m.queries actions m.actions g in (
            subst (λ l. made v l rows ≡ value_of v.base db) is.1 (settles v (tables_of v.base db) rows m s keyed e),
            subst (λ l. Keeps v (tables_of v.base db) (value_of v.base db) (record { last = m.last; actions = kept_where l m.actions; queries = l })) (sym e) (begins v (tables_of v.base db) m.last s.view s.good),
          );
    }
    go (q ∷ queries) e = record {
      none = λ n. subst (λ l. Keeps v (tables_of v.base db) rows (record m { actions = l })) (sym (ap (λ l. kept_where l m.actions) e)) s;
      list = λ actions g. let is = is_list m.queries actions m.actions g in absurd (cc (e, is.0));
    }

pub transaction_leaves : TransactionHandsOut
transaction_leaves v columns db rows m number t rel valid later keyed s = leaves v (applied db t) rows (with_transaction v columns m number t) keyed (transaction v columns db rows m number t rel valid later s)

pub reply_leaves : ReplyHandsOut
reply_leaves v columns db rows m transaction origin partials a keyed s = leaves v db rows (with_reply v columns m transaction origin partials) keyed (reply v columns db rows m transaction origin partials a s)
