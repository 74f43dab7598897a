-- Which queries can be asked after a transaction and after a reply.
use Rattle.std.proofs.Common.{◌≡◌, inl, inr, ℕ, ◌+◌, ◌<◌, ◌≤◌, ◌==◌, ◌&&◌, Bool, true, false, cond, List, [], ◌∷◌, ◌++◌, length, map, get_or, refl, sym, ap, subst, ◌∙◌, arith, append-nil, eqb-true}
use Rattle.std.specs.List.{AllByRecursion}
use Rattle.std.proofs.lemmas.Bool.{and_parts, ltb-true}
use Rattle.std.proofs.lemmas.List.{append_assoc}
use Rattle.whips_model.specs.Tuples.{Codes, Columns, at_columns, IsKeyed}
use Rattle.whips_lists.specs.Members.{Has, AreDistinct}
use Rattle.whips_model.proofs.Keyed.{keyed_filter}
use Rattle.whips_lists.proofs.Members.{has_first, has_later, has_passed, has_before, all_has, all_from_has, has_from_any}
use Rattle.whips_choices.specs.KeyedViews.{KeyedView, part_key}
use Rattle.whips_choices.specs.Partials.{Partial, seed}
use Rattle.whips_choices.proofs.Parts.{seed_width}
use Rattle.whips_rel.specs.declared.update.Update.TheVariants.{Insert}
use Rattle.whips_states.specs.States.{Updates}
use Rattle.whips_states.specs.Concerns.{meets_part}
use Rattle.whips_states.specs.Net.{inserted, relation_at, given_at, taken}
use Rattle.whips_trans_laws.proofs.Nets.{inserted_last}
use Rattle.whips_steps.specs.Steps.{asked_sources}
use Rattle.whips_lists.specs.Lists.{places_from}
use Rattle.whips_lists.proofs.Places.{below_is}
use Rattle.whips_managers.specs.Managers.{Query, ManagerState, name_of, with_pending, with_deletion, with_deletions, new_query, with_query, with_put, put_or_asked, with_given, with_all_given, moved_on, has_next, with_step, with_answer, with_reply_to, is_named, with_reply_behind}
use Rattle.whips_steps.specs.Filled.{IsFilledBefore}
use Rattle.whips_managers.specs.Messages.{CanAsk, HasWidth, HaveWidths, Fits}
use Rattle.whips_manager_laws.proofs.Invariant.{mid_cases, mid_has, mid_rest}
use Rattle.whips_manager_trans_laws.proofs.Keys.{last_there}
use Rattle.whips_manager_trans_laws.proofs.Replies.{named_once, name_is}
use Rattle.whips_ask_laws.specs.Laws.{TransactionAsks, ReplyAsks, ReplyToFirst}
use Rattle.whips_ask_laws.proofs.Askable.{seeds_differ, seed_filled, seed_tuples}

module _ (v : KeyedView) (columns : Columns) (widths : List ℕ) where
  abbrev Each : List Query → Type 0
  Each queries = (q : Query) → Has q queries → CanAsk v widths q

  -- ---- deletions

  deleted_each : (keys : List (ℕ × Codes)) (m : ManagerState) → Each m.queries → Each (with_deletions m keys).queries
  deleted_each [] m h = h
  deleted_each (e ∷ keys) m h = deleted_each keys (with_deletion m e) (λ q k.
      let a = has_before (with_pending e.0 e.1) q m.queries k in
      let c = h a.0 a.1 in
      subst (λ z. CanAsk v widths z) (sym a.2) (record { origin = c.origin; low = c.low; high = c.high; filled = c.filled; differ = c.differ }))

  -- ---- insertions

  new_can : (number i : ℕ) (ts : List Codes) → i < length v.keys → 1 ≤ length (asked_sources v i) → IsKeyed (part_key v i) ts → ((t : Codes) → Has t ts → length t ≡ get_or widths i 0) → CanAsk v widths (new_query v number i ts)
  new_can number i ts lt asked rising wide = record {
    origin = lt;
    low = omega arith;
    high = asked;
    filled = all_from_has (IsFilledBefore v widths i 1) (map (seed (length v.keys) i) ts) (λ p h.
        let a = has_before (seed (length v.keys) i) p ts h in
        subst (λ z. IsFilledBefore v widths i 1 z) (sym a.2) (record {
          parts = seed_width (length v.keys) i a.0;
          filled = λ j below. seed_filled v i lt a.0 j;
          tuples = λ j u e. let b = seed_tuples v i lt a.0 u j e in subst (λ z. length u ≡ get_or widths z 0) (sym b.0) (subst (λ z. length z ≡ get_or widths i 0) b.1 (wide a.0 a.1));
        }));
    differ = seeds_differ v i lt ts rising;
  }

  given_each : (number i : ℕ) (ts : List Codes) (m : ManagerState) → i < length v.keys → IsKeyed (part_key v i) ts → ((t : Codes) → Has t ts → length t ≡ get_or widths i 0) → Each m.queries → Each (with_given v columns m number i ts).queries
  given_each number i [] m lt rising wide h = h
  given_each number i (t ∷ ts) m lt rising wide h = go (asked_sources v i) refl
    where
      go : (l : List ℕ) → asked_sources v i ≡ l → Each (put_or_asked l (with_put v columns m number i (t ∷ ts)) (with_query v m number i (t ∷ ts))).queries
      go [] e = h
      go (x ∷ l) e = λ q k. elim (mid_cases q (new_query v number i (t ∷ ts)) m.queries [] k) [
        | inl same ↦ subst (λ z. CanAsk v widths z) (sym same) (new_can number i (t ∷ ts) lt (let w = ap length e in omega arith) rising wide)
        | inr g ↦ h q (subst (λ z. Has q z) (append-nil m.queries) g)
      ]

  all_given_each : (number : ℕ) (given : ℕ → List Codes) (parts : List ℕ) (m : ManagerState) → ((i : ℕ) → Has i parts → i < length v.keys) → ((i : ℕ) → i < length v.keys → IsKeyed (part_key v i) (given i))
      → ((i : ℕ) (t : Codes) → i < length v.keys → Has t (given i) → length t ≡ get_or widths i 0) → Each m.queries → Each (with_all_given v columns m number given parts).queries
  all_given_each number given [] m below rising wide h = h
  all_given_each number given (i ∷ parts) m below rising wide h =
      let lt = below i (has_first i parts) in
      all_given_each number given parts _ (λ j k. below j (has_later j i parts k)) rising wide (given_each number i (given i) m lt (rising i lt) (λ t k. wide i t lt k) h)

  given_wide : (t : Updates) → HaveWidths v widths t → (i : ℕ) (u : Codes) → i < length v.keys → Has u (given_at v t i) → length u ≡ get_or widths i 0
  given_wide t wide i u lt h =
      let a = has_passed (meets_part v.base i) u (inserted (relation_at v i) (part_key v i) t) h in
      let last = ((inserted_last (relation_at v i) (part_key v i) t).1 u).0 a.0 in
      let there = last_there (relation_at v i) (part_key v i) (at_columns (part_key v i) u) t (Insert (relation_at v i) u) last in
      all_has (HasWidth v widths) t wide (Insert (relation_at v i) u) there i lt refl

  -- ---- a reply

  module _ (m : ManagerState) (transaction origin step : ℕ) (partials : List Partial) (d : AreDistinct (map name_of m.queries)) (f : Fits v widths m transaction origin step partials) (h : Each m.queries) where
    -- the query that is open is the one with the name
    at_step : (x : Query) → Has x m.queries → is_named transaction origin x ≡ true → (x.origin ≡ origin) × (x.step ≡ step)
    at_step x k n =
        let a = has_from_any (λ q. is_named transaction origin q && (q.step == step)) m.queries f.open_query in
        let b = and_parts (is_named transaction origin a.0) (a.0.step == step) a.2 in
        let is : x ≡ a.0 = named_once m.queries x a.0 d k a.1 (name_is transaction origin x n ∙ sym (name_is transaction origin a.0 b.0)) in
        (ap (λ z. z.1) (name_is transaction origin x n), ap (λ (z : Query). z.step) is ∙ eqb-true a.0.step step b.1)

    replied_each : (before after : List Query) (x : Query) → m.queries ≡ before ++ x ∷ after → is_named transaction origin x ≡ true → Each (with_reply_to v columns m before x partials after).queries
    replied_each before after x e n = go (has_next v x) refl
      where
        there : Has x m.queries
        there = subst (λ l. Has x l) (sym e) (mid_has x before after)

        rest : (q : Query) → Has q (before ++ after) → Has q m.queries
        rest q k = subst (λ l. Has q l) (sym e) (mid_rest q x before after k)

        moved : x.step < length (asked_sources v x.origin) → CanAsk v widths (moved_on x partials)
        moved lt =
            let c = h x there in
            let a = at_step x there n in
            record {
              origin = c.origin;
              low = omega arith;
              high = omega arith;
              filled = subst (λ z. AllByRecursion (IsFilledBefore v widths z (x.step + 1)) partials) (sym a.0) (subst (λ z. AllByRecursion (IsFilledBefore v widths origin (z + 1)) partials) (sym a.1) f.filled);
              differ = f.differ;
            }

        go : (b : Bool) → has_next v x ≡ b → Each (cond b (with_step m before x partials after) (with_answer v columns m before x partials after)).queries
        go true k = λ q g. elim (mid_cases q (moved_on x partials) before after g) [
          | inl same ↦ subst (λ z. CanAsk v widths z) (sym same) (moved (ltb-true x.step (length (asked_sources v x.origin)) k))
          | inr w ↦ h q (rest q w)
        ]
        go false k = λ q g. h q (rest q g)

    behind_each : (queries before : List Query) → m.queries ≡ before ++ queries → Each (with_reply_behind v columns m before queries transaction origin partials).queries
    behind_each [] before e = h
    behind_each (x ∷ queries) before e = go (behind_each queries (before ++ x ∷ []) (e ∙ sym (append_assoc before (x ∷ []) queries))) (is_named transaction origin x) refl
      where
        go : Each (with_reply_behind v columns m (before ++ x ∷ []) queries transaction origin partials).queries → (b : Bool) → is_named transaction origin x ≡ b
            → Each (cond b (with_reply_to v columns m before x partials queries) (with_reply_behind v columns m (before ++ x ∷ []) queries transaction origin partials)).queries
        go ih true n = replied_each before queries x e n
        go ih false n = ih

pub transaction_asks : TransactionAsks
transaction_asks v columns widths m number t wide h =
    all_from_has (CanAsk v widths) _ (all_given_each v columns widths number (given_at v t) (places_from 0 (length v.keys)) (with_deletions (record m { last = number }) (taken v t)) (below_is (length v.keys))
    (λ i lt. keyed_filter (part_key v i) (meets_part v.base i) (inserted (relation_at v i) (part_key v i) t) (inserted_last (relation_at v i) (part_key v i) t).0)
    (given_wide v columns widths t wide)
    (deleted_each v columns widths (taken v t) (record m { last = number }) (all_has (CanAsk v widths) m.queries h)))

pub reply_asks : ReplyAsks
reply_asks v columns widths m transaction origin step partials d f h = all_from_has (CanAsk v widths) _ (behind_each v columns widths m transaction origin step partials d f (all_has (CanAsk v widths) m.queries h) m.queries [] refl)

-- ---- the first query with the name

pub to_first : ReplyToFirst
to_first v columns m transaction origin partials before after q e none named =
    ap (λ l. with_reply_behind v columns m [] l transaction origin partials) e ∙ walk before [] none
  where
    walk : (rest seen : List Query) → ((r : Query) → Has r rest → is_named transaction origin r ≡ false)
        → with_reply_behind v columns m seen (rest ++ q ∷ after) transaction origin partials ≡ with_reply_to v columns m (seen ++ rest) q partials after
    walk [] seen none =
        ap (λ b. cond b (with_reply_to v columns m seen q partials after) (with_reply_behind v columns m (seen ++ q ∷ []) after transaction origin partials)) named ∙ ap (λ l. with_reply_to v columns m l q partials after) (sym (append-nil seen))
    walk (x ∷ rest) seen none =
        ap (λ b. cond b (with_reply_to v columns m seen x partials (rest ++ q ∷ after)) (with_reply_behind v columns m (seen ++ x ∷ []) (rest ++ q ∷ after) transaction origin partials)) (none x (has_first x rest))
        ∙ walk rest (seen ++ x ∷ []) (λ r k. none r (has_later r x rest k))
        ∙ ap (λ l. with_reply_to v columns m l q partials after) (append_assoc seen (x ∷ []) rest)
