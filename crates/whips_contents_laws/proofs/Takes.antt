-- A manager that takes a message keeps the contents.
--
-- `take_kept`, `hear_kept`: the contents fit after a manager has taken the transaction, or the reply, that comes first in its queue.
--
-- The idea: of a query one ask, answer or reply is on its way at most. So where a reply stands first nothing else of its query is on its way, and each query that something else names goes on under its name, at its step and with its partial choices (`GoesOn`). What the manager asks now comes from its open queries, once for each.
--
-- Three lemmas carry it: `manager_takes` and `manager_hears` (the manager itself), and `asked_from` (what stands among a source's asks afterwards).
use Rattle.std.proofs.Common.{◌≡◌, inl, inr, ℕ, ◌+◌, ◌<◌, ◌≤◌, ◌==◌, ◌&&◌, Bool, true, false, cond, List, [], length, map, Some, slice_get, refl, sym, ap, ap₂, subst, ◌∙◌, arith, eq-eqb, eqb-true}
use Rattle.std.proofs.lemmas.Bool.{and_from, eqb-false}
use Rattle.whips_lists.proofs.ByPlace.{get_changed, get_changed_other, get_cases}
use Rattle.whips_lists.proofs.Lists.{front_is, length_changed}
use Rattle.whips_lists.proofs.Options.{some_same}
use Rattle.whips_lists.proofs.Members.{has_right, has_before}
use Rattle.whips_lists.specs.Lists.{changed_at, sum_with_place, total, front, without_front, places_from}
use Rattle.whips_lists.specs.Members.{Has}
use Rattle.whips_flow.specs.State.{NumberedTransaction, count_of_source}
use Rattle.whips_model.specs.Relation.{Table}
use Rattle.whips_states.specs.States.{Updates}
use Rattle.whips_states.specs.Net.{taken}
use Rattle.whips_view.specs.ViewDefs.{keyed, row_columns}
use Rattle.whips_steps.specs.Steps.{source_of_step, step_parts}
use Rattle.whips_steps.specs.Answers.{step_answer}
use Rattle.whips_facts.specs.Scripts.{Script}
use Rattle.whips_managers.specs.Managers.{Query}
use Rattle.whips_managers.specs.Messages.{ask_of}
use Rattle.whips_query.specs.declared.asks.Ask.{Ask}
use Rattle.whips_query.specs.declared.asks.Reply.{Reply}
use Rattle.whips_order.specs.declared.message.Message.TheVariants.{Reply as SentReply}
use Rattle.whips_manager_trans_laws.specs.Laws.{AreRelationsOf}
use Rattle.whips_strobe.specs.Outs.{sent_by, all_sent_by}
use Rattle.whips_ask_laws.specs.Begun.{begun, with_all_pending, IsAfter}
use Rattle.whips_ask_laws.proofs.After.{after_transaction}
use Rattle.whips_contents.specs.Contents.{ManagerInput, numbered_transaction, reply_to_ask, LoadedSource, LoadedManager, LoadedPipeline}
use Rattle.whips_contents.specs.Events.{state_after_input, asks_after_input, manager_after_input, all_asked, after_input}
use Rattle.whips_stage_laws.specs.Fits.{FitsSetup, FitsWork, AnswersOn, IsAnswerOf, IsAskFor, MessagesFit, SourceFits, Older, ManagerFits, has_name, asks_named, messages_named, inputs_named, source_named, manager_named, in_flight, FitsContents}
use Rattle.whips_stage_laws.proofs.Standing.{stays_after_transaction, stays_after_reply, other_name, last_after_reply, manager_takes, manager_hears}
use Rattle.whips_stage_laws.proofs.Flights.{total_has, sum_has, sum_changed, get_is, eqb-no, all_asked_grow, asked_from, begun_once, begun_other, next_once, next_open}
use Rattle.whips_contents_laws.proofs.Follows.{total_front, sum_lessens, total_behind, source_map}

-- an open query that goes on under its name, at its step and with its partial choices
pub record GoesOn (queries : List Query) (q : Query) : Type 0 where
  pub query : Query
  pub there : Has query queries
  pub transaction_is : q.transaction ≡ query.transaction
  pub origin_is : q.origin ≡ query.origin
  pub step_is : q.step ≡ query.step
  pub partials_are : q.partials ≡ query.partials

module _ (s : Script) (older : ℕ → Older) (l : LoadedPipeline) (h : FitsContents s older l) (x0 : ℕ) (m : LoadedManager) (at : slice_get l.managers x0 ≡ Some m) (i : ManagerInput) (first : front m.messages ≡ Some i) where
  abbrev managers_after : List LoadedManager
  managers_after = changed_at x0 (manager_after_input i) l.managers

  abbrev sents : List (ℕ × Ask)
  sents = all_sent_by m.manager.number (asks_after_input m.manager i)

  abbrev sources_after : List LoadedSource
  sources_after = all_asked x0 l.sources sents

  there_after : slice_get managers_after x0 ≡ Some (manager_after_input i m)
  there_after = get_changed (manager_after_input i) x0 l.managers m at

  -- what is on its way of the view's own queries: the message has gone, and the asks have come
  own_flights : (name : ℕ × ℕ) → in_flight x0 name (record l { sources = sources_after; managers = managers_after }) + inputs_named name i ≤ in_flight x0 name l + total (λ (e : ℕ × Ask). asks_named name e.1) sents
  own_flights name =
      let grow = all_asked_grow x0 name x0 sents l.sources in
      let yes = ap {B = ℕ} (λ b. cond b (total (λ (e : ℕ × Ask). asks_named name e.1) sents) 0) (eq-eqb x0 x0 refl) in
      let change = sum_changed (manager_named x0 name) (manager_after_input i) 0 x0 l.managers m at in
      let place : 0 + x0 ≡ x0 = omega arith in
      let here : (0 + x0 == x0) ≡ true = eq-eqb (0 + x0) x0 place in
      let before = ap {B = ℕ} (λ b. cond b (total (inputs_named name) m.messages) 0) here in
      let after = ap {B = ℕ} (λ b. cond b (total (inputs_named name) (without_front m.messages)) 0) here in
      omega (arith, grow, yes, change, before, after, total_front (inputs_named name) m.messages i first)

  -- of the queries of other views no more is on its way than before
  other_flights : (x : ℕ) (name : ℕ × ℕ) → (x0 ≡ x → ⊥) → in_flight x name (record l { sources = sources_after; managers = managers_after }) ≤ in_flight x name l
  other_flights x name ne =
      let grow = all_asked_grow x name x0 sents l.sources in
      let no = ap {B = ℕ} (λ b. cond b (total (λ (e : ℕ × Ask). asks_named name e.1) sents) 0) (eqb-no x0 x ne) in
      let less = sum_lessens (manager_named x name) (manager_after_input i) 0 x0 l.managers (λ n w e. elim (n == x) as (λ b. cond b (total (inputs_named name) (without_front w.messages)) 0 ≤ cond b (total (inputs_named name) w.messages) 0) [ true ↦ total_behind (inputs_named name) w.messages | false ↦ omega arith ]) in
      omega (arith, grow, no, less)

  module _ (stands : ManagerFits s (older x0) l.numbering x0 (manager_after_input i m)) (Q : ℕ → ℕ → Type 0)
      (goes_on : (q : Query) → Has q m.manager.state.queries → Q q.transaction q.origin → GoesOn (state_after_input m.manager i).queries q)
      (messages_apart : (y : ℕ) (z : LoadedSource) (r : Reply) → slice_get l.sources y ≡ Some z → Has (SentReply r) z.messages → r.view ≡ x0 → Q r.update r.origin)
      (asks_apart : (y : ℕ) (z : LoadedSource) (qs : List Ask) (a : Ask) → slice_get l.sources y ≡ Some z → slice_get z.asks x0 ≡ Some qs → Has a qs → Q a.update a.origin)
      (new : (y : ℕ) (a : Ask) → Has (y, a) sents → (p : Query) × Has p (state_after_input m.manager i).queries × (sent_by m.manager.number (ask_of (keyed m.manager.view) p) ≡ (y, a)))
      (few : (name : ℕ × ℕ) → in_flight x0 name (record l { sources = sources_after; managers = managers_after }) ≤ 1)
      (none : (name : ℕ × ℕ) → (state_after_input m.manager i).last < name.0 → in_flight x0 name (record l { sources = sources_after; managers = managers_after }) ≡ 0) where
    manager_at : (k : LoadedManager) (x : ℕ) → slice_get l.managers x ≡ Some k → x ≡ x0 → k ≡ m
    manager_at k x e same = some_same k m (sym (subst (λ n. slice_get l.managers n ≡ Some k) same e) ∙ at)

    answer_stays : (y : ℕ) (z : LoadedSource) → slice_get l.sources y ≡ Some z → (db : List Table) (r : Reply) → Has (SentReply r) z.messages → IsAnswerOf l.managers y db r → IsAnswerOf managers_after y db r
    answer_stays y z zat db r inside a = go (r.view == x0) refl
      where
        here : (k : LoadedManager) → k ≡ m → r.view ≡ x0 → AnswersOn (keyed k.manager.view) k.manager.state db r → source_of_step (keyed k.manager.view) r.origin r.step ≡ y → IsAnswerOf managers_after y db r
        here k is same b asked = let c = subst (λ (k : LoadedManager). AnswersOn (keyed k.manager.view) k.manager.state db r) is b in found c
          where
            found : AnswersOn (keyed m.manager.view) m.manager.state db r → IsAnswerOf managers_after y db r
            found c =
                let q = messages_apart y z r zat inside same in
                let g = goes_on c.query c.open_query (subst (λ n. Q n c.query.origin) (sym c.transaction_is) (subst (Q r.update) (sym c.origin_is) q)) in
                record {
                  manager = manager_after_input i m;
                  there = subst (λ n. slice_get managers_after n ≡ Some (manager_after_input i m)) (sym same) there_after;
                  answers = record {
                    query = g.query;
                    open_query = g.there;
                    transaction_is = sym g.transaction_is ∙ c.transaction_is;
                    origin_is = sym g.origin_is ∙ c.origin_is;
                    step_is = sym g.step_is ∙ c.step_is;
                    answer = c.answer ∙ (ap₂ (λ o n. step_answer m.manager.view.parts db (step_parts (keyed m.manager.view) o n) c.query.partials) g.origin_is g.step_is ∙ ap (step_answer m.manager.view.parts db (step_parts (keyed m.manager.view) g.query.origin g.query.step)) g.partials_are);
                  };
                  asked = subst (λ (k : LoadedManager). source_of_step (keyed k.manager.view) r.origin r.step ≡ y) is asked;
                }

        go : (b : Bool) → (r.view == x0) ≡ b → IsAnswerOf managers_after y db r
        go true e = let same = eqb-true r.view x0 e in here a.manager (manager_at a.manager r.view a.there same) same a.answers a.asked
        go false e = record { manager = a.manager; there = get_changed_other (manager_after_input i) x0 r.view l.managers (eqb-false r.view x0 e) ∙ a.there; answers = a.answers; asked = a.asked }

    ask_stays : (y x : ℕ) (z : LoadedSource) (qs : List Ask) (a : Ask) → slice_get l.sources y ≡ Some z → slice_get z.asks x ≡ Some qs → Has a qs → IsAskFor l.managers y x a → IsAskFor managers_after y x a
    ask_stays y x z qs a zat qat inside k = go (x == x0) refl
      where
        here : (w : LoadedManager) → w ≡ m → x ≡ x0 → (q : Query) → Has q w.manager.state.queries → sent_by x (ask_of (keyed w.manager.view) q) ≡ (y, a) → IsAskFor managers_after y x a
        here w is same q there sent = found (subst (λ (w : LoadedManager). Has q w.manager.state.queries) is there) (subst (λ (w : LoadedManager). sent_by x (ask_of (keyed w.manager.view) q) ≡ (y, a)) is sent)
          where
            found : Has q m.manager.state.queries → sent_by x (ask_of (keyed m.manager.view) q) ≡ (y, a) → IsAskFor managers_after y x a
            found o t =
                let update_is : a.update ≡ q.transaction = sym (ap (λ p. p.1.update) t) in
                let origin_is : a.origin ≡ q.origin = sym (ap (λ p. p.1.origin) t) in
                let apart = asks_apart y z qs a zat (subst (λ n. slice_get z.asks n ≡ Some qs) same qat) inside in
                let g = goes_on q o (subst (λ n. Q n q.origin) update_is (subst (Q a.update) origin_is apart)) in
                record {
                  manager = manager_after_input i m;
                  there = subst (λ n. slice_get managers_after n ≡ Some (manager_after_input i m)) (sym same) there_after;
                  query = g.query;
                  open_query = g.there;
                  sent = asks_same q g.query g.transaction_is g.origin_is g.step_is g.partials_are ∙ t;
                }
              where
                asks_same : (q p : Query) → q.transaction ≡ p.transaction → q.origin ≡ p.origin → q.step ≡ p.step → q.partials ≡ p.partials → sent_by x (ask_of (keyed m.manager.view) p) ≡ sent_by x (ask_of (keyed m.manager.view) q)
                asks_same q p e f g d =
                    ap₂ (λ t ps. (source_of_step (keyed m.manager.view) p.origin p.step, record { view = x; update = t; origin = p.origin; step = p.step; partials = ps })) (sym e) (sym d)
                    ∙ ap₂ (λ o n. (source_of_step (keyed m.manager.view) o n, record { view = x; update = q.transaction; origin = o; step = n; partials = q.partials })) (sym f) (sym g)

        go : (b : Bool) → (x == x0) ≡ b → IsAskFor managers_after y x a
        go true e = let same = eqb-true x x0 e in here k.manager (manager_at k.manager x k.there same) same k.query k.open_query k.sent
        go false e = record { manager = k.manager; there = get_changed_other (manager_after_input i) x0 x l.managers (eqb-false x x0 e) ∙ k.there; query = k.query; open_query = k.open_query; sent = k.sent }

    number_is : m.manager.number ≡ x0
    number_is = (h.managers x0 m at).number

    input_kept : FitsContents s older (after_input x0 m (Some i) l)
    input_kept = record {
      managers_long = length_changed (manager_after_input i) x0 l.managers ∙ h.managers_long;
      valid = h.valid;
      sources = λ y z e.
          let f = asked_from x0 sents l.sources y z e in
          let g = source_map s (IsAnswerOf l.managers y) (IsAnswerOf managers_after y) l.numbering y f.0 (λ db r inside a. answer_stays y f.0 f.1 db r inside a) (h.sources y f.0 f.1) in
          moved y z f.0 f.2 f.3 g;
      asks = λ y x z qs a e qat inside.
          let f = asked_from x0 sents l.sources y z e in
          elim (f.4 x qs a qat inside) [
            | inl (before, there, was) ↦ ask_stays y x f.0 before a f.1 there was (h.asks y x f.0 before a f.1 there was)
            | inr (same, sent) ↦ let p = new y a sent in subst (λ n. IsAskFor managers_after y n a) (sym same) (record {
              manager = manager_after_input i m;
              there = there_after;
              query = p.0;
              open_query = p.1;
              sent = ap (λ n. sent_by n (ask_of (keyed m.manager.view) p.0)) (sym number_is) ∙ p.2;
            })
          ];
      managers = λ x w e. elim (get_cases (manager_after_input i) x0 x l.managers w e) [
        | inl (same, (k, is, made)) ↦ subst (λ n. ManagerFits s (older n) l.numbering n w) (sym same) (subst (λ w. ManagerFits s (older x0) l.numbering x0 w) (ap (manager_after_input i) (some_same m k (sym at ∙ is)) ∙ made) stands)
        | inr other ↦ h.managers x w other.1
      ];
      once = λ x name. elim (x0 == x) as (λ b. (x0 == x) ≡ b → in_flight x name (record l { sources = sources_after; managers = managers_after }) ≤ 1) [
        | true ↦ λ e. subst (λ n. in_flight n name (record l { sources = sources_after; managers = managers_after }) ≤ 1) (eqb-true x0 x e) (few name)
        | false ↦ λ e. omega (arith, other_flights x name (eqb-false x0 x e), h.once x name)
      ] refl;
      unnamed = λ x w name e lt. elim (get_cases (manager_after_input i) x0 x l.managers w e) [
        | inl (same, (k, is, made)) ↦
            let whole : (manager_after_input i m) ≡ w = ap (manager_after_input i) (some_same m k (sym at ∙ is)) ∙ made in
            subst (λ n. in_flight n name (record l { sources = sources_after; managers = managers_after }) ≡ 0) (sym same) (none name (let z = ap (λ (w : LoadedManager). w.manager.state.last) whole in omega (arith, z, lt)))
        | inr other ↦ omega (arith, other_flights x name (λ e. other.0 (sym e)), h.unnamed x w name other.1 lt)
      ];
    }
      where
        moved : (y : ℕ) (z old : LoadedSource) → z.site ≡ old.site → z.messages ≡ old.messages → SourceFits s (IsAnswerOf managers_after y) l.numbering y old → SourceFits s (IsAnswerOf managers_after y) l.numbering y z
        moved y z old site messages g = record {
          relations = g.relations;
          agree = g.agree;
          messages = subst (λ ms. MessagesFit s (IsAnswerOf managers_after y) y (count_of_source l.numbering y) g.relations ms z.site) (sym messages) (subst (λ t. MessagesFit s (IsAnswerOf managers_after y) y (count_of_source l.numbering y) g.relations old.messages t) (sym site) g.messages);
        }

module _ (s : Script) (older : ℕ → Older) (fw : FitsWork s) (l : LoadedPipeline) (h : FitsContents s older l) (x0 : ℕ) (m : LoadedManager) (at : slice_get l.managers x0 ≡ Some m) where
  fits : FitsSetup s.setup (keyed m.manager.view)
  fits = fw.views x0 m.manager.view (h.managers x0 m at).view

  relations : AreRelationsOf (keyed m.manager.view) s.setup.initial
  relations = fits.relations

  pub take_kept : (k : NumberedTransaction) (t : Updates) → front m.messages ≡ Some (numbered_transaction k t) → m.manager.state.last < k.number → FitsContents s older (after_input x0 m (Some (numbered_transaction k t)) l)
  take_kept k t first later =
      input_kept s older l h x0 m at (numbered_transaction k t) first
      (manager_takes s (older x0) l.numbering x0 m (h.managers x0 m at) fits relations h.valid k t (without_front m.messages) (front_is m.messages (numbered_transaction k t) first))
      (λ a b. Unit {0})
      (λ q there u. record { query = with_all_pending (taken (keyed m.manager.view) t) q; there = stays_after_transaction (keyed m.manager.view) (row_columns m.manager.view) m.manager.state k.number t q there; transaction_is = refl; origin_is = refl; step_is = refl; partials_are = refl })
      (λ y z r a b c. tt) (λ y z qs a b c d. tt)
      (λ y a sent.
      let e = has_before (sent_by m.manager.number) (y, a) (asks_after_input m.manager (numbered_transaction k t)) sent in
      let f = has_before (ask_of (keyed m.manager.view)) e.0 (begun (keyed m.manager.view) k.number t (places_from 0 (length (keyed m.manager.view).keys))) (subst (λ l. Has e.0 l) law.asks e.1) in
      (f.0, subst (λ l. Has f.0 l) (sym law.queries) (has_right f.0 (map (with_all_pending (taken (keyed m.manager.view) t)) m.manager.state.queries) (begun (keyed m.manager.view) k.number t (places_from 0 (length (keyed m.manager.view).keys))) f.1), ap (sent_by m.manager.number) (sym f.2) ∙ sym e.2))
      (λ name. go name (k.number == name.0) refl)
      (λ name lt.
      let own = own_flights s older l h x0 m at (numbered_transaction k t) first name in
      let z = h.unnamed x0 m name at (omega (arith, later, lt, law.last)) in
      let c = sent_none name (λ e. omega (arith, e, lt, law.last)) in
      omega (arith, own, z, c))
    where
      law : IsAfter (keyed m.manager.view) (row_columns m.manager.view) m.manager.state k.number t (state_after_input m.manager (numbered_transaction k t))
      law = after_transaction (keyed m.manager.view) (row_columns m.manager.view) m.manager.state k.number t

      sent_few : (name : ℕ × ℕ) → total (λ (e : ℕ × Ask). asks_named name e.1) (all_sent_by m.manager.number (asks_after_input m.manager (numbered_transaction k t))) ≤ 1
      sent_few name = subst (λ as1. total (λ (e : ℕ × Ask). asks_named name e.1) (all_sent_by m.manager.number as1) ≤ 1) (sym law.asks) (begun_once (keyed m.manager.view) name m.manager.number k.number (length (keyed m.manager.view).keys) t)

      sent_none : (name : ℕ × ℕ) → (k.number ≡ name.0 → ⊥) → total (λ (e : ℕ × Ask). asks_named name e.1) (all_sent_by m.manager.number (asks_after_input m.manager (numbered_transaction k t))) ≡ 0
      sent_none name ne = ap (λ as1. total (λ (e : ℕ × Ask). asks_named name e.1) (all_sent_by m.manager.number as1)) law.asks ∙ begun_other (keyed m.manager.view) name m.manager.number k.number (length (keyed m.manager.view).keys) t ne

      go : (name : ℕ × ℕ) (b : Bool) → (k.number == name.0) ≡ b → in_flight x0 name (after_input x0 m (Some (numbered_transaction k t)) l) ≤ 1
      go name true e =
          let is = eqb-true k.number name.0 e in
          omega (arith, own_flights s older l h x0 m at (numbered_transaction k t) first name, sent_few name, h.unnamed x0 m name at (omega (arith, is, later)))
      go name false e = omega (arith, own_flights s older l h x0 m at (numbered_transaction k t) first name, sent_none name (eqb-false k.number name.0 e), h.once x0 name)

  -- nothing else of a query is on its way where its reply stands first
  pub hear_kept : (r : Reply) → front m.messages ≡ Some (reply_to_ask r) → FitsContents s older (after_input x0 m (Some (reply_to_ask r)) l)
  hear_kept r first =
      input_kept s older l h x0 m at (reply_to_ask r) first
      (manager_hears s (older x0) l.numbering x0 m (h.managers x0 m at) fits relations h.valid r (without_front m.messages) (front_is m.messages (reply_to_ask r) first) (λ q inside same.
      let one = total_has (inputs_named (r.update, r.origin)) (reply_to_ask q) (without_front m.messages) inside in
      let two = mine in let three = named q.update q.origin (sym same.0) (sym same.1) in omega (arith, one, two, three)))
      (λ a b. (a ≡ r.update) × (b ≡ r.origin) → ⊥)
      (λ q there apart. record { query = q; there = stays_after_reply (keyed m.manager.view) (row_columns m.manager.view) m.manager.state r.update r.origin r.partials q (other_name r q apart) there; transaction_is = refl; origin_is = refl; step_is = refl; partials_are = refl })
      (λ y z q zat inside view same.
      let one = total_has (messages_named x0 (r.update, r.origin)) (SentReply q) z.messages inside in
      let two = sum_has (source_named x0 (r.update, r.origin)) 0 y l.sources z zat in
      let three = ap {B = ℕ} (λ b. cond (b && has_name (r.update, r.origin) q.update q.origin) 1 0) (eq-eqb q.view x0 view) in
      let four = named q.update q.origin same.0 same.1 in let five = mine in omega (arith, one, two, three, four, five))
      (λ y z qs a zat qat inside same.
      let one = total_has (asks_named (r.update, r.origin)) a qs inside in
      let two = sum_has (source_named x0 (r.update, r.origin)) 0 y l.sources z zat in
      let three = ap (total (asks_named (r.update, r.origin))) (get_is z.asks x0 qs [] qat) in
      let four = named a.update a.origin same.0 same.1 in let five = mine in omega (arith, one, two, three, four, five))
      (λ y a sent.
      let e = has_before (sent_by m.manager.number) (y, a) (asks_after_input m.manager (reply_to_ask r)) sent in
      let f = next_open (keyed m.manager.view) (row_columns m.manager.view) m.manager.state r.update r.origin r.partials m.manager.state.queries [] e.0 e.1 in
      (f.0, f.1, ap (sent_by m.manager.number) (sym f.2) ∙ sym e.2))
      (λ name. omega (arith, own_flights s older l h x0 m at (reply_to_ask r) first name, next_once (keyed m.manager.view) name m.manager.number m.manager.state.queries r.update r.origin r.partials, h.once x0 name))
      (λ name lt. omega (arith, own_flights s older l h x0 m at (reply_to_ask r) first name, next_once (keyed m.manager.view) name m.manager.number m.manager.state.queries r.update r.origin r.partials, h.unnamed x0 m name at (omega (arith, lt, last_after_reply (keyed m.manager.view) (row_columns m.manager.view) m.manager.state r.update r.origin r.partials))))
    where
      named : (a b : ℕ) → a ≡ r.update → b ≡ r.origin → ◌≡◌ {A = ℕ} (cond (has_name (r.update, r.origin) a b) 1 0) 1
      named a b e f = ap {B = ℕ} (λ c. cond c 1 0) (and_from (a == r.update) (b == r.origin) (eq-eqb a r.update e) (eq-eqb b r.origin f))

      -- the reply is the one that may be on its way
      mine : sum_with_place (source_named x0 (r.update, r.origin)) 0 l.sources + total (inputs_named (r.update, r.origin)) (without_front m.messages) ≡ 0
      mine =
          let place : (0 + x0 == x0) ≡ true = eq-eqb (0 + x0) x0 (omega arith) in
          let here = ap {B = ℕ} (λ b. cond b (total (inputs_named (r.update, r.origin)) m.messages) 0) place in
          let has = sum_has (manager_named x0 (r.update, r.origin)) 0 x0 l.managers m at in
          let fst1 = total_front (inputs_named (r.update, r.origin)) m.messages (reply_to_ask r) first in
          omega (arith, here, has, fst1, named r.update r.origin refl refl, h.once x0 (r.update, r.origin))
