-- Commits, answers and the integrator keep the contents.
--
-- `commit_kept`, `answer_kept`, `integrate_kept`: after each of these events the contents fit (`FitsContents`) where they did before.
--
-- The idea: a source that commits or answers changes only itself, behind all that it sent before. The integrator takes the oldest message of a source, and so a transaction has the next place of its source and a reply is true of the relations after what is numbered. Managers whose queues alone grow leave each answer and each ask as good as it was.
--
-- Four lemmas carry it: `source_kept` (one source changes and asks no more than before), `answers_follow` and `asks_follow` (managers of which only the queues change), `update_kept` and `reply_kept` (the two kinds of messages).
use Rattle.std.proofs.Common.{◌≡◌, inl, inr, ℕ, zero, suc, ◌+◌, ◌<◌, ◌≤◌, ◌==◌, ◌&&◌, Bool, true, false, cond, List, [], ◌∷◌, ◌++◌, length, map, take, Option, Some, None, slice_get, refl, sym, ap, ap₂, subst, ◌∙◌, arith, eqb-true}
use Rattle.std.specs.Prelude.{slice_index_or, filter, nat_lt}
use Rattle.std.specs.Option.{option_map}
use Rattle.std.proofs.lemmas.Bool.{eqb-false, ltb-true}
use Rattle.whips_lists.proofs.ByPlace.{get_map_at, get_mapped_at, get_changed, get_changed_other, get_cases, get_within}
use Rattle.whips_lists.proofs.Lists.{front_is, length_map_at, length_changed}
use Rattle.whips_lists.proofs.Options.{some_same, of_some_is}
use Rattle.whips_lists.proofs.Members.{has_first, has_later}
use Rattle.whips_lists.specs.Lists.{changed_at, map_with_place, places_from, sum_with_place, total, front, without_front}
use Rattle.whips_lists.specs.Members.{Has}
use Rattle.whips_flow.specs.State.{NumberedTransaction}
use Rattle.whips_flow.specs.declared.event.Event.TheVariants.{Commit, Answer, Integrate}
use Rattle.whips_model.specs.Relation.{Table}
use Rattle.whips_states.specs.States.{Updates, AreValid, AreAllValid}
use Rattle.whips_states.specs.Concerns.{concerns}
use Rattle.whips_view.specs.ViewDefs.{View, keyed}
use Rattle.whips_steps.specs.Steps.{source_of_step}
use Rattle.whips_facts.specs.Scripts.{Script}
use Rattle.whips_managers.specs.Messages.{ask_of}
use Rattle.whips_query.specs.declared.asks.Ask.{Ask}
use Rattle.whips_query.specs.declared.asks.Reply.{Reply}
use Rattle.whips_order.specs.Numbering.{next_of, is_concerned, concerned_views}
use Rattle.whips_order.specs.declared.message.Message.{Message}
use Rattle.whips_order.specs.declared.message.Message.TheVariants.{Update, Reply as SentReply}
use Rattle.whips_source.specs.Sites.{reply_on, reply_of}
use Rattle.whips_strobe.specs.Outs.{sent_by}
use Rattle.whips_contents.specs.Contents.{numbered_transaction, reply_to_ask, LoadedSource, LoadedManager, LoadedPipeline}
use Rattle.whips_contents.specs.Events.{source_after_commit, source_after_answer, source_after_oldest_ask, oldest_ask_to, sent_reply, without_oldest_message, with_input, all_with_input, announced, after_integrate, oldest_message, has_transaction_left, is_enabled_loaded, next_loaded}
use Rattle.whips_contents.proofs.Changes.{map_push, changes_are, all_changed}
use Rattle.whips_stage_laws.specs.Fits.{content, relations_after, IsOwn, FitsWork, AnswersOn, IsAnswerOf, IsAskFor, SourceFits, Older, ManagerFits, has_name, asks_named, messages_named, inputs_named, source_named, manager_named, in_flight, FitsContents}
use Rattle.whips_stage_laws.proofs.Agree.{answer_alike, valid_push}
use Rattle.whips_stage_laws.proofs.Sources.{fit_map, commit_fits, answer_fits, numbered_fits, others_fit, handed_on_fits}
use Rattle.whips_stage_laws.proofs.Standing.{manager_missed, manager_sent, manager_replied}
use Rattle.whips_stage_laws.proofs.Flights.{total_append, sum_changed, sum_mapped, get_is, or_here, or_other}

pub has_behind : {A : Type 0} (x : A) (xs : List A) → Has x (without_front xs) → Has x xs
has_behind x [] h = h
has_behind x (y ∷ xs) h = has_later x y xs h

pub total_behind : {A : Type 0} (w : A → ℕ) (xs : List A) → total w (without_front xs) ≤ total w xs
total_behind w [] = omega arith
total_behind w (x ∷ xs) = omega arith

pub total_front : {A : Type 0} (w : A → ℕ) (xs : List A) (x : A) → front xs ≡ Some x → total w xs ≡ w x + total w (without_front xs)
total_front w [] x e = absurd (cc)
total_front w (y ∷ xs) x e = ap (λ z. w z + total w xs) (some_same y x e)

pub sum_lessens : {A : Type 0} (w : ℕ → A → ℕ) (g : A → A) (k i : ℕ) (xs : List A) → ((n : ℕ) (x : A) → slice_get xs i ≡ Some x → w n (g x) ≤ w n x) → sum_with_place w k (changed_at i g xs) ≤ sum_with_place w k xs
sum_lessens w g k i [] h = omega arith
sum_lessens w g k zero (x ∷ xs) h = omega (arith, h k x refl)
sum_lessens w g k (suc i) (x ∷ xs) h = omega (arith, sum_lessens w g (suc k) i xs h)

-- ---- managers of which only the queues change

abbrev pub Follow : List LoadedManager → List LoadedManager → Type 0
Follow managers others = (x : ℕ) (m : LoadedManager) → slice_get managers x ≡ Some m → (w : LoadedManager) × (slice_get others x ≡ Some w) × (m.manager ≡ w.manager)

pub answers_follow : (managers others : List LoadedManager) → Follow managers others → (y : ℕ) (db : List Table) (r : Reply) → IsAnswerOf managers y db r → IsAnswerOf others y db r
answers_follow managers others f y db r a =
    let w = f r.view a.manager a.there in
    record {
      manager = w.0;
      there = w.1;
      answers = subst (λ d. AnswersOn (keyed d.view) d.state db r) w.2 a.answers;
      asked = subst (λ d. source_of_step (keyed d.view) r.origin r.step ≡ y) w.2 a.asked;
    }

pub asks_follow : (managers others : List LoadedManager) → Follow managers others → (y x : ℕ) (a : Ask) → IsAskFor managers y x a → IsAskFor others y x a
asks_follow managers others f y x a k =
    let w = f x k.manager k.there in
    record {
      manager = w.0;
      there = w.1;
      query = k.query;
      open_query = subst (λ d. Has k.query d.state.queries) w.2 k.open_query;
      sent = subst (λ d. sent_by x (ask_of (keyed d.view) k.query) ≡ (y, a)) w.2 k.sent;
    }

pub source_map : (s : Script) (A B : List Table → Reply → Type 0) (numbering : List NumberedTransaction) (y : ℕ) (z : LoadedSource) → ((db : List Table) (r : Reply) → Has (SentReply r) z.messages → A db r → B db r) → SourceFits s A numbering y z → SourceFits s B numbering y z
source_map s A B numbering y z g h = record { relations = h.relations; agree = h.agree; messages = fit_map s y A B _ h.relations z.messages z.site g h.messages }

module _ (s : Script) (older : ℕ → Older) (fw : FitsWork s) (l : LoadedPipeline) (h : FitsContents s older l) where
  -- one source changes and asks no more than before, and the managers stay
  module _ (y : ℕ) (g : LoadedSource → LoadedSource)
      (fits : (z : LoadedSource) → slice_get l.sources y ≡ Some z → SourceFits s (IsAnswerOf l.managers y) l.numbering y (g z))
      (asks : (z : LoadedSource) → slice_get l.sources y ≡ Some z → (x : ℕ) (asks : List Ask) (a : Ask) → slice_get (g z).asks x ≡ Some asks → Has a asks → (before : List Ask) × (slice_get z.asks x ≡ Some before) × Has a before)
      (less : (x : ℕ) (name : ℕ × ℕ) (n : ℕ) (z : LoadedSource) → slice_get l.sources y ≡ Some z → source_named x name n (g z) ≤ source_named x name n z) where
    pub source_kept : FitsContents s older (record l { sources = changed_at y g l.sources })
    source_kept = record {
      managers_long = h.managers_long;
      valid = h.valid;
      sources = λ w z e. elim (get_cases g y w l.sources z e) [
        | inl (same, (old, at, made)) ↦ subst (λ n. SourceFits s (IsAnswerOf l.managers n) l.numbering n z) (sym same) (subst (λ z. SourceFits s (IsAnswerOf l.managers y) l.numbering y z) made (fits old at))
        | inr other ↦ h.sources w z other.1
      ];
      asks = λ w x z qs a e f i. elim (get_cases g y w l.sources z e) [
        | inl (same, (old, at, made)) ↦ let k = asks old at x qs a (ap (λ (z : LoadedSource). slice_get z.asks x) made ∙ f) i in subst (λ n. IsAskFor l.managers n x a) (sym same) (h.asks y x old k.0 a at k.1 k.2)
        | inr other ↦ h.asks w x z qs a other.1 f i
      ];
      managers = h.managers;
      once = λ x name. omega (arith, sum_lessens (source_named x name) g 0 y l.sources (λ n z at. less x name n z at), h.once x name);
      unnamed = λ x m name at lt. omega (arith, sum_lessens (source_named x name) g 0 y l.sources (λ n z at. less x name n z at), h.unnamed x m name at lt);
    }

  -- ---- commit

  pub left_is : (ts : List Updates) → nat_lt 0 (length ts) ≡ true → (t : Updates) × (rest : List Updates) × (ts ≡ t ∷ rest)
  left_is [] e = absurd (omega (arith, ltb-true 0 0 e))
  left_is (t ∷ ts) e = (t, ts, refl)

  none_named : (x : ℕ) (name : ℕ × ℕ) (ts : List Updates) → total (messages_named x name) (map (λ t. Update t) ts) ≡ 0
  none_named x name [] = refl
  none_named x name (t ∷ ts) = omega (arith, none_named x name ts)

  pub commit_kept : (y : ℕ) → is_enabled_loaded l (Commit y) ≡ true → FitsContents s older (next_loaded s.setup l (Commit y))
  commit_kept y enabled = source_kept y source_after_commit
      (λ z at. let k = left_is z.site.left (sym (ap has_transaction_left at) ∙ enabled) in commit_fits s y (IsAnswerOf l.managers y) l.numbering z (h.sources y z at) k.0 k.1 k.2)
      (λ z at x asks a e i. (asks, e, i))
      (λ x name n z at. omega (arith, total_append (messages_named x name) z.messages (map (λ t. Update t) (take 1 z.site.left)), none_named x name (take 1 z.site.left)))

  -- ---- answer

  reply_named : (x : ℕ) (name : ℕ × ℕ) (db : List Table) (a : Ask) (o : Option View) → total (messages_named x name) (sent_reply (option_map (reply_on db a) o)) ≤ cond (a.view == x) (asks_named name a) 0
  reply_named x name db a None = omega arith
  reply_named x name db a (Some view) = elim (a.view == x) as (λ b. cond (b && has_name name a.update a.origin) 1 0 + 0 ≤ cond b (asks_named name a) 0) [ true ↦ omega arith | false ↦ omega arith ]

  answer_less : (x0 : ℕ) (z : LoadedSource) (a : Ask) (q : List Ask) → slice_get z.asks x0 ≡ Some q → front q ≡ Some a → x0 ≡ a.view → (x : ℕ) (name : ℕ × ℕ) (n : ℕ) → source_named x name n (source_after_answer x0 (Some a) z) ≤ source_named x name n z
  answer_less x0 z a q at first own x name n = go (x0 == x) refl
    where
      sent : total (messages_named x name) (z.messages ++ sent_reply (reply_of z.site a)) ≡ total (messages_named x name) z.messages + total (messages_named x name) (sent_reply (reply_of z.site a))
      sent = total_append (messages_named x name) z.messages (sent_reply (reply_of z.site a))

      reply : total (messages_named x name) (sent_reply (reply_of z.site a)) ≤ cond (x0 == x) (asks_named name a) 0
      reply = subst (λ v. total (messages_named x name) (sent_reply (reply_of z.site a)) ≤ cond (v == x) (asks_named name a) 0) (sym own) (reply_named x name z.site.relations a (slice_get z.site.views a.view))

      go : (b : Bool) → (x0 == x) ≡ b → source_named x name n (source_after_answer x0 (Some a) z) ≤ source_named x name n z
      go true e =
          let here : x0 ≡ x = eqb-true x0 x e in
          let lt : x0 < length z.asks = get_within x0 z.asks q at in
          let here_is : slice_index_or (changed_at x0 without_front z.asks) x [] ≡ without_front (slice_index_or z.asks x []) = subst (λ j. slice_index_or (changed_at x0 without_front z.asks) j [] ≡ without_front (slice_index_or z.asks j [])) here (or_here without_front x0 z.asks [] lt) in
          let q_is : slice_index_or z.asks x [] ≡ q = subst (λ j. slice_index_or z.asks j [] ≡ q) here (get_is z.asks x0 q [] at) in
          let c = ap {B = ℕ} (λ b. cond b (asks_named name a) 0) e in
          omega (arith, sent, reply, c, ap (total (asks_named name)) here_is, ap (λ l. total (asks_named name) (without_front l)) q_is, ap (total (asks_named name)) q_is, total_front (asks_named name) q a first)
      go false e =
          let c = ap {B = ℕ} (λ b. cond b (asks_named name a) 0) e in
          omega (arith, sent, reply, c, ap (total (asks_named name)) (or_other without_front x0 x z.asks [] (λ k. eqb-false x0 x e (sym k))))

  pub answer_kept : (y x0 : ℕ) → FitsContents s older (next_loaded s.setup l (Answer y x0))
  answer_kept y x0 = source_kept y (source_after_oldest_ask x0) fits asks less
    where
      fits : (z : LoadedSource) → slice_get l.sources y ≡ Some z → SourceFits s (IsAnswerOf l.managers y) l.numbering y (source_after_oldest_ask x0 z)
      fits z at = go (oldest_ask_to x0 z) refl
        where
          go : (o : Option Ask) → oldest_ask_to x0 z ≡ o → SourceFits s (IsAnswerOf l.managers y) l.numbering y (source_after_answer x0 o z)
          go None e = h.sources y z at
          go (Some a) e =
              let q = of_some_is (slice_get z.asks x0) front a e in
              let k = h.asks y x0 z q.0 a at q.1 (subst (λ l. Has a l) (sym (front_is q.0 a q.2)) (has_first a (without_front q.0))) in
              let there = (h.managers x0 k.manager k.there).view in
              answer_fits s y l.managers l.numbering z x0 a (h.sources y z at) k there (fw.views x0 k.manager.manager.view there)

      asks : (z : LoadedSource) → slice_get l.sources y ≡ Some z → (x : ℕ) (asks : List Ask) (a : Ask) → slice_get (source_after_oldest_ask x0 z).asks x ≡ Some asks → Has a asks → (before : List Ask) × (slice_get z.asks x ≡ Some before) × Has a before
      asks z at x qs b = go (oldest_ask_to x0 z)
        where
          go : (o : Option Ask) → slice_get (source_after_answer x0 o z).asks x ≡ Some qs → Has b qs → (before : List Ask) × (slice_get z.asks x ≡ Some before) × Has b before
          go None e i = (qs, e, i)
          go (Some a) e i = elim (get_cases without_front x0 x z.asks qs e) [
            | inl (same, (q, is, made)) ↦ (q, subst (λ n. slice_get z.asks n ≡ Some q) (sym same) is, has_behind b q (subst (λ l. Has b l) (sym made) i))
            | inr other ↦ (qs, other.1, i)
          ]

      less : (x : ℕ) (name : ℕ × ℕ) (n : ℕ) (z : LoadedSource) → slice_get l.sources y ≡ Some z → source_named x name n (source_after_oldest_ask x0 z) ≤ source_named x name n z
      less x name n z at = go (oldest_ask_to x0 z) refl
        where
          go : (o : Option Ask) → oldest_ask_to x0 z ≡ o → source_named x name n (source_after_answer x0 o z) ≤ source_named x name n z
          go None e = omega arith
          go (Some a) e =
              let q = of_some_is (slice_get z.asks x0) front a e in
              let k = h.asks y x0 z q.0 a at q.1 (subst (λ l. Has a l) (sym (front_is q.0 a q.2)) (has_first a (without_front q.0))) in
              answer_less x0 z a q.0 q.1 q.2 (ap (λ p. p.1.view) k.sent) x name n

  -- ---- integrate

  module _ (y : ℕ) (z : LoadedSource) (at : slice_get l.sources y ≡ Some z) where
    popped_less : (x : ℕ) (name : ℕ × ℕ) → sum_with_place (source_named x name) 0 (changed_at y without_oldest_message l.sources) ≤ sum_with_place (source_named x name) 0 l.sources
    popped_less x name = sum_lessens (source_named x name) without_oldest_message 0 y l.sources (λ n w e. omega (arith, total_behind (messages_named x name) w.messages))

    module _ (others : List LoadedManager) (follow : Follow l.managers others) where
      abbrev Answered : ℕ → List Table → Reply → Type 0
      Answered w = IsAnswerOf others w

      asks_after : (w x : ℕ) (z1 : LoadedSource) (qs : List Ask) (a : Ask) → slice_get (changed_at y without_oldest_message l.sources) w ≡ Some z1 → slice_get z1.asks x ≡ Some qs → Has a qs → IsAskFor others w x a
      asks_after w x z1 qs a e f i = elim (get_cases without_oldest_message y w l.sources z1 e) [
        | inl (same, (old, is, made)) ↦ subst (λ n. IsAskFor others n x a) (sym same) (asks_follow l.managers others follow y x a (h.asks y x old qs a is (ap (λ (z : LoadedSource). slice_get z.asks x) made ∙ f) i))
        | inr other ↦ asks_follow l.managers others follow w x a (h.asks w x z1 qs a other.1 f i)
      ]

    pub update_kept : (t : Updates) → front z.messages ≡ Some (Update t) → FitsContents s older (after_integrate s.setup y (Some (Update t)) l)
    update_kept t first =
        subst (λ ms. FitsContents s older (record l { sources = changed_at y without_oldest_message l.sources; numbering = l.numbering ++ next_of l.numbering y ∷ []; managers = ms; announcements = l.announcements ++ announced (next_of l.numbering y) (concerned_views s.setup.views t) }))
        (sym (ap (λ n. all_with_input (numbered_transaction (next_of l.numbering y) t) l.managers (filter (λ x. is_concerned t (slice_get s.setup.views x)) (places_from 0 n))) (sym h.managers_long) ∙ changes_are (λ x. is_concerned t (slice_get s.setup.views x)) (with_input (numbered_transaction (next_of l.numbering y) t)) l.managers))
        kept
      where
        others : List LoadedManager
        others = map_with_place (all_changed (λ x. is_concerned t (slice_get s.setup.views x)) (with_input (numbered_transaction (next_of l.numbering y) t))) 0 l.managers

        same_data : (x : ℕ) (m : LoadedManager) → m.manager ≡ (all_changed (λ x. is_concerned t (slice_get s.setup.views x)) (with_input (numbered_transaction (next_of l.numbering y) t)) x m).manager
        same_data x m = elim (is_concerned t (slice_get s.setup.views x)) as (λ b. m.manager ≡ (cond b (with_input (numbered_transaction (next_of l.numbering y) t) m) m).manager) [ true ↦ refl | false ↦ refl ]

        follow : Follow l.managers (map_with_place (all_changed (λ x. is_concerned t (slice_get s.setup.views x)) (with_input (numbered_transaction (next_of l.numbering y) t))) 0 l.managers)
        follow x m e = (all_changed (λ x. is_concerned t (slice_get s.setup.views x)) (with_input (numbered_transaction (next_of l.numbering y) t)) x m, get_mapped_at (all_changed (λ x. is_concerned t (slice_get s.setup.views x)) (with_input (numbered_transaction (next_of l.numbering y) t))) 0 x x l.managers m (omega arith) e, same_data x m)

        n : SourceFits s (IsAnswerOf l.managers y) (l.numbering ++ next_of l.numbering y ∷ []) y (record z { messages = without_front z.messages }) × (t ≡ content s (next_of l.numbering y)) × AreValid (relations_after s l.numbering) t × IsOwn s.setup.homes y t
        n = numbered_fits s y (IsAnswerOf l.managers y) l.numbering z t (without_front z.messages) (front_is z.messages (Update t) first) (h.sources y z at)

        kept : FitsContents s older (record l { sources = changed_at y without_oldest_message l.sources; numbering = l.numbering ++ next_of l.numbering y ∷ []; managers = map_with_place (all_changed (λ x. is_concerned t (slice_get s.setup.views x)) (with_input (numbered_transaction (next_of l.numbering y) t))) 0 l.managers; announcements = l.announcements ++ announced (next_of l.numbering y) (concerned_views s.setup.views t) })
        kept = record {
          managers_long = length_map_at (all_changed (λ x. is_concerned t (slice_get s.setup.views x)) (with_input (numbered_transaction (next_of l.numbering y) t))) 0 l.managers ∙ h.managers_long;
          valid = subst (λ ts. AreAllValid s.setup.initial ts) (sym (map_push (content s) l.numbering (next_of l.numbering y ∷ []))) (valid_push s.setup.initial (map (content s) l.numbering) (content s (next_of l.numbering y)) h.valid (subst (AreValid (relations_after s l.numbering)) n.1 n.2));
          sources = λ w z1 e. elim (get_cases without_oldest_message y w l.sources z1 e) [
            | inl (same, (old, is, made)) ↦
                subst (λ n. SourceFits s (IsAnswerOf (map_with_place (all_changed (λ x. is_concerned t (slice_get s.setup.views x)) (with_input (numbered_transaction (next_of l.numbering y) t))) 0 l.managers) n) (l.numbering ++ next_of l.numbering y ∷ []) n z1) (sym same)
                (subst (λ z. SourceFits s (IsAnswerOf (map_with_place (all_changed (λ x. is_concerned t (slice_get s.setup.views x)) (with_input (numbered_transaction (next_of l.numbering y) t))) 0 l.managers) y) (l.numbering ++ next_of l.numbering y ∷ []) y z)
                (ap without_oldest_message (some_same z old (sym at ∙ is)) ∙ made)
                (source_map s (IsAnswerOf l.managers y) (IsAnswerOf (map_with_place (all_changed (λ x. is_concerned t (slice_get s.setup.views x)) (with_input (numbered_transaction (next_of l.numbering y) t))) 0 l.managers) y) (l.numbering ++ next_of l.numbering y ∷ []) y (without_oldest_message z) (λ db r i a. answers_follow l.managers _ follow y db r a) n.0))
            | inr other ↦
                source_map s (IsAnswerOf l.managers w) (IsAnswerOf (map_with_place (all_changed (λ x. is_concerned t (slice_get s.setup.views x)) (with_input (numbered_transaction (next_of l.numbering y) t))) 0 l.managers) w) (l.numbering ++ next_of l.numbering y ∷ []) w z1 (λ db r i a. answers_follow l.managers _ follow w db r a)
                (others_fit s w (IsAnswerOf l.managers w) l.numbering z1 (next_of l.numbering y) (λ e. other.0 (sym e)) (subst (IsOwn s.setup.homes y) n.1 n.3) (h.sources w z1 other.1))
          ];
          asks = λ w x z1 qs a e f i. asks_after (map_with_place (all_changed (λ x. is_concerned t (slice_get s.setup.views x)) (with_input (numbered_transaction (next_of l.numbering y) t))) 0 l.managers) follow w x z1 qs a e f i;
          managers = λ x m1 e.
              let k = get_map_at (all_changed (λ x. is_concerned t (slice_get s.setup.views x)) (with_input (numbered_transaction (next_of l.numbering y) t))) 0 x x l.managers m1 (omega arith) e in
              subst (λ m1. ManagerFits s (older x) (l.numbering ++ next_of l.numbering y ∷ []) x m1) k.2 (manager_kept x k.0 (h.managers x k.0 k.1));
          once = λ x name. omega (arith, popped_less x name, flights x name, h.once x name);
          unnamed = λ x m1 name e lt.
              let k = get_map_at (all_changed (λ x. is_concerned t (slice_get s.setup.views x)) (with_input (numbered_transaction (next_of l.numbering y) t))) 0 x x l.managers m1 (omega arith) e in
              let last : k.0.manager.state.last ≡ m1.manager.state.last = ap (λ d. d.state.last) (same_data x k.0) ∙ ap (λ (m : LoadedManager). m.manager.state.last) k.2 in
              omega (arith, popped_less x name, flights x name, h.unnamed x k.0 name k.1 (omega (arith, last, lt)));
        }
          where
            manager_kept : (x : ℕ) (m : LoadedManager) → ManagerFits s (older x) l.numbering x m → ManagerFits s (older x) (l.numbering ++ next_of l.numbering y ∷ []) x (all_changed (λ x. is_concerned t (slice_get s.setup.views x)) (with_input (numbered_transaction (next_of l.numbering y) t)) x m)
            manager_kept x m f = go (is_concerned t (slice_get s.setup.views x)) refl
              where
                go : (b : Bool) → is_concerned t (slice_get s.setup.views x) ≡ b → ManagerFits s (older x) (l.numbering ++ next_of l.numbering y ∷ []) x (cond b (with_input (numbered_transaction (next_of l.numbering y) t) m) m)
                go true e = manager_sent s (older x) l.numbering x m f (next_of l.numbering y) t refl n.1 (sym (ap (is_concerned t) f.view) ∙ e)
                go false e = manager_missed s (older x) l.numbering x m f (next_of l.numbering y) (ap (concerns m.manager.view.parts) (sym n.1) ∙ (sym (ap (is_concerned t) f.view) ∙ e))

            flights : (x : ℕ) (name : ℕ × ℕ) → sum_with_place (manager_named x name) 0 (map_with_place (all_changed (λ x. is_concerned t (slice_get s.setup.views x)) (with_input (numbered_transaction (next_of l.numbering y) t))) 0 l.managers) ≡ sum_with_place (manager_named x name) 0 l.managers
            flights x name = sum_mapped (manager_named x name) (all_changed (λ x. is_concerned t (slice_get s.setup.views x)) (with_input (numbered_transaction (next_of l.numbering y) t))) 0 0 l.managers (λ j i m. elim (is_concerned t (slice_get s.setup.views i)) as (λ b. manager_named x name j (cond b (with_input (numbered_transaction (next_of l.numbering y) t) m) m) ≡ manager_named x name j m) [
              | true ↦ ap (λ k. cond (j == x) k 0) (let p = total_append (inputs_named name) m.messages (numbered_transaction (next_of l.numbering y) t ∷ []) in omega (arith, p))
              | false ↦ refl
            ])

    pub reply_kept : (r : Reply) → front z.messages ≡ Some (SentReply r) → FitsContents s older (after_integrate s.setup y (Some (SentReply r)) l)
    reply_kept r first = record {
      managers_long = length_changed (with_input (reply_to_ask r)) r.view l.managers ∙ h.managers_long;
      valid = h.valid;
      sources = λ w z1 e. elim (get_cases without_oldest_message y w l.sources z1 e) [
        | inl (same, (old, is, made)) ↦
            subst (λ n. SourceFits s (IsAnswerOf (changed_at r.view (with_input (reply_to_ask r)) l.managers) n) l.numbering n z1) (sym same)
            (subst (λ z. SourceFits s (IsAnswerOf (changed_at r.view (with_input (reply_to_ask r)) l.managers) y) l.numbering y z) (ap without_oldest_message (some_same z old (sym at ∙ is)) ∙ made)
            (source_map s (IsAnswerOf l.managers y) (IsAnswerOf (changed_at r.view (with_input (reply_to_ask r)) l.managers) y) l.numbering y (without_oldest_message z) (λ db q i a. answers_follow l.managers _ follow y db q a) n.0))
        | inr other ↦ source_map s (IsAnswerOf l.managers w) (IsAnswerOf (changed_at r.view (with_input (reply_to_ask r)) l.managers) w) l.numbering w z1 (λ db q i a. answers_follow l.managers _ follow w db q a) (h.sources w z1 other.1)
      ];
      asks = λ w x z1 qs a e f i. asks_after (changed_at r.view (with_input (reply_to_ask r)) l.managers) follow w x z1 qs a e f i;
      managers = λ x m1 e. elim (get_cases (with_input (reply_to_ask r)) r.view x l.managers m1 e) [
        | inl (same, (m, is, made)) ↦ subst (λ m1. ManagerFits s (older x) l.numbering x m1) made (manager_replied s (older x) l.numbering x m (h.managers x m (subst (λ n. slice_get l.managers n ≡ Some m) (sym same) is)) r (answers m is))
        | inr other ↦ h.managers x m1 other.1
      ];
      once = λ x name. omega (arith, flights x name, h.once x name);
      unnamed = λ x m1 name e lt. elim (get_cases (with_input (reply_to_ask r)) r.view x l.managers m1 e) [
        | inl (same, (m, is, made)) ↦ let last : m.manager.state.last ≡ m1.manager.state.last = ap (λ (m : LoadedManager). m.manager.state.last) made in omega (arith, flights x name, h.unnamed x m name (subst (λ n. slice_get l.managers n ≡ Some m) (sym same) is) (omega (arith, last, lt)))
        | inr other ↦ omega (arith, flights x name, h.unnamed x m1 name other.1 lt)
      ];
    }
      where
        n : SourceFits s (IsAnswerOf l.managers y) l.numbering y (record z { messages = without_front z.messages }) × IsAnswerOf l.managers y (h.sources y z at).relations r
        n = handed_on_fits s y (IsAnswerOf l.managers y) l.numbering z r (without_front z.messages) (front_is z.messages (SentReply r) first) (h.sources y z at)

        follow : Follow l.managers (changed_at r.view (with_input (reply_to_ask r)) l.managers)
        follow x m e = go (x == r.view) refl
          where
            go : (b : Bool) → (x == r.view) ≡ b → (w : LoadedManager) × (slice_get (changed_at r.view (with_input (reply_to_ask r)) l.managers) x ≡ Some w) × (m.manager ≡ w.manager)
            go true k = let same = eqb-true x r.view k in (with_input (reply_to_ask r) m, subst (λ j. slice_get (changed_at j (with_input (reply_to_ask r)) l.managers) x ≡ Some (with_input (reply_to_ask r) m)) same (get_changed (with_input (reply_to_ask r)) x l.managers m e), refl)
            go false k = (m, get_changed_other (with_input (reply_to_ask r)) r.view x l.managers (eqb-false x r.view k) ∙ e, refl)

        -- the reply answers the manager's query on the relations after all that is numbered
        answers : (m : LoadedManager) → slice_get l.managers r.view ≡ Some m → AnswersOn (keyed m.manager.view) m.manager.state (relations_after s l.numbering) r
        answers m is =
            let a = n.1 in
            subst (λ (m : LoadedManager). AnswersOn (keyed m.manager.view) m.manager.state (relations_after s l.numbering) r) (some_same a.manager m (sym a.there ∙ is))
            (record {
              query = a.answers.query;
              open_query = a.answers.open_query;
              transaction_is = a.answers.transaction_is;
              origin_is = a.answers.origin_is;
              step_is = a.answers.step_is;
              answer = a.answers.answer ∙ answer_alike s.setup (keyed a.manager.manager.view) (fw.views r.view a.manager.manager.view (h.managers r.view a.manager a.there).view) y a.answers.query.origin a.answers.query.step (h.sources y z at).relations (relations_after s l.numbering) a.answers.query.partials
                  (ap₂ (λ o k. source_of_step (keyed a.manager.manager.view) o k) a.answers.origin_is a.answers.step_is ∙ a.asked) (h.sources y z at).agree;
            })

        flights : (x : ℕ) (name : ℕ × ℕ) → sum_with_place (source_named x name) 0 (changed_at y without_oldest_message l.sources) + sum_with_place (manager_named x name) 0 (changed_at r.view (with_input (reply_to_ask r)) l.managers) ≤ in_flight x name l
        flights x name =
            let a = n.1 in
            let one = sum_changed (source_named x name) without_oldest_message 0 y l.sources z at in
            let two = sum_changed (manager_named x name) (with_input (reply_to_ask r)) 0 r.view l.managers a.manager a.there in
            let pop = total_front (messages_named x name) z.messages (SentReply r) first in
            let place : 0 + r.view ≡ r.view = omega arith in
            let push : manager_named x name (0 + r.view) (with_input (reply_to_ask r) a.manager) ≡ manager_named x name (0 + r.view) a.manager + messages_named x name (SentReply r) = subst (λ j. manager_named x name j (with_input (reply_to_ask r) a.manager) ≡ manager_named x name j a.manager + messages_named x name (SentReply r)) (sym place) (pushed a.manager) in
            omega (arith, one, two, pop, push)
          where
            pushed : (m : LoadedManager) → manager_named x name r.view (with_input (reply_to_ask r) m) ≡ manager_named x name r.view m + messages_named x name (SentReply r)
            pushed m = let p = total_append (inputs_named name) m.messages (reply_to_ask r ∷ []) in
                elim (r.view == x) as (λ b. cond b (total (inputs_named name) (m.messages ++ reply_to_ask r ∷ [])) 0 ≡ cond b (total (inputs_named name) m.messages) 0 + cond (b && has_name name r.update r.origin) 1 0) [ true ↦ omega (arith, p) | false ↦ omega arith ]

  pub integrate_kept : (y : ℕ) → FitsContents s older (next_loaded s.setup l (Integrate y))
  integrate_kept y = go (oldest_message l y) refl
    where
      go : (o : Option Message) → oldest_message l y ≡ o → FitsContents s older (after_integrate s.setup y o l)
      go None e = h
      go (Some (Update t)) e = let k = of_some_is (slice_get l.sources y) (λ z. front z.messages) (Update t) e in update_kept y k.0 k.1 t k.2
      go (Some (SentReply r)) e = let k = of_some_is (slice_get l.sources y) (λ z. front z.messages) (SentReply r) e in reply_kept y k.0 k.1 r k.2
