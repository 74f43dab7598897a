-- One event does to the numbers of the contents what the machine does, and the same events are enabled and full.
--
-- `step_projects`: the numbers of the pipeline after an event are the machine's state after it, where the oldest transaction begins as the machine says (`BeginsRight`). `enabled_same`, `full_same`, `done_same`: the same events are enabled, full and done. `start_projects`: the same at the start.
--
-- The idea: the invariant of the contents gives to each event what its lemma takes: the entry at the front of its queue, and that what stands there is right.
--
-- Two lemmas carry it: `split_named` (the place of a query among those with distinct names) and `first_set` (the oldest transaction and its row set).
use Rattle.std.proofs.Common.{◌≡◌, inl, inr, ℕ, zero, suc, ◌+◌, ◌-◌, ◌%◌, ◌==◌, ◌&&◌, Bool, true, false, not, cond, List, [], ◌∷◌, ◌++◌, length, map, drop, Option, Some, None, slice_get, refl, sym, ap, ap₂, subst, ◌∙◌, arith, eqb-true}
use Rattle.std.specs.Prelude.{filter, is_some, nat_lt, slice_index, replicate}
use Rattle.std.specs.Option.{option_and_then, option_map, unwrap_or}
use Rattle.std.proofs.lemmas.Bool.{and_parts, and_from, eq-eqb, lt-ltb, ltb-true}
use Rattle.std.proofs.lemmas.List.{length-map, length-replicate}
use Rattle.whips_lists.proofs.Options.{some_of, of_some_is}
use Rattle.whips_lists.proofs.Lists.{front_is}
use Rattle.whips_lists.proofs.Members.{has_none, has_cases, has_first, has_mapped}
use Rattle.whips_lists.specs.Members.{AreDistinct, Has}
use Rattle.whips_lists.specs.Lists.{map_with_place, places_from, front, without_front}
use Rattle.whips_flow.specs.Facts.{Facts}
use Rattle.whips_flow.specs.Cuts.{cut_after}
use Rattle.whips_flow.specs.State.{start, new_source, new_manager, count_of_source}
use Rattle.whips_flow.specs.Progress.{is_enabled, has_uncommitted, next, is_done, shortage_at, step}
use Rattle.whips_flow.specs.declared.event.Event.{Event}
use Rattle.whips_flow.specs.declared.event.Event.TheVariants.{Commit, Answer, Integrate, Manage, Rel, Act, Begin, Change, Publish, SessionOpen, SessionScan, SessionFetch, SessionClose}
use Rattle.whips_model.specs.Relation.{Table}
use Rattle.whips_choices.specs.KeyedViews.{KeyedView}
use Rattle.whips_states.specs.States.{Updates}
use Rattle.whips_states.specs.Net.{given_at}
use Rattle.whips_states.specs.Concerns.{concerns}
use Rattle.whips_view.specs.ViewDefs.{View, keyed}
use Rattle.whips_actions.specs.declared.action.ActionList.{ActionList}
use Rattle.whips_steps.specs.Steps.{asked_sources}
use Rattle.whips_facts.specs.Scripts.{Script, SlottedView, no_view, transaction_at, slotted, slotted_views}
use Rattle.whips_facts.specs.ScriptFacts.{facts_of}
use Rattle.whips_managers.specs.Managers.{Query, name_of, is_named}
use Rattle.whips_query.specs.declared.asks.Ask.{Ask}
use Rattle.whips_query.specs.declared.asks.Reply.{Reply}
use Rattle.whips_store.specs.Stores.{StoreState, changes_left}
use Rattle.whips_order.specs.Numbering.{is_concerned}
use Rattle.whips_order.specs.declared.message.Message.{Message}
use Rattle.whips_order.specs.declared.message.Message.TheVariants.{Update, Reply as SentReply}
use Rattle.whips_source.specs.Sites.{SiteState}
use Rattle.whips_contents.specs.Contents.{ManagerInput, numbered_transaction, reply_to_ask, LoadedSource, LoadedManager, LoadedPipeline, new_loaded_source, new_loaded_manager, start_loaded}
use Rattle.whips_contents.specs.Events.{oldest_ask_to, oldest_message as oldest_loaded_message, oldest_input, oldest_list as oldest_loaded_list, has_transaction_left, row_announced, is_enabled_loaded, is_full_for, next_loaded, step_loaded}
use Rattle.whips_contents.specs.Tokens.{ask_step, transactions_in, message_tokens, source_tokens, input_token, manager_tokens, tokens}
use Rattle.whips_contents.proofs.Changes.{map_front, map_get}
use Rattle.whips_stage_laws.proofs.Setups.{view_there, slotted_long}
use Rattle.whips_stage_laws.specs.Fits.{transactions_of, AnswersOn, IsAnswerOf, MessagesFit, InputsFit, ListsFit, FitsContents, no_older, FitsWork}
use Rattle.whips_stage_laws.proofs.Standing.{other_name}
use Rattle.whips_contents_laws.proofs.Follows.{left_is}
use Rattle.whips_token_laws.specs.Ties.{FitsMerge, BeginsRight, FitsStart}
use Rattle.whips_token_laws.proofs.Projects.{commit_projects, answer_projects, integrate_reply_projects, integrate_update_projects, rel_projects, act_projects, begin_projects, change_projects, publish_projects}
use Rattle.whips_token_laws.proofs.Manages.{manage_update_projects, manage_reply_projects}
use Rattle.whips_token_laws.proofs.Sets.{first_set, same_waits}

-- ---- small

map_some : {A B : Type 0} (g : A → B) (o : Option A) → is_some o ≡ is_some (option_map g o)
map_some g None = refl
map_some g (Some a) = refl

get_map_none : {A B : Type 0} (g : ℕ → A → B) (k i : ℕ) (xs : List A) → slice_get xs i ≡ None → slice_get (map_with_place g k xs) i ≡ None
get_map_none g k i [] e = refl
get_map_none g k zero (x ∷ xs) e = absurd (cc)
get_map_none g k (suc i) (x ∷ xs) e = get_map_none g (suc k) i xs e

drop_length : {A : Type 0} (k : ℕ) (xs : List A) → length (drop k xs) ≡ length xs - k
drop_length zero xs = omega arith
drop_length (suc k) [] = omega arith
drop_length (suc k) (x ∷ xs) = omega (arith, drop_length k xs)

index_length : (work : List (List Updates)) (y : ℕ) → slice_index (map (λ ts. length ts) work) y ≡ length (unwrap_or (slice_get work y) [])
index_length [] y = refl
index_length (ts ∷ work) zero = refl
index_length (ts ∷ work) (suc y) = index_length work y

lt_same : (a b : ℕ) → nat_lt 0 (b - a) ≡ nat_lt a b
lt_same a b = go (nat_lt 0 (b - a)) (nat_lt a b) refl refl
  where
    go : (c d : Bool) → nat_lt 0 (b - a) ≡ c → nat_lt a b ≡ d → c ≡ d
    go true true e f = refl
    go false false e f = refl
    go true false e f = let g = ltb-true 0 (b - a) e in let no = lt-ltb a b (omega (arith, g)) in absurd (cc (no, f))
    go false true e f = let g = ltb-true a b f in let no = lt-ltb 0 (b - a) (omega (arith, g)) in absurd (cc (no, e))

-- the place of a query among those with distinct names
split_named : (xs : List Query) (q : Query) → AreDistinct (map name_of xs) → Has q xs → (before : List Query) × (after : List Query) × (xs ≡ before ++ q ∷ after) × ((p : Query) → Has p (before ++ after) → name_of p ≡ name_of q → ⊥)
split_named [] q d h = absurd (has_none q h)
split_named (x ∷ xs) q d h = elim (has_cases q x xs h) [
  | inl same ↦ ([], xs, ap (λ z. z ∷ xs) (sym same), λ p i e. d.0 (subst (λ n. Has n (map name_of xs)) (e ∙ ap name_of same) (has_mapped name_of p xs i)))
  | inr k ↦
      let ih = split_named xs q d.1 k in (
        x ∷ ih.0,
        ih.1,
        ap (λ l. x ∷ l) ih.2,
        λ p i e. elim (has_cases p x (ih.0 ++ ih.1) i) [
          | inl is ↦ d.0 (subst (λ n. Has n (map name_of xs)) (sym e ∙ ap name_of is) (has_mapped name_of q xs k))
          | inr j ↦ ih.3 p j e
        ],
      )
]

pub slots_are : (s : Script) → length (facts_of s).slots ≡ length s.setup.views
slots_are s = length-map (slotted_views s) (λ (v : SlottedView). v.slots) ∙ slotted_long s

none_concerned : (t : Updates) → concerns no_view.base t ≡ false
none_concerned [] = refl
none_concerned (u ∷ t) = none_concerned t

module _ (s : Script) (A : List Table → Reply → Type 0) (y : ℕ) where
  messages_count : (k : ℕ) (db : List Table) (ms : List Message) (site : SiteState) → MessagesFit s A y k db ms site → site.commits ≡ k + transactions_in ms
  messages_count k db [] site h = omega (arith, h.commits)
  messages_count k db (Update t ∷ ms) site h = omega (arith, messages_count (suc k) _ ms site h.3)
  messages_count k db (SentReply r ∷ ms) site h = messages_count k db ms site h.1

  site_end : (k : ℕ) (db : List Table) (ms : List Message) (site : SiteState) → MessagesFit s A y k db ms site → site.left ≡ drop site.commits (transactions_of s y)
  site_end k db [] site h = h.left ∙ ap (λ n. drop n (transactions_of s y)) (sym h.commits)
  site_end k db (Update t ∷ ms) site h = site_end (suc k) _ ms site h.3
  site_end k db (SentReply r ∷ ms) site h = site_end k db ms site h.1

  views_are : (k : ℕ) (db : List Table) (ms : List Message) (site : SiteState) → MessagesFit s A y k db ms site → site.views ≡ s.setup.views
  views_are k db [] site h = h.views
  views_are k db (Update t ∷ ms) site h = views_are (suc k) _ ms site h.3
  views_are k db (SentReply r ∷ ms) site h = views_are k db ms site h.1

-- ---- one moment

module _ (s : Script) (store : StoreState) (fw : FitsWork s) (fs : FitsStart s store) (l : LoadedPipeline)
    (h : FitsContents s no_older l) (g : FitsMerge s.setup l) (right : BeginsRight s l) where
  abbrev f : Facts
  f = facts_of s

  concerns_same : (t : Updates) (y k : ℕ) → t ≡ transaction_at s y k → (x : ℕ) → f.concerns y k x ≡ is_concerned t (slice_get s.setup.views x)
  concerns_same t y k is x = go (slice_get s.setup.views x) refl
    where
      go : (o : Option View) → slice_get s.setup.views x ≡ o → f.concerns y k x ≡ is_concerned t o
      go None e = ap₂ (λ (v : KeyedView) u. concerns v.base u) (ap (λ o. unwrap_or (option_and_then (λ (v : SlottedView). Some v.view) o) no_view) (get_map_none (slotted s.setup.slots) 0 x s.setup.views e)) (sym is) ∙ none_concerned t
      go (Some view) e = ap₂ (λ (v : KeyedView) u. concerns v.base u) (view_there s x view e) (sym is)

  asked_same : (x : ℕ) (m : LoadedManager) → slice_get l.managers x ≡ Some m → (o : ℕ) → f.asked_sources x o ≡ asked_sources (keyed m.manager.view) o
  asked_same x m at o = ap (λ v. asked_sources v o) (view_there s x m.manager.view (h.managers x m at).view)

  count_is : (y : ℕ) (z : LoadedSource) → slice_get l.sources y ≡ Some z → z.site.commits ≡ count_of_source l.numbering y + transactions_in z.messages
  count_is y z at = messages_count s _ y (count_of_source l.numbering y) _ z.messages z.site (h.sources y z at).messages

  -- ---- each event

  commit_case : (y : ℕ) → is_enabled_loaded l (Commit y) ≡ true → tokens (length s.setup.views) (next_loaded s.setup l (Commit y)) ≡ next f (tokens (length s.setup.views) l) (Commit y)
  commit_case y en = commit_projects f s.setup (length s.setup.views) y l (λ z at. let k = left_is s no_older fw l h z.site.left (sym (ap has_transaction_left at) ∙ en) in (k.0, k.1, k.2, omega (arith, count_is y z at)))

  answer_case : (y x : ℕ) → is_enabled_loaded l (Answer y x) ≡ true → tokens (length s.setup.views) (next_loaded s.setup l (Answer y x)) ≡ next f (tokens (length s.setup.views) l) (Answer y x)
  answer_case y x en =
      let a = some_of (option_and_then (oldest_ask_to x) (slice_get l.sources y)) en in
      let z = of_some_is (slice_get l.sources y) (oldest_ask_to x) a.0 a.1 in
      let q = of_some_is (slice_get z.0.asks x) front a.0 z.2 in
      let k = h.asks y x z.0 q.0 a.0 z.1 q.1 (subst (λ l. Has a.0 l) (sym (front_is q.0 a.0 q.2)) (has_first a.0 (without_front q.0))) in
      let own : x ≡ a.0.view = ap (λ p. p.1.view) k.sent in
      let site = views_are s (IsAnswerOf l.managers y) y (count_of_source l.numbering y) (h.sources y z.0 z.1).relations z.0.messages z.0.site (h.sources y z.0 z.1).messages in
      answer_projects f s.setup (length s.setup.views) l y x z.0 a.0 k.manager.manager.view z.1 z.2 (sym own) (ap₂ (λ vs n. slice_get vs n) site (sym own) ∙ (h.managers x k.manager k.there).view)

  integrate_case : (y : ℕ) → is_enabled_loaded l (Integrate y) ≡ true → tokens (length s.setup.views) (next_loaded s.setup l (Integrate y)) ≡ next f (tokens (length s.setup.views) l) (Integrate y)
  integrate_case y en =
      let m = some_of (oldest_loaded_message l y) en in
      let z = of_some_is (slice_get l.sources y) (λ z. front z.messages) m.0 m.1 in
      go m.0 z.0 z.1 z.2
    where
      go : (m : Message) (z : LoadedSource) → slice_get l.sources y ≡ Some z → front z.messages ≡ Some m → tokens (length s.setup.views) (next_loaded s.setup l (Integrate y)) ≡ next f (tokens (length s.setup.views) l) (Integrate y)
      go (Update t) z at first =
          let c = h.sources y z at in
          let i = subst (λ ms. MessagesFit s (IsAnswerOf l.managers y) y (count_of_source l.numbering y) c.relations ms z.site) (front_is z.messages (Update t) first) c.messages in
          integrate_update_projects f s.setup (length s.setup.views) l refl (slots_are s) h.managers_long y t (concerns_same t y (suc (count_of_source l.numbering y)) i.0) z at first (omega (arith, count_is y z at)) (omega (arith, count_is y z at))
      go (SentReply r) z at first = integrate_reply_projects f s.setup (length s.setup.views) l y z r at first (omega (arith, count_is y z at))

  manage_case : (x : ℕ) → is_enabled_loaded l (Manage x) ≡ true → tokens (length s.setup.views) (next_loaded s.setup l (Manage x)) ≡ next f (tokens (length s.setup.views) l) (Manage x)
  manage_case x en =
      let i = some_of (oldest_input l x) en in
      let m = of_some_is (slice_get l.managers x) (λ m. front m.messages) i.0 i.1 in
      go i.0 m.0 m.1 m.2
    where
      go : (i : ManagerInput) (m : LoadedManager) → slice_get l.managers x ≡ Some m → front m.messages ≡ Some i → tokens (length s.setup.views) (next_loaded s.setup l (Manage x)) ≡ next f (tokens (length s.setup.views) l) (Manage x)
      go (numbered_transaction k t) m at first =
          let c = h.managers x m at in
          let i = subst (InputsFit s (keyed m.manager.view) (AnswersOn (keyed m.manager.view) m.manager.state) c.before c.after) (front_is m.messages (numbered_transaction k t) first) c.inputs in
          manage_update_projects f x s.setup (length s.setup.views) l m at (asked_same x m at) k t first
          (ap₂ (λ v u. filter (λ o. nat_lt 0 (length (given_at v u o))) (places_from 0 (length v.base.relations))) (view_there s x m.manager.view c.view) (sym i.5)
          ∙ ap (filter (λ o. nat_lt 0 (length (given_at (keyed m.manager.view) t o)))) (ap (places_from 0) (fw.views x m.manager.view c.view).relations.parts))
      go (reply_to_ask r) m at first =
          let c = h.managers x m at in
          let i = subst (InputsFit s (keyed m.manager.view) (AnswersOn (keyed m.manager.view) m.manager.state) c.before c.after) (front_is m.messages (reply_to_ask r) first) c.inputs in
          let a = i.4 in
          let cut = split_named m.manager.state.queries a.query c.keeps.invariant.numbered.distinct a.open_query in
          manage_reply_projects f x s.setup (length s.setup.views) l m at (asked_same x m at) r cut.0 cut.1 a.query cut.2
          (λ p there. other_name r p (λ e. cut.3 p there (λ i. ((e.0 ∙ sym a.transaction_is) i, (e.1 ∙ sym a.origin_is) i))))
          (named a.query a.transaction_is a.origin_is) a.step_is first
        where
          named : (q : Query) → q.transaction ≡ r.update → q.origin ≡ r.origin → is_named r.update r.origin q ≡ true
          named q e same = and_from (q.transaction == r.update) (q.origin == r.origin) (eq-eqb q.transaction r.update e) (eq-eqb q.origin r.origin same)

  act_case : (x : ℕ) → is_enabled_loaded l (Act x) ≡ true → tokens (length s.setup.views) (next_loaded s.setup l (Act x)) ≡ next f (tokens (length s.setup.views) l) (Act x)
  act_case x en =
      let list = some_of (oldest_loaded_list l x) en in
      let m = of_some_is (slice_get l.managers x) (λ m. front m.lists) list.0 list.1 in
      let c = h.managers x m.0 m.1 in
      let own = subst (λ ls. ListsFit s (keyed m.0.manager.view) x l.numbering c.first_list ls c.last_list) (front_is m.0.lists list.0 m.2) c.lists in
      act_projects f s.setup (length s.setup.views) l x m.0 list.0 m.1 m.2 own.0

  begin_case : is_enabled_loaded l Begin ≡ true → tokens (length s.setup.views) (next_loaded s.setup l Begin) ≡ next f (tokens (length s.setup.views) l) Begin
  begin_case en =
      let both = and_parts (is_some (front l.merge.transactions)) (l.store.phase % 2 == 0) en in
      let t = some_of (front l.merge.transactions) both.0 in
      let even = eqb-true (l.store.phase % 2) 0 both.1 in
      let set = first_set s.setup l g t.0 t.1 in
      begin_projects f s.setup (length s.setup.views) l t.0 set.0 t.1 set.1 (set.2 ∙ ap (λ c. cut_after c set.0) (g.level even)) (right t.0 t.1 even).0

  next_projects : (e : Event) → is_enabled_loaded l e ≡ true → tokens (length s.setup.views) (next_loaded s.setup l e) ≡ next f (tokens (length s.setup.views) l) e
  next_projects (Commit y) en = commit_case y en
  next_projects (Answer y x) en = answer_case y x en
  next_projects (Integrate y) en = integrate_case y en
  next_projects (Manage x) en = manage_case x en
  next_projects Rel en = let a = some_of (front l.announcements) en in rel_projects f s.setup (length s.setup.views) l a.0 a.1 g.lists_long
  next_projects (Act x) en = act_case x en
  next_projects Begin en = begin_case en
  next_projects Change en = change_projects f s.setup (length s.setup.views) l
  next_projects Publish en = publish_projects f s.setup (length s.setup.views) l
  next_projects (SessionOpen v) en = refl
  next_projects (SessionScan v x) en = refl
  next_projects (SessionFetch v n) en = refl
  next_projects (SessionClose v) en = refl

  -- ---- what is enabled

  commit_enabled : (y : ℕ) → is_enabled_loaded l (Commit y) ≡ is_enabled f (tokens (length s.setup.views) l) (Commit y)
  commit_enabled y = go (slice_get l.sources y) refl ∙ ap (λ o. has_uncommitted o (slice_index f.transactions y)) (sym (map_get source_tokens l.sources y))
    where
      go : (o : Option LoadedSource) → slice_get l.sources y ≡ o → has_transaction_left o ≡ has_uncommitted (option_map source_tokens o) (slice_index f.transactions y)
      go None e = refl
      go (Some z) e =
          let left = site_end s _ y (count_of_source l.numbering y) _ z.messages z.site (h.sources y z e).messages in
          ap (λ ts. nat_lt 0 (length ts)) left ∙ (ap (nat_lt 0) (drop_length z.site.commits (transactions_of s y)) ∙ (lt_same z.site.commits (length (transactions_of s y)) ∙ ap (nat_lt z.site.commits) (sym (index_length s.work y))))

  front_same : (k : ℕ) (ms : List Message) → is_some (front ms) ≡ is_some (front (message_tokens k ms))
  front_same k [] = refl
  front_same k (Update t ∷ ms) = refl
  front_same k (SentReply r ∷ ms) = refl

  answer_enabled : (y x : ℕ) → is_enabled_loaded l (Answer y x) ≡ is_enabled f (tokens (length s.setup.views) l) (Answer y x)
  answer_enabled y x = go (slice_get l.sources y) ∙ ap (λ o. is_some (option_and_then (λ s. option_and_then front (slice_get s.asks x)) o)) (sym (map_get source_tokens l.sources y))
    where
      asked : (o : Option (List Ask)) → is_some (option_and_then front o) ≡ is_some (option_and_then front (option_map (map ask_step) o))
      asked None = refl
      asked (Some []) = refl
      asked (Some (a ∷ q)) = refl

      go : (o : Option LoadedSource) → is_some (option_and_then (oldest_ask_to x) o) ≡ is_some (option_and_then (λ s. option_and_then front (slice_get s.asks x)) (option_map source_tokens o))
      go None = refl
      go (Some z) = asked (slice_get z.asks x) ∙ ap (λ o. is_some (option_and_then front o)) (sym (map_get (map ask_step) z.asks x))

  integrate_enabled : (y : ℕ) → is_enabled_loaded l (Integrate y) ≡ is_enabled f (tokens (length s.setup.views) l) (Integrate y)
  integrate_enabled y = go (slice_get l.sources y) ∙ ap (λ o. is_some (option_and_then (λ s. front s.messages) o)) (sym (map_get source_tokens l.sources y))
    where
      go : (o : Option LoadedSource) → is_some (option_and_then (λ s. front s.messages) o) ≡ is_some (option_and_then (λ s. front s.messages) (option_map source_tokens o))
      go None = refl
      go (Some z) = front_same (z.site.commits - transactions_in z.messages) z.messages

  manage_enabled : (x : ℕ) → is_enabled_loaded l (Manage x) ≡ is_enabled f (tokens (length s.setup.views) l) (Manage x)
  manage_enabled x = go (slice_get l.managers x) ∙ ap (λ o. is_some (option_and_then (λ m. front m.messages) o)) (sym (map_get manager_tokens l.managers x))
    where
      go : (o : Option LoadedManager) → is_some (option_and_then (λ m. front m.messages) o) ≡ is_some (option_and_then (λ m. front m.messages) (option_map manager_tokens o))
      go None = refl
      go (Some m) = map_some input_token (front m.messages) ∙ ap is_some (sym (map_front input_token m.messages))

  act_enabled : (x : ℕ) → is_enabled_loaded l (Act x) ≡ is_enabled f (tokens (length s.setup.views) l) (Act x)
  act_enabled x = go (slice_get l.managers x) ∙ ap (λ o. is_some (option_and_then (λ m. front m.lists) o)) (sym (map_get manager_tokens l.managers x))
    where
      go : (o : Option LoadedManager) → is_some (option_and_then (λ m. front m.lists) o) ≡ is_some (option_and_then (λ m. front m.lists) (option_map manager_tokens o))
      go None = refl
      go (Some m) = map_some (λ (l : ActionList). l.upto) (front m.lists) ∙ ap is_some (sym (map_front (λ (l : ActionList). l.upto) m.lists))

  pub enabled_same : (e : Event) → is_enabled_loaded l e ≡ is_enabled f (tokens (length s.setup.views) l) e
  enabled_same (Commit y) = commit_enabled y
  enabled_same (Answer y x) = answer_enabled y x
  enabled_same (Integrate y) = integrate_enabled y
  enabled_same (Manage x) = manage_enabled x
  enabled_same Rel = map_some (row_announced (length s.setup.views)) (front l.announcements) ∙ ap is_some (sym (map_front (row_announced (length s.setup.views)) l.announcements))
  enabled_same (Act x) = act_enabled x
  enabled_same Begin = ap (λ b. b && (l.store.phase % 2 == 0)) (same_waits s.setup l g)
  enabled_same Change = refl
  enabled_same Publish = refl
  enabled_same (SessionOpen v) = refl
  enabled_same (SessionScan v x) = refl
  enabled_same (SessionFetch v n) = refl
  enabled_same (SessionClose v) = refl

  pub full_same : (e : Event) → is_enabled_loaded l e ≡ true → is_full_for s.setup l e ≡ is_some (shortage_at f (tokens (length s.setup.views) l) e)
  full_same (Commit y) en = refl
  full_same (Answer y x) en = refl
  full_same (Integrate y) en = refl
  full_same (Manage x) en = refl
  full_same Rel en = refl
  full_same (Act x) en = refl
  full_same Begin en =
      let both = and_parts (is_some (front l.merge.transactions)) (l.store.phase % 2 == 0) en in
      let t = some_of (front l.merge.transactions) both.0 in
      (right t.0 t.1 (eqb-true (l.store.phase % 2) 0 both.1)).1
  full_same Change en = refl
  full_same Publish en = refl
  full_same (SessionOpen v) en = refl
  full_same (SessionScan v x) en = refl
  full_same (SessionFetch v n) en = refl
  full_same (SessionClose v) en = refl

  pub done_same : (e : Event) → (is_enabled_loaded l e && not (is_full_for s.setup l e)) ≡ is_done f (tokens (length s.setup.views) l) e
  done_same (Commit y) = ap (λ b. b && true) (enabled_same (Commit y))
  done_same (Answer y x) = ap (λ b. b && true) (enabled_same (Answer y x))
  done_same (Integrate y) = ap (λ b. b && true) (enabled_same (Integrate y))
  done_same (Manage x) = ap (λ b. b && true) (enabled_same (Manage x))
  done_same Rel = ap (λ b. b && true) (enabled_same Rel)
  done_same (Act x) = ap (λ b. b && true) (enabled_same (Act x))
  done_same Begin = elim (is_enabled_loaded l Begin) as (λ b. is_enabled_loaded l Begin ≡ b → (b && not (is_full_for s.setup l Begin)) ≡ (is_enabled f (tokens (length s.setup.views) l) Begin && not (is_some (shortage_at f (tokens (length s.setup.views) l) Begin)))) [
    | true ↦ λ e. ap not (full_same Begin e) ∙ ap (λ b. b && not (is_some (shortage_at f (tokens (length s.setup.views) l) Begin))) (sym e ∙ enabled_same Begin)
    | false ↦ λ e. ap (λ b. b && not (is_some (shortage_at f (tokens (length s.setup.views) l) Begin))) (sym e ∙ enabled_same Begin)
  ] refl
  done_same Change = refl
  done_same Publish = refl
  done_same (SessionOpen v) = refl
  done_same (SessionScan v x) = refl
  done_same (SessionFetch v n) = refl
  done_same (SessionClose v) = refl

  pub step_projects : (e : Event) → tokens (length s.setup.views) (step_loaded s.setup l e) ≡ step f (tokens (length s.setup.views) l) e
  step_projects e = elim (is_enabled_loaded l e && not (is_full_for s.setup l e)) as (λ b. (is_enabled_loaded l e && not (is_full_for s.setup l e)) ≡ b → tokens (length s.setup.views) (cond b (next_loaded s.setup l e) l) ≡ step f (tokens (length s.setup.views) l) e) [
    | true ↦ λ d. next_projects e (and_parts (is_enabled_loaded l e) (not (is_full_for s.setup l e)) d).0 ∙ ap (λ b. cond b (next f (tokens (length s.setup.views) l) e) (tokens (length s.setup.views) l)) (sym d ∙ done_same e)
    | false ↦ λ d. ap (λ b. cond b (next f (tokens (length s.setup.views) l) e) (tokens (length s.setup.views) l)) (sym d ∙ done_same e)
  ] refl

-- ---- the start

asks_none : (m : ℕ) → map (map ask_step) (replicate m []) ≡ replicate m []
asks_none zero = refl
asks_none (suc m) = ap (λ l. [] ∷ l) (asks_none m)

module _ (s : Script) (store : StoreState) (fw : FitsWork s) (fs : FitsStart s store) where
  start_sources : (k : ℕ) (ts : List (List Updates)) → map source_tokens (map_with_place (new_loaded_source s.setup) k ts) ≡ replicate (length (map (λ (t : List Updates). length t) ts)) (new_source (facts_of s))
  start_sources k [] = refl
  start_sources k (t ∷ ts) = ap₂ (λ asks l. record { commit_count = 0; messages = []; asks = asks; log = [] } ∷ l) (asks_none (length s.setup.views) ∙ ap (λ n. replicate n []) (sym (slots_are s))) (start_sources (suc k) ts)

  start_managers : (k : ℕ) (views : List View) → map manager_tokens (map_with_place new_loaded_manager k views) ≡ replicate (length views) new_manager
  start_managers k [] = refl
  start_managers k (v ∷ views) = ap (λ l. new_manager ∷ l) (start_managers (suc k) views)

  pub start_projects : tokens (length s.setup.views) (start_loaded s.setup s.work store) ≡ start (facts_of s)
  start_projects =
      ap₂ (λ ss ms. record (tokens (length s.setup.views) (start_loaded s.setup s.work store)) { sources = ss; managers = ms }) (start_sources 0 s.work) (start_managers 0 s.setup.views ∙ ap (λ n. replicate n new_manager) (sym (slots_are s)))
      ∙ (ap₂ (λ waiting zero_cut. record (start (facts_of s)) { merge = record { table = record { rows = []; last_announced = 0 }; waiting_lists = waiting; row_sets = [] }; writer = record { phase = store.phase; changes_left = changes_left store; earlier_cuts = []; cut = zero_cut; target_cut = zero_cut } })
      (ap (λ n. replicate n []) (sym (slots_are s))) (ap (λ n. replicate n 0) (sym (length-map s.work (λ (t : List Updates). length t) ∙ fs.sources)))
      ∙ ap₂ (λ phase changes. record (start (facts_of s)) { writer = record (start (facts_of s)).writer { phase = phase; changes_left = changes } }) fs.phase fs.changes)

  pub start_merge : FitsMerge s.setup (start_loaded s.setup s.work store)
  start_merge = record { lists_long = length-replicate {A = List ActionList} (length s.setup.views) []; sets = refl; level = λ e. refl }
