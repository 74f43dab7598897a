-- Each event does to the numbers of the pipeline what the machine does.
--
-- `commit_projects`, `answer_projects`, `integrate_reply_projects`, `integrate_update_projects`, `rel_projects`, `act_projects`, `begin_projects`, `change_projects`, `publish_projects`: the numbers (`tokens`) of the pipeline after an event are the machine's state after that event.
--
-- The idea: an event changes the contents at one place of each list, and so do its numbers. Each lemma takes the entry at the front of the queue as given, so that both sides compute. A message of a source is numbered by the commits before it: the count of commits less the transactions on their way.
--
-- Two lemmas carry it, of the changes of lists: `map_changed` (a change of an element as a change of its number) and `changes_are` (changes at several places in turn).
use Rattle.std.proofs.Common.{◌≡◌, ℕ, zero, suc, ◌+◌, ◌-◌, ◌≤◌, Bool, true, false, List, [], ◌∷◌, ◌++◌, length, map, take, Option, Some, None, cond, refl, sym, ap, ap₂, subst, ◌∙◌, arith}
use Rattle.std.specs.Prelude.{slice_get, filter, fold, ◌/◌, drop, if◌then◌else◌}
use Rattle.std.specs.Option.{option_and_then, option_map}
use Rattle.std.specs.List.{list_any, sum_by}
use Rattle.whips_lists.proofs.Options.{some_same}
use Rattle.whips_lists.specs.Lists.{changed_at, map_with_place, front, without_front, places_from}
use Rattle.whips_flow.specs.Facts.{Facts, view_places}
use Rattle.whips_flow.specs.State.{NumberedTransaction, sent_transaction, sent_answer, update, reply, oldest_message, oldest_ask, oldest_list, with_source, count_of_source}
use Rattle.whips_flow.specs.Effects.{after_commit, after_answer, without_message, with_manager_message, after_integrate as machine_integrate, after_rel as machine_rel, after_act as machine_act, after_begin as machine_begin, notified_manager, announcement_of, entry_of, row_of, without_list, without_row_set, with_announced_row, with_waiting_list}
use Rattle.whips_flow.specs.Progress.{next}
use Rattle.whips_flow.specs.declared.event.Event.TheVariants.{Commit, Answer, Integrate, Rel, Act, Begin, Change, Publish}
use Rattle.whips_flow.specs.Painted.{Row, white, black, has_number}
use Rattle.whips_flow.specs.Cuts.{cut_after}
use Rattle.whips_flow.specs.Settling.{settled_merge}
use Rattle.whips_paint.specs.Table.{new_entries}
use Rattle.whips_rel.specs.declared.update.Change.{Change as RowChange}
use Rattle.whips_states.specs.States.{Updates}
use Rattle.whips_view.specs.ViewDefs.{View}
use Rattle.whips_actions.specs.declared.action.ActionList.{ActionList}
use Rattle.whips_setup.specs.Setups.{SetupData}
use Rattle.whips_merge.specs.declared.lists.Transaction.{Transaction}
use Rattle.whips_merge.specs.Merging.{MergeState, with_transaction as set_made, with_list}
use Rattle.whips_query.specs.declared.asks.Ask.{Ask}
use Rattle.whips_query.specs.declared.asks.Reply.{Reply}
use Rattle.whips_store.specs.Stores.{ViewState, changes_left}
use Rattle.whips_store.specs.Calls.{begun, views_changed, changed_view}
use Rattle.whips_order.specs.declared.message.Message.{Message}
use Rattle.whips_order.specs.declared.message.Message.TheVariants.{Update, Reply as SentReply}
use Rattle.whips_order.specs.Numbering.{next_of, is_concerned, concerned_views}
use Rattle.whips_source.specs.Sites.{with_first_made, reply_on}
use Rattle.whips_faithful_laws.proofs.Shapes.{published_left}
use Rattle.whips_contents.specs.Contents.{numbered_transaction, reply_to_ask, LoadedSource, LoadedManager, LoadedPipeline, Announcement}
use Rattle.whips_contents.specs.Events.{source_after_commit, source_after_answer, source_after_oldest_ask, oldest_ask_to, without_oldest_message, with_input, sent_reply, next_loaded, after_integrate, all_with_input, announced, row_announced, after_announcement, after_list, after_begin, without_oldest_list, changes_of_transaction}
use Rattle.whips_contents.specs.Tokens.{ask_step, reply_step, transactions_in, message_tokens, source_tokens, input_token, manager_tokens, tokens}
use Rattle.whips_contents.proofs.Changes.{map_changed, map_behind, map_front, map_push, map_get, is_filled, any_is, map_places, passes, changes_are, all_changed, map_with_place_map, sum_first}

-- ---- messages

count_push : (ms more : List Message) → transactions_in (ms ++ more) ≡ transactions_in ms + transactions_in more
count_push [] more = omega arith
count_push (Update t ∷ ms) more = let c = count_push ms more in omega arith
count_push (SentReply r ∷ ms) more = count_push ms more

tokens_push : (k : ℕ) (ms more : List Message) → message_tokens k (ms ++ more) ≡ message_tokens k ms ++ message_tokens (k + transactions_in ms) more
tokens_push k [] more = let e : k ≡ k + 0 = omega arith in ap (λ n. message_tokens n more) e
tokens_push k (Update t ∷ ms) more = let e : suc k + transactions_in ms ≡ k + suc (transactions_in ms) = omega arith in ap (λ z. sent_transaction (suc k) ∷ z) (tokens_push (suc k) ms more ∙ ap (λ n. message_tokens (suc k) ms ++ message_tokens n more) e)
tokens_push k (SentReply r ∷ ms) more = ap (λ z. sent_answer r.view (reply_step r) ∷ z) (tokens_push k ms more)

abbrev left_of : ViewState → ℕ
left_of v = length v.left

-- ---- commit

commit_source : (s : LoadedSource) (t : Updates) (rest : List Updates) → s.site.left ≡ t ∷ rest → transactions_in s.messages ≤ s.site.commits → source_tokens (source_after_commit s) ≡ after_commit (source_tokens s)
commit_source s t rest e le =
    ap (λ l. source_tokens (record s { site = with_first_made l s.site; messages = s.messages ++ map (λ t. Update t) (take 1 l) })) e
    ∙ ap (λ ms. record { commit_count = suc s.site.commits; messages = ms; asks = map (map ask_step) s.asks; log = s.site.log })
    (tokens_push (suc s.site.commits - transactions_in (s.messages ++ Update t ∷ [])) s.messages (Update t ∷ []) ∙ ap₂ (λ a b. message_tokens a s.messages ++ sent_transaction (suc b) ∷ []) first last)
  where
    count : transactions_in (s.messages ++ Update t ∷ []) ≡ suc (transactions_in s.messages)
    count = let c = count_push s.messages (Update t ∷ []) in omega arith

    first : suc s.site.commits - transactions_in (s.messages ++ Update t ∷ []) ≡ s.site.commits - transactions_in s.messages
    first = let c = count in omega arith

    last : suc s.site.commits - transactions_in (s.messages ++ Update t ∷ []) + transactions_in s.messages ≡ s.site.commits
    last = let c = count in omega arith

pub commit_projects : (f : Facts) (s : SetupData) (n y : ℕ) (l : LoadedPipeline) → ((z : LoadedSource) → slice_get l.sources y ≡ Some z → (t : Updates) × (rest : List Updates) × (z.site.left ≡ t ∷ rest) × (transactions_in z.messages ≤ z.site.commits))
    → tokens n (next_loaded s l (Commit y)) ≡ next f (tokens n l) (Commit y)
commit_projects f s n y l h = ap (λ ss. record (tokens n l) { sources = ss }) (map_changed source_tokens source_after_commit after_commit y l.sources (λ z at. let k = h z at in commit_source z k.0 k.1 k.2 k.3))

-- ---- answer

answer_source : (x : ℕ) (s : LoadedSource) (a : Ask) (view : View) → a.view ≡ x → slice_get s.site.views a.view ≡ Some view → source_tokens (source_after_answer x (Some a) s) ≡ after_answer x (Some (ask_step a)) (source_tokens s)
answer_source x s a view own there =
    ap (λ o. source_tokens (record (source_after_answer x (Some a) s) { messages = s.messages ++ sent_reply o })) (ap (option_map (reply_on s.site.relations a)) there)
    ∙ ap₂ (λ ms qs. record { commit_count = s.site.commits; messages = ms; asks = qs; log = s.site.log ++ (a.view, ask_step a) ∷ [] }) sent asked
    ∙ ap (λ v. record (source_tokens s) { messages = message_tokens base s.messages ++ sent_answer v (ask_step a) ∷ []; asks = changed_at x without_front (map (map ask_step) s.asks); log = s.site.log ++ (v, ask_step a) ∷ [] }) own
  where
    r : Reply
    r = reply_on s.site.relations a view

    base : ℕ
    base = s.site.commits - transactions_in s.messages

    same : s.site.commits - transactions_in (s.messages ++ SentReply r ∷ []) ≡ base
    same = let c = count_push s.messages (SentReply r ∷ []) in omega arith

    sent : message_tokens (s.site.commits - transactions_in (s.messages ++ SentReply r ∷ [])) (s.messages ++ SentReply r ∷ []) ≡ message_tokens base s.messages ++ sent_answer a.view (ask_step a) ∷ []
    sent = ap (λ k. message_tokens k (s.messages ++ SentReply r ∷ [])) same ∙ tokens_push base s.messages (SentReply r ∷ [])

    asked : map (map ask_step) (changed_at x without_front s.asks) ≡ changed_at x without_front (map (map ask_step) s.asks)
    asked = map_changed (map ask_step) without_front without_front x s.asks (λ q at. map_behind ask_step q)

front_asked : (o : Option (List Ask)) (a : Ask) → option_and_then front o ≡ Some a → option_and_then front (option_map (map ask_step) o) ≡ Some (ask_step a)
front_asked None a e = absurd (cc)
front_asked (Some q) a e = map_front ask_step q ∙ ap (option_map ask_step) e

module _ (f : Facts) (s : SetupData) (n : ℕ) (l : LoadedPipeline) where
  pub answer_projects : (y x : ℕ) (z : LoadedSource) (a : Ask) (view : View) → slice_get l.sources y ≡ Some z → oldest_ask_to x z ≡ Some a → a.view ≡ x → slice_get z.site.views a.view ≡ Some view
      → tokens n (next_loaded s l (Answer y x)) ≡ next f (tokens n l) (Answer y x)
  answer_projects y x z a view at ask own there =
      ap (λ ss. record (tokens n l) { sources = ss }) (map_changed source_tokens (source_after_oldest_ask x) (after_answer x (Some (ask_step a))) y l.sources here)
      ∙ ap (λ o. with_source y (after_answer x o) (tokens n l)) (sym oldest)
    where
      here : (w : LoadedSource) → slice_get l.sources y ≡ Some w → source_tokens (source_after_oldest_ask x w) ≡ after_answer x (Some (ask_step a)) (source_tokens w)
      here w e =
          let same : z ≡ w = some_same z w (sym at ∙ e) in
          subst (λ w. source_tokens (source_after_oldest_ask x w) ≡ after_answer x (Some (ask_step a)) (source_tokens w)) same (ap (λ o. source_tokens (source_after_answer x o z)) ask ∙ answer_source x z a view own there)

      oldest : oldest_ask (tokens n l) y x ≡ Some (ask_step a)
      oldest =
          ap (λ o. option_and_then (λ s. option_and_then front (slice_get s.asks x)) o) (map_get source_tokens l.sources y ∙ ap (option_map source_tokens) at)
          ∙ (ap (λ o. option_and_then front o) (map_get (map ask_step) z.asks x) ∙ front_asked (slice_get z.asks x) a ask)

  -- ---- integrate

  pop_tokens : (c : ℕ) (ms : List Message) → transactions_in ms ≤ c → message_tokens (c - transactions_in (without_front ms)) (without_front ms) ≡ without_front (message_tokens (c - transactions_in ms) ms)
  pop_tokens c [] le = refl
  pop_tokens c (Update t ∷ ms) le = let e : c - transactions_in ms ≡ suc (c - suc (transactions_in ms)) = omega (arith, le) in ap (λ k. message_tokens k ms) e
  pop_tokens c (SentReply r ∷ ms) le = refl

  popped : (y : ℕ) (z : LoadedSource) → slice_get l.sources y ≡ Some z → transactions_in z.messages ≤ z.site.commits → map source_tokens (changed_at y without_oldest_message l.sources) ≡ changed_at y without_message (map source_tokens l.sources)
  popped y z at le = map_changed source_tokens without_oldest_message without_message y l.sources (λ w e.
      let same : z ≡ w = some_same z w (sym at ∙ e) in
      subst (λ w. source_tokens (without_oldest_message w) ≡ without_message (source_tokens w)) same (ap (λ ms. record (source_tokens z) { messages = ms }) (pop_tokens z.site.commits z.messages le)))

  first_token : (y : ℕ) (z : LoadedSource) (m : Message) → slice_get l.sources y ≡ Some z → front z.messages ≡ Some m → oldest_message (tokens n l) y ≡ front (message_tokens (z.site.commits - transactions_in z.messages) z.messages)
  first_token y z m at first = ap (λ o. option_and_then (λ s. front s.messages) o) (map_get source_tokens l.sources y ∙ ap (option_map source_tokens) at)

  front_token : (k : ℕ) (ms : List Message) (m : Message) → front ms ≡ Some m → front (message_tokens k ms) ≡ front (message_tokens k (m ∷ []))
  front_token k [] m e = absurd (cc)
  front_token k (Update t ∷ ms) m e = ap (λ m. front (message_tokens k (m ∷ []))) (some_same (Update t) m e)
  front_token k (SentReply r ∷ ms) m e = ap (λ m. front (message_tokens k (m ∷ []))) (some_same (SentReply r) m e)

  pub integrate_reply_projects : (y : ℕ) (z : LoadedSource) (r : Reply) → slice_get l.sources y ≡ Some z → front z.messages ≡ Some (SentReply r) → transactions_in z.messages ≤ z.site.commits
      → tokens n (next_loaded s l (Integrate y)) ≡ next f (tokens n l) (Integrate y)
  integrate_reply_projects y z r at first le =
      ap (λ o. tokens n (after_integrate s y o l)) (ap (λ o. option_and_then (λ s. front s.messages) o) at ∙ first)
      ∙ (ap₂ (λ ss ms. record (tokens n l) { sources = ss; managers = ms }) (popped y z at le) (map_changed manager_tokens (with_input (reply_to_ask r)) (with_manager_message (reply (reply_step r))) r.view l.managers (λ m e. ap (λ ms. record (manager_tokens m) { messages = ms }) (map_push input_token m.messages (reply_to_ask r ∷ []))))
      ∙ ap (λ o. machine_integrate f y o (with_source y without_message (tokens n l))) (sym (first_token y z (SentReply r) at first ∙ front_token (z.site.commits - transactions_in z.messages) z.messages (SentReply r) first)))

  module _ (views : length s.views ≡ n) (slots : length f.slots ≡ n) (managers : length l.managers ≡ n) (y : ℕ) (t : Updates)
      (agree : (x : ℕ) → f.concerns y (suc (count_of_source l.numbering y)) x ≡ is_concerned t (slice_get s.views x)) where
    new : NumberedTransaction
    new = next_of l.numbering y

    P : ℕ → Bool
    P x = is_concerned t (slice_get s.views x)

    Q : ℕ → Bool
    Q x = f.concerns y (suc (count_of_source l.numbering y)) x

    notified : map manager_tokens (all_with_input (numbered_transaction (next_of l.numbering y) t) l.managers (concerned_views s.views t)) ≡ map_with_place (notified_manager f (next_of l.numbering y)) 0 (map manager_tokens l.managers)
    notified =
        ap (λ k. map manager_tokens (all_with_input (numbered_transaction (next_of l.numbering y) t) l.managers (filter (λ x. is_concerned t (slice_get s.views x)) (places_from 0 k)))) (views ∙ sym managers)
        ∙ (ap (map manager_tokens) (changes_are (λ x. is_concerned t (slice_get s.views x)) (with_input (numbered_transaction (next_of l.numbering y) t)) l.managers)
        ∙ map_with_place_map manager_tokens (all_changed (λ x. is_concerned t (slice_get s.views x)) (with_input (numbered_transaction (next_of l.numbering y) t))) (notified_manager f (next_of l.numbering y)) 0 l.managers one)
      where
        one : (x : ℕ) (m : LoadedManager) → manager_tokens (all_changed (λ x. is_concerned t (slice_get s.views x)) (with_input (numbered_transaction (next_of l.numbering y) t)) x m) ≡ notified_manager f (next_of l.numbering y) x (manager_tokens m)
        one x m = elim (is_concerned t (slice_get s.views x)) as (λ b. f.concerns y (suc (count_of_source l.numbering y)) x ≡ b → manager_tokens (cond b (with_input (numbered_transaction (next_of l.numbering y) t) m) m) ≡ notified_manager f (next_of l.numbering y) x (manager_tokens m)) [
          | true ↦ λ e. ap (λ ms. record (manager_tokens m) { messages = ms }) (map_push input_token m.messages (numbered_transaction (next_of l.numbering y) t ∷ [])) ∙ ap (λ b. cond b (with_manager_message (update (next_of l.numbering y)) (manager_tokens m)) (manager_tokens m)) (sym e)
          | false ↦ λ e. ap (λ b. cond b (with_manager_message (update (next_of l.numbering y)) (manager_tokens m)) (manager_tokens m)) (sym e)
        ] (agree x)

    announces : map (row_announced n) (announced (next_of l.numbering y) (concerned_views s.views t)) ≡ announcement_of f (next_of l.numbering y)
    announces = go (concerned_views s.views t) any entries
      where
        same : (k m : ℕ) → filter (λ x. is_concerned t (slice_get s.views x)) (places_from k m) ≡ filter (λ x. f.concerns y (suc (count_of_source l.numbering y)) x) (places_from k m)
        same k zero = refl
        same k (suc m) = ap₂ (λ b xs. cond b (k ∷ xs) xs) (sym (agree k)) (same (suc k) m)

        any : list_any (λ x. f.concerns y (suc (count_of_source l.numbering y)) x) (view_places f) ≡ is_filled (concerned_views s.views t)
        any = any_is (λ x. f.concerns y (suc (count_of_source l.numbering y)) x) (view_places f) ∙ ap is_filled (sym (same 0 (length f.slots)) ∙ ap (λ k. filter (λ x. is_concerned t (slice_get s.views x)) (places_from 0 k)) (slots ∙ sym views))

        entries : new_entries n (concerned_views s.views t) ≡ map (λ x. entry_of (f.concerns y (suc (count_of_source l.numbering y)) x)) (view_places f)
        entries =
            map_places (λ x. if has_number (concerned_views s.views t) x then white else black) (λ x. entry_of (f.concerns y (suc (count_of_source l.numbering y)) x)) 0 n (λ x a b. colour (has_number (concerned_views s.views t) x) (f.concerns y (suc (count_of_source l.numbering y)) x) (passes (λ x. is_concerned t (slice_get s.views x)) (length s.views) x (omega (arith, b, views)) ∙ sym (agree x)))
            ∙ ap (λ k. map (λ x. entry_of (f.concerns y (suc (count_of_source l.numbering y)) x)) (places_from 0 k)) (sym slots)
          where
            colour : (b c : Bool) → b ≡ c → cond b white black ≡ entry_of c
            colour true c e = ap entry_of e
            colour false c e = ap entry_of e

        go : (w : List ℕ) → list_any (λ x. f.concerns y (suc (count_of_source l.numbering y)) x) (view_places f) ≡ is_filled w → new_entries n w ≡ map (λ x. entry_of (f.concerns y (suc (count_of_source l.numbering y)) x)) (view_places f) → map (row_announced n) (announced (next_of l.numbering y) w) ≡ announcement_of f (next_of l.numbering y)
        go [] e h = ap (λ b. cond b (row_of f (next_of l.numbering y) ∷ []) []) (sym e)
        go (x ∷ w) e h = ap (λ es. record { number = suc (length l.numbering); source = y; place = suc (count_of_source l.numbering y); entries = es } ∷ []) h ∙ ap (λ b. cond b (row_of f (next_of l.numbering y) ∷ []) []) (sym e)

    pub integrate_update_projects : (z : LoadedSource) → slice_get l.sources y ≡ Some z → front z.messages ≡ Some (Update t) → transactions_in z.messages ≤ z.site.commits → z.site.commits - transactions_in z.messages ≡ count_of_source l.numbering y
        → tokens n (next_loaded s l (Integrate y)) ≡ next f (tokens n l) (Integrate y)
    integrate_update_projects z at first le base =
        ap (λ o. tokens n (after_integrate s y o l)) (ap (λ o. option_and_then (λ s. front s.messages) o) at ∙ first)
        ∙ (ap (λ ss. record (tokens n l) { sources = ss; numbering = l.numbering ++ next_of l.numbering y ∷ []; managers = map manager_tokens (all_with_input (numbered_transaction (next_of l.numbering y) t) l.managers (concerned_views s.views t)); announcements = map (row_announced n) (l.announcements ++ announced (next_of l.numbering y) (concerned_views s.views t)) }) (popped y z at le)
        ∙ (ap₂ (λ ms rs. record (with_source y without_message (tokens n l)) { numbering = l.numbering ++ next_of l.numbering y ∷ []; managers = ms; announcements = rs }) notified (map_push (row_announced n) l.announcements (announced (next_of l.numbering y) (concerned_views s.views t)) ∙ ap (λ rs. map (row_announced n) l.announcements ++ rs) announces)
        ∙ (ap (λ k. machine_integrate f y (Some (sent_transaction (suc k))) (with_source y without_message (tokens n l))) (sym base)
        ∙ ap (λ o. machine_integrate f y o (with_source y without_message (tokens n l))) (sym (first_token y z (Update t) at first ∙ front_token (z.site.commits - transactions_in z.messages) z.messages (Update t) first)))))

  -- ---- rel, act

  made_merge : (sets : List (List Row)) (m : MergeState) → (fold set_made m sets).merge ≡ m.merge
  made_merge [] m = refl
  made_merge (rows ∷ sets) m = made_merge sets (set_made m rows)

  pub rel_projects : (a : Announcement) → front l.announcements ≡ Some a → length l.merge.lists ≡ n → tokens n (next_loaded s l Rel) ≡ next f (tokens n l) Rel
  rel_projects a first views =
      ap (λ o. tokens n (after_announcement o l)) first
      ∙ (ap₂ (λ rs m. record (tokens n l) { announcements = rs; merge = m }) (map_behind (row_announced n) l.announcements)
      (made_merge (drop (length l.merge.merge.row_sets) (settled_merge (with_announced_row (row_announced (length l.merge.lists) a) l.merge.merge)).row_sets) (record (l.merge) { merge = settled_merge (with_announced_row (row_announced (length l.merge.lists) a) l.merge.merge) }) ∙ ap (λ k. settled_merge (with_announced_row (row_announced k a) l.merge.merge)) views)
      ∙ ap (λ o. machine_rel o (tokens n l)) (sym (map_front (row_announced n) l.announcements ∙ ap (option_map (row_announced n)) first)))

  upto_of : ActionList → ℕ
  upto_of list = list.upto

  pub act_projects : (x : ℕ) (m : LoadedManager) (list : ActionList) → slice_get l.managers x ≡ Some m → front m.lists ≡ Some list → list.view ≡ x → tokens n (next_loaded s l (Act x)) ≡ next f (tokens n l) (Act x)
  act_projects x m list at first own =
      ap (λ o. tokens n (after_list x o l)) (ap (λ o. option_and_then (λ m. front m.lists) o) at ∙ first)
      ∙ (ap₂ (λ ms g. record (tokens n l) { managers = ms; merge = g }) (map_changed manager_tokens without_oldest_list without_list x l.managers (λ w e. ap (λ ls. record (manager_tokens w) { lists = ls }) (map_behind (λ (l : ActionList). l.upto) w.lists)))
      (made_merge (drop (length l.merge.merge.row_sets) (settled_merge (with_waiting_list list.view list.upto l.merge.merge)).row_sets) (record (with_list list l.merge) { merge = settled_merge (with_waiting_list list.view list.upto l.merge.merge) }) ∙ ap (λ v. settled_merge (with_waiting_list v list.upto l.merge.merge)) own)
      ∙ ap (λ o. machine_act x o (tokens n l)) (sym oldest))
    where
      oldest : oldest_list (tokens n l) x ≡ Some list.upto
      oldest = ap (λ o. option_and_then (λ m. front m.lists) o) (map_get manager_tokens l.managers x ∙ ap (option_map manager_tokens) at) ∙ (map_front (λ (l : ActionList). l.upto) m.lists ∙ ap (option_map (λ (l : ActionList). l.upto)) first)

  -- ---- the writer

  pub begin_projects : (t : Transaction) (set : List Row) → front l.merge.transactions ≡ Some t → front l.merge.merge.row_sets ≡ Some set → t.cut ≡ cut_after l.cut set
      → changes_left (begun (changes_of_transaction s l.store t) l.store) ≡ f.change_count l.cut t.cut → tokens n (next_loaded s l Begin) ≡ next f (tokens n l) Begin
  begin_projects t set first waits cut count =
      ap (λ o. tokens n (after_begin s o l)) first
      ∙ (ap (λ c. record (tokens n l) { merge = without_row_set l.merge.merge; writer = record { phase = suc l.store.phase; changes_left = c; earlier_cuts = l.earlier_cuts; cut = l.cut; target_cut = t.cut } }) count
      ∙ ap (λ o. machine_begin f o (tokens n l)) (sym (ap (λ o. option_and_then (λ set. Some (cut_after l.cut set)) o) waits ∙ ap Some (sym cut))))

  change_count : (k c : ℕ) (vs : List ViewState) → sum_by (λ (v : ViewState). length v.left) (views_changed k c vs) ≡ sum_by (λ (v : ViewState). length v.left) vs - 1
  change_count k c [] = refl
  change_count k c (v ∷ vs) = go (change_count k c vs) v.left refl
    where
      go : sum_by left_of (views_changed k c vs) ≡ sum_by left_of vs - 1 → (left : List RowChange) → v.left ≡ left
          → sum_by left_of (elim left [ [] ↦ v ∷ views_changed k c vs | change ∷ others ↦ changed_view k c change others v ∷ vs ]) ≡ sum_by left_of (v ∷ vs) - 1
      go ih [] e = let z = ap length e in omega (arith, z, ih, sum_first left_of v vs, sum_first left_of v (views_changed k c vs))
      go ih (change ∷ others) e = let z = ap length e in omega (arith, z, sum_first left_of v vs, sum_first left_of (changed_view k c change others v) vs)

  pub change_projects : tokens n (next_loaded s l Change) ≡ next f (tokens n l) Change
  change_projects = ap (λ c. record (tokens n l) { writer = record (tokens n l).writer { changes_left = c } }) (change_count l.store.versions (l.store.phase / 2) l.store.views)

  pub publish_projects : tokens n (next_loaded s l Publish) ≡ next f (tokens n l) Publish
  publish_projects = ap (λ c. record (tokens n l) { writer = record { phase = suc l.store.phase; changes_left = c; earlier_cuts = l.earlier_cuts ++ l.cut ∷ []; cut = l.target_cut; target_cut = l.target_cut } }) (published_left l.store.views)
