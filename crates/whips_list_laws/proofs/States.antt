-- The relations of the contents are states at cuts.
--
-- `relations_are_states`: the relations after the numbered transactions are the state at their cut; `sources_stand`: each source has its own relations as in the state at its count of commits; `lists_are_right`: each list on its way takes the view's value at one cut to that at another.
--
-- The idea: transactions of different sources change different relations. So the state at a cut has each source's relations as its own transactions make them, whatever their order among the others, and the numbering takes each source's in turn.
--
-- Three lemmas carry it: `relations_are` (an induction over the numbered transactions), `order_after` (the numbering stays in order) and `value_is_at` (values after a prefix are values at its cut).
use Rattle.std.proofs.Common.{◌≡◌, ◌≢◌, ℕ, zero, suc, ◌+◌, ◌-◌, ◌<◌, ◌≤◌, ◌==◌, ◌&&◌, Bool, true, false, not, cond, List, [], ◌∷◌, ◌++◌, length, map, take, Option, Some, None, slice_get, refl, sym, ap, ap₂, subst, ◌∙◌, arith, eqb-true, append_assoc, append-nil}
use Rattle.std.specs.Prelude.{slice_index}
use Rattle.std.specs.Option.{option_and_then, unwrap_or}
use Rattle.std.proofs.lemmas.Bool.{eqb-false}
use Rattle.whips_lists.proofs.ByPlace.{get_within}
use Rattle.whips_lists.proofs.Options.{some_same}
use Rattle.whips_lists.specs.Lists.{places_from, front, changed_at}
use Rattle.whips_flow.specs.State.{NumberedTransaction, count_of_source}
use Rattle.whips_flow.specs.declared.event.Event.{Event}
use Rattle.whips_flow.specs.declared.event.Event.TheVariants.{Commit, Answer, Integrate, Manage, Rel, Act, Begin, Change, Publish, SessionOpen, SessionScan, SessionFetch, SessionClose}
use Rattle.whips_model.specs.Relation.{Table, value_of}
use Rattle.whips_rel.specs.declared.update.Update.TheVariants.{Insert, Delete}
use Rattle.whips_states.specs.States.{Updates, with_row, without_row, updated, applied, all_applied, state_at}
use Rattle.whips_view.specs.ViewDefs.{View, keyed}
use Rattle.whips_actions.specs.Acts.{applied as made}
use Rattle.whips_actions.specs.declared.action.ActionList.{ActionList}
use Rattle.whips_setup.specs.Setups.{SetupData}
use Rattle.whips_facts.specs.Scripts.{Script, transaction_at, value_at, view_at}
use Rattle.whips_facts.specs.Values.{prefix_cut}
use Rattle.whips_merge.specs.declared.lists.Transaction.{Transaction}
use Rattle.whips_query.specs.declared.asks.Reply.{Reply}
use Rattle.whips_store.specs.Stores.{StoreState}
use Rattle.whips_order.specs.Numbering.{next_of}
use Rattle.whips_order.specs.declared.message.Message.{Message}
use Rattle.whips_order.specs.declared.message.Message.TheVariants.{Update as SentUpdate, Reply as SentReply}
use Rattle.whips_source.specs.Sites.{SiteState, AreOf}
use Rattle.whips_value_laws.proofs.Whole.{past_the_end}
use Rattle.whips_contents.specs.Contents.{ManagerInput, Announcement, LoadedManager, LoadedPipeline, start_loaded}
use Rattle.whips_contents.specs.Events.{after_integrate, after_input, after_manage, after_announcement, after_list, after_begin, oldest_message, oldest_list, is_enabled_loaded, is_full_for, next_loaded, step_loaded, after_loaded}
use Rattle.whips_contents.specs.Tokens.{tokens}
use Rattle.whips_contents.proofs.Changes.{map_push}
use Rattle.whips_stage_laws.proofs.Setups.{view_there}
use Rattle.whips_stage_laws.proofs.Sources.{count_push}
use Rattle.whips_stage_laws.specs.Fits.{content, relations_after, transactions_of, AgreeAt, IsOwn, MessagesFit, value_after, ListsFit, FitsWork}
use Rattle.whips_stage_laws.proofs.Agree.{agree_trans, agree_applied, agree_foreign, applied_push}
use Rattle.whips_contents_laws.proofs.Kept.{contents_fit}
use Rattle.whips_list_laws.specs.States.{AreInOrder, cut_of, RelationsAreStates, SourcesStand, AreRight, ListsAreRight}

-- ---- lists that agree at each place

same_lists : {A : Type 0} (xs ys : List A) → ((i : ℕ) → slice_get xs i ≡ slice_get ys i) → xs ≡ ys
same_lists [] [] h = refl
same_lists [] (y ∷ ys) h = let e : None ≡ Some y = h 0 in absurd (cc (e))
same_lists (x ∷ xs) [] h = let e : Some x ≡ None = h 0 in absurd (cc (e))
same_lists (x ∷ xs) (y ∷ ys) h = ap₂ (λ a b. a ∷ b) (some_same x y (h 0)) (same_lists xs ys (λ i. h (suc i)))

past_none : {A : Type 0} (xs : List A) (i : ℕ) → slice_get xs i ≡ None → length xs ≤ i
past_none [] i e = omega arith
past_none (x ∷ xs) zero e = absurd (cc)
past_none (x ∷ xs) (suc i) e = omega (arith, past_none xs i e)

changed_long : (f : Table → Table) (i : ℕ) (db : List Table) → length (changed_at i f db) ≡ length db
changed_long f i [] = refl
changed_long f zero (t ∷ db) = refl
changed_long f (suc i) (t ∷ db) = ap suc (changed_long f i db)

applied_long : (t : Updates) (db : List Table) → length (applied db t) ≡ length db
applied_long [] db = refl
applied_long (Insert r u ∷ t) db = applied_long t (updated db (Insert r u)) ∙ changed_long (with_row u) r db
applied_long (Delete r u ∷ t) db = applied_long t (updated db (Delete r u)) ∙ changed_long (without_row u) r db

all_long : (ts : List Updates) (db : List Table) → length (all_applied db ts) ≡ length db
all_long [] db = refl
all_long (t ∷ ts) db = all_long ts (applied db t) ∙ applied_long t db

state_long : (work : List (List Updates)) (cut : List ℕ) (db : List Table) → length (state_at db work cut) ≡ length db
state_long [] cut db = refl
state_long (ts ∷ work) [] db = refl
state_long (ts ∷ work) (c ∷ cut) db = state_long work cut (all_applied db (take c ts)) ∙ all_long (take c ts) db

-- ---- one source's transactions

module _ (homes : List ℕ) where
  all_alike : (y : ℕ) (ts : List Updates) (db others : List Table) → AgreeAt homes y db others → AgreeAt homes y (all_applied db ts) (all_applied others ts)
  all_alike y [] db others a = a
  all_alike y (t ∷ ts) db others a = all_alike y ts (applied db t) (applied others t) (agree_applied homes y t db others a)

  all_foreign : (y z : ℕ) (ts : List Updates) (db : List Table) → z ≢ y → AreOf homes z ts → AgreeAt homes y (all_applied db ts) db
  all_foreign y z [] db ne own r e = refl
  all_foreign y z (t ∷ ts) db ne own r e = all_foreign y z ts (applied db t) ne own.1 r e ∙ agree_foreign homes y z t db ne own.0 r e

  own_take : (y n : ℕ) (ts : List Updates) → AreOf homes y ts → AreOf homes y (take n ts)
  own_take y zero ts h = tt
  own_take y (suc n) [] h = tt
  own_take y (suc n) (t ∷ ts) h = (h.0, own_take y n ts h.1)

  -- the state at a cut has one source's relations as its own transactions make them
  states_foreign : (y base : ℕ) (work : List (List Updates)) (cut : List ℕ) (db : List Table) → y < base → ((i : ℕ) (ts : List Updates) → slice_get work i ≡ Some ts → AreOf homes (base + i) ts) → AgreeAt homes y (state_at db work cut) db
  states_foreign y base [] cut db lt own r e = refl
  states_foreign y base (ts ∷ work) [] db lt own r e = refl
  states_foreign y base (ts ∷ work) (c ∷ cut) db lt own r e =
      states_foreign y (suc base) work cut (all_applied db (take c ts)) (omega (arith, lt)) (λ i us at. let z : base + suc i ≡ suc base + i = omega arith in subst (λ n. AreOf homes n us) z (own (suc i) us at)) r e
      ∙ all_foreign y base (take c ts) db (λ e. omega (arith, e, lt)) (own_take base c ts (let z : base + 0 ≡ base = omega arith in subst (λ n. AreOf homes n ts) z (own 0 ts refl))) r e

  states_own : (base i : ℕ) (work : List (List Updates)) (cut : List ℕ) (db : List Table) → length cut ≡ length work → ((i : ℕ) (ts : List Updates) → slice_get work i ≡ Some ts → AreOf homes (base + i) ts)
      → AgreeAt homes (base + i) (state_at db work cut) (all_applied db (take (slice_index cut i) (unwrap_or (slice_get work i) [])))
  states_own base i [] cut db long own r e = ap (λ ts. slice_get (all_applied db ts) r) (none_taken (slice_index cut i))
    where
      none_taken : (n : ℕ) → [] ≡ take {A = Updates} n []
      none_taken zero = refl
      none_taken (suc n) = refl
  states_own base i (ts ∷ work) [] db long own r e = absurd (omega (arith, long))
  states_own base zero (ts ∷ work) (c ∷ cut) db long own r e =
      states_foreign (base + 0) (suc base) work cut (all_applied db (take c ts)) (omega arith) (λ i us at. let z : base + suc i ≡ suc base + i = omega arith in subst (λ n. AreOf homes n us) z (own (suc i) us at)) r e
  states_own base (suc i) (ts ∷ work) (c ∷ cut) db long own r e =
      let z : base + suc i ≡ suc base + i = omega arith in
      let here = subst (λ n. slice_get homes r ≡ Some n) z e in
      states_own (suc base) i work cut (all_applied db (take c ts)) (omega (arith, long)) (λ j us at. let w : base + suc j ≡ suc base + j = omega arith in subst (λ n. AreOf homes n us) w (own (suc j) us at)) r here
      ∙ all_alike (base + suc i) (take (slice_index cut i) (unwrap_or (slice_get work i) [])) (all_applied db (take c ts)) db
      (all_foreign (base + suc i) base (take c ts) db (λ e. omega (arith, e)) (own_take base c ts (let w : base + 0 ≡ base = omega arith in subst (λ n. AreOf homes n ts) w (own 0 ts refl)))) r e

-- ---- numbered transactions

take_step : (db : List Table) (n : ℕ) (ts : List Updates) → all_applied db (take (suc n) ts) ≡ applied (all_applied db (take n ts)) (unwrap_or (slice_get ts n) [])
take_step db zero [] = refl
take_step db zero (t ∷ ts) = refl
take_step db (suc n) [] = refl
take_step db (suc n) (t ∷ ts) = take_step (applied db t) n ts

module _ (s : Script) (fw : FitsWork s) where
  transaction_is : (y n : ℕ) → transaction_at s y (suc n) ≡ unwrap_or (slice_get (transactions_of s y) n) []
  transaction_is y n = go (slice_get s.work y)
    where
      go : (o : Option (List Updates)) → unwrap_or (option_and_then (λ ts. slice_get ts (suc n - 1)) o) [] ≡ unwrap_or (slice_get (unwrap_or o []) n) []
      go None = refl
      go (Some ts) = let one : suc n - 1 ≡ n = omega arith in ap (λ k. unwrap_or (slice_get ts k) []) one

  own_transactions : (y : ℕ) → AreOf s.setup.homes y (transactions_of s y)
  own_transactions y = go (slice_get s.work y) refl
    where
      go : (o : Option (List Updates)) → slice_get s.work y ≡ o → AreOf s.setup.homes y (unwrap_or o [])
      go None e = tt
      go (Some ts) e = (fw.transactions y ts e).own

  own_content : (y n : ℕ) → IsOwn s.setup.homes y (transaction_at s y (suc n))
  own_content y n = subst (IsOwn s.setup.homes y) (sym (transaction_is y n)) (go n (transactions_of s y) (own_transactions y))
    where
      go : (n : ℕ) (ts : List Updates) → AreOf s.setup.homes y ts → IsOwn s.setup.homes y (unwrap_or (slice_get ts n) [])
      go n [] h = tt
      go zero (t ∷ ts) h = h.0
      go (suc n) (t ∷ ts) h = go n ts h.1

  numbered_own : (y : ℕ) (ks before : List NumberedTransaction) → AreInOrder before ks → AgreeAt s.setup.homes y (relations_after s before) (all_applied s.setup.initial (take (count_of_source before y) (transactions_of s y)))
      → AgreeAt s.setup.homes y (relations_after s (before ++ ks)) (all_applied s.setup.initial (take (count_of_source (before ++ ks) y) (transactions_of s y)))
  numbered_own y [] before h a = subst (λ l. AgreeAt s.setup.homes y (relations_after s l) (all_applied s.setup.initial (take (count_of_source l y) (transactions_of s y)))) (sym (append-nil before)) a
  numbered_own y (k ∷ ks) before h a =
      subst (λ l. AgreeAt s.setup.homes y (relations_after s l) (all_applied s.setup.initial (take (count_of_source l y) (transactions_of s y)))) (append_assoc before (k ∷ []) ks)
      (numbered_own y ks (before ++ k ∷ []) h.2 (go (k.source == y) refl))
    where
      next : relations_after s (before ++ k ∷ []) ≡ applied (relations_after s before) (transaction_at s k.source (suc (count_of_source before k.source)))
      next = ap (all_applied s.setup.initial) (map_push (content s) before (k ∷ [])) ∙ (applied_push s.setup.initial (map (content s) before) (content s k) ∙ ap (λ n. applied (relations_after s before) (transaction_at s k.source n)) h.1)

      go : (b : Bool) → (k.source == y) ≡ b → AgreeAt s.setup.homes y (relations_after s (before ++ k ∷ [])) (all_applied s.setup.initial (take (count_of_source (before ++ k ∷ []) y) (transactions_of s y)))
      go true e =
          let same : k.source ≡ y = eqb-true k.source y e in
          let c = count_push before k y in let d = ap {B = ℕ} (λ b. cond b 1 0) e in
          let count : count_of_source (before ++ k ∷ []) y ≡ suc (count_of_source before y) = omega (arith, c, d) in
          let made_by : transaction_at s k.source (suc (count_of_source before k.source)) ≡ unwrap_or (slice_get (transactions_of s y) (count_of_source before y)) [] = ap (λ z. transaction_at s z (suc (count_of_source before z))) same ∙ transaction_is y (count_of_source before y) in
          agree_trans s.setup.homes y (relations_after s (before ++ k ∷ [])) (applied (relations_after s before) (transaction_at s k.source (suc (count_of_source before k.source)))) (all_applied s.setup.initial (take (count_of_source (before ++ k ∷ []) y) (transactions_of s y)))
          (λ r g. ap (λ db. slice_get db r) next)
          (agree_trans s.setup.homes y (applied (relations_after s before) (transaction_at s k.source (suc (count_of_source before k.source)))) (applied (all_applied s.setup.initial (take (count_of_source before y) (transactions_of s y))) (transaction_at s k.source (suc (count_of_source before k.source)))) (all_applied s.setup.initial (take (count_of_source (before ++ k ∷ []) y) (transactions_of s y)))
          (agree_applied s.setup.homes y (transaction_at s k.source (suc (count_of_source before k.source))) (relations_after s before) (all_applied s.setup.initial (take (count_of_source before y) (transactions_of s y))) a)
          (λ r g. ap (λ db. slice_get db r) (ap (applied (all_applied s.setup.initial (take (count_of_source before y) (transactions_of s y)))) made_by ∙ (sym (take_step s.setup.initial (count_of_source before y) (transactions_of s y)) ∙ ap (λ n. all_applied s.setup.initial (take n (transactions_of s y))) (sym count)))))
      go false e =
          let c = count_push before k y in let d = ap {B = ℕ} (λ b. cond b 1 0) e in
          let count : count_of_source before y ≡ count_of_source (before ++ k ∷ []) y = omega (arith, c, d) in
          λ r g. ap (λ db. slice_get db r) next ∙ (agree_foreign s.setup.homes y k.source (transaction_at s k.source (suc (count_of_source before k.source))) (relations_after s before) (eqb-false k.source y e) (own_content k.source (count_of_source before k.source)) r g ∙ (a r g ∙ ap (λ n. slice_get (all_applied s.setup.initial (take n (transactions_of s y))) r) count))

  cut_long : (k n : ℕ) (ks : List NumberedTransaction) → length (map (count_of_source ks) (places_from k n)) ≡ n
  cut_long k zero ks = refl
  cut_long k (suc n) ks = ap suc (cut_long (suc k) n ks)

  cut_at : (k n i : ℕ) (ks : List NumberedTransaction) → i < n → slice_index (map (count_of_source ks) (places_from k n)) i ≡ count_of_source ks (k + i)
  cut_at k zero i ks lt = absurd (omega (arith, lt))
  cut_at k (suc n) zero ks lt = let e : k ≡ k + 0 = omega arith in ap (count_of_source ks) e
  cut_at k (suc n) (suc i) ks lt = let e : suc k + i ≡ k + suc i = omega arith in cut_at (suc k) n i ks (omega (arith, lt)) ∙ ap (count_of_source ks) e

  pub relations_are : (ks : List NumberedTransaction) → length s.setup.homes ≡ length s.setup.initial → AreInOrder [] ks → relations_after s ks ≡ state_at s.setup.initial s.work (cut_of (length s.work) ks)
  relations_are ks long order = same_lists (relations_after s ks) (state_at s.setup.initial s.work (cut_of (length s.work) ks)) (λ r. go r (slice_get s.setup.homes r) refl)
    where
      taken_same : (y : ℕ) → take (count_of_source ks y) (transactions_of s y) ≡ take (slice_index (cut_of (length s.work) ks) y) (transactions_of s y)
      taken_same y = by (slice_get s.work y) refl
        where
          none_taken : (n m : ℕ) → take {A = Updates} n [] ≡ take m []
          none_taken zero zero = refl
          none_taken zero (suc m) = refl
          none_taken (suc n) zero = refl
          none_taken (suc n) (suc m) = refl

          by : (o : Option (List Updates)) → slice_get s.work y ≡ o → take (count_of_source ks y) (unwrap_or o []) ≡ take (slice_index (cut_of (length s.work) ks) y) (unwrap_or o [])
          by None e = none_taken (count_of_source ks y) (slice_index (cut_of (length s.work) ks) y)
          by (Some ts) e = let z : 0 + y ≡ y = omega arith in ap (λ n. take n ts) (sym (cut_at 0 (length s.work) y ks (get_within y s.work ts e) ∙ ap (count_of_source ks) z))

      go : (r : ℕ) (o : Option ℕ) → slice_get s.setup.homes r ≡ o → slice_get (relations_after s ks) r ≡ slice_get (state_at s.setup.initial s.work (cut_of (length s.work) ks)) r
      go r None e =
          let past = past_none s.setup.homes r e in
          past_the_end (relations_after s ks) r (omega (arith, past, long, all_long (map (content s) ks) s.setup.initial)) ∙ sym (past_the_end (state_at s.setup.initial s.work (cut_of (length s.work) ks)) r (omega (arith, past, long, state_long s.work (cut_of (length s.work) ks) s.setup.initial)))
      go r (Some y) e =
          let z : 0 + y ≡ y = omega arith in
          let states = states_own s.setup.homes 0 y s.work (cut_of (length s.work) ks) s.setup.initial (cut_long 0 (length s.work) ks) (λ i ts at. let w : i ≡ 0 + i = omega arith in subst (λ n. AreOf s.setup.homes n ts) w (fw.transactions i ts at).own) r (subst (λ n. slice_get s.setup.homes r ≡ Some n) (sym z) e) in
          numbered_own y ks [] order (λ r g. refl) r e ∙ (ap (λ ts. slice_get (all_applied s.setup.initial ts) r) (taken_same y) ∙ sym states)

pub relations_are_states : RelationsAreStates
relations_are_states s ks fw long order = relations_are s fw ks long order

-- ---- the numbering stays in order

order_push : (ks before : List NumberedTransaction) (k : NumberedTransaction) → AreInOrder before ks → k.number ≡ suc (length (before ++ ks)) → k.place ≡ suc (count_of_source (before ++ ks) k.source) → AreInOrder before (ks ++ k ∷ [])
order_push [] before k h number place = (subst (λ l. k.number ≡ suc (length l)) (append-nil before) number, subst (λ l. k.place ≡ suc (count_of_source l k.source)) (append-nil before) place, tt)
order_push (j ∷ ks) before k h number place = (h.0, h.1, order_push ks (before ++ j ∷ []) k h.2 (subst (λ l. k.number ≡ suc (length l)) (sym (append_assoc before (j ∷ []) ks)) number) (subst (λ l. k.place ≡ suc (count_of_source l k.source)) (sym (append_assoc before (j ∷ []) ks)) place))

pub order_take : (j : ℕ) (ks before : List NumberedTransaction) → AreInOrder before ks → AreInOrder before (take j ks)
order_take zero ks before h = tt
order_take (suc j) [] before h = tt
order_take (suc j) (k ∷ ks) before h = (h.0, h.1, order_take j ks (before ++ k ∷ []) h.2)

module _ (s : SetupData) (l : LoadedPipeline) (h : AreInOrder [] l.numbering) where
  order_integrated : (y : ℕ) (o : Option Message) → AreInOrder [] (after_integrate s y o l).numbering
  order_integrated y None = h
  order_integrated y (Some (SentUpdate t)) = order_push l.numbering [] (next_of l.numbering y) h refl refl
  order_integrated y (Some (SentReply r)) = h

  order_managed : (x : ℕ) (o : Option LoadedManager) → AreInOrder [] (after_manage x o l).numbering
  order_managed x None = h
  order_managed x (Some m) = go (front m.messages)
    where
      go : (i : Option ManagerInput) → AreInOrder [] (after_input x m i l).numbering
      go None = h
      go (Some i) = h

  order_released : (o : Option Announcement) → AreInOrder [] (after_announcement o l).numbering
  order_released None = h
  order_released (Some a) = h

  order_acted : (x : ℕ) (o : Option ActionList) → AreInOrder [] (after_list x o l).numbering
  order_acted x None = h
  order_acted x (Some a) = h

  order_begun : (o : Option Transaction) → AreInOrder [] (after_begin s o l).numbering
  order_begun None = h
  order_begun (Some t) = h

  order_next : (e : Event) → AreInOrder [] (next_loaded s l e).numbering
  order_next (Commit y) = h
  order_next (Answer y x) = h
  order_next (Integrate y) = order_integrated y (oldest_message l y)
  order_next (Manage x) = order_managed x (slice_get l.managers x)
  order_next Rel = order_released (front l.announcements)
  order_next (Act x) = order_acted x (oldest_list l x)
  order_next Begin = order_begun (front l.merge.transactions)
  order_next Change = h
  order_next Publish = h
  order_next (SessionOpen v) = h
  order_next (SessionScan v x) = h
  order_next (SessionFetch v n) = h
  order_next (SessionClose v) = h

  order_step : (e : Event) → AreInOrder [] (step_loaded s l e).numbering
  order_step e = elim (is_enabled_loaded l e && not (is_full_for s l e)) as (λ b. AreInOrder [] (cond b (next_loaded s l e) l).numbering) [ true ↦ order_next e | false ↦ h ]

pub order_after : (s : SetupData) (es : List Event) (l : LoadedPipeline) → AreInOrder [] l.numbering → AreInOrder [] (after_loaded s l es).numbering
order_after s [] l h = h
order_after s (e ∷ es) l h = order_after s es (step_loaded s l e) (order_step s l h e)

-- ---- sources

module _ (s : Script) (fw : FitsWork s) (A : List Table → Reply → Type 0) (y : ℕ) where
  site_own : (k : ℕ) (db : List Table) (ms : List Message) (site : SiteState) → AgreeAt s.setup.homes y (all_applied s.setup.initial (take k (transactions_of s y))) db → MessagesFit s A y k db ms site
      → AgreeAt s.setup.homes y (all_applied s.setup.initial (take site.commits (transactions_of s y))) site.relations
  site_own k db [] site a h = subst (λ n. AgreeAt s.setup.homes y (all_applied s.setup.initial (take n (transactions_of s y))) site.relations) (sym h.commits) (agree_trans s.setup.homes y (all_applied s.setup.initial (take k (transactions_of s y))) db site.relations a h.relations)
  site_own k db (SentUpdate t ∷ ms) site a h =
      site_own (suc k) (applied db t) ms site
      (λ r g. ap (λ o. slice_get o r) (take_step s.setup.initial k (transactions_of s y) ∙ ap (applied (all_applied s.setup.initial (take k (transactions_of s y)))) (sym (h.0 ∙ transaction_is s fw y k)))
      ∙ agree_applied s.setup.homes y t (all_applied s.setup.initial (take k (transactions_of s y))) db a r g) h.3
  site_own k db (SentReply r ∷ ms) site a h = site_own k db ms site a h.1

pub sources_stand : SourcesStand
sources_stand s store es fw long y z at =
    let l = after_loaded s.setup (start_loaded s.setup s.work store) es in
    let h = (contents_fit s store es fw).sources y z at in
    let order = order_after s.setup es (start_loaded s.setup s.work store) tt in
    let own = numbered_own s fw y (after_loaded s.setup (start_loaded s.setup s.work store) es).numbering [] order (λ r g. refl) in
    site_own s fw _ y (count_of_source (after_loaded s.setup (start_loaded s.setup s.work store) es).numbering y) h.relations z.messages z.site
    (λ r g. sym (h.agree r g ∙ own r g)) h.messages

-- ---- values

pub value_is_at : (s : Script) (store : StoreState) (es : List Event) → FitsWork s → length s.setup.homes ≡ length s.setup.initial → (x : ℕ) (view : View) → slice_get s.setup.views x ≡ Some view → (j : ℕ)
    → value_after s (keyed view) (after_loaded s.setup (start_loaded s.setup s.work store) es).numbering j
    ≡ value_at s (view_at s x) (prefix_cut s (tokens (length s.setup.views) (after_loaded s.setup (start_loaded s.setup s.work store) es)) j)
value_is_at s store es fw long x view there j =
    ap (value_of view.parts) (relations_are s fw (take j (after_loaded s.setup (start_loaded s.setup s.work store) es).numbering) long (order_take j (after_loaded s.setup (start_loaded s.setup s.work store) es).numbering [] (order_after s.setup es (start_loaded s.setup s.work store) tt)))
    ∙ ap (λ v. value_at s v (prefix_cut s (tokens (length s.setup.views) (after_loaded s.setup (start_loaded s.setup s.work store) es)) j))
    (sym (view_there s x view there))

-- ---- lists

pub lists_are_right : ListsAreRight
lists_are_right s store es fw long x view m there at =
    let f = (contents_fit s store es fw).managers x m at in
    let same : m.manager.view ≡ view = some_same m.manager.view view (sym f.view ∙ there) in
    (f.first_list, go f.first_list m.lists f.last_list (subst (λ v. ListsFit s (keyed v) x (after_loaded s.setup (start_loaded s.setup s.work store) es).numbering f.first_list m.lists f.last_list) same f.lists))
  where
    go : (j : ℕ) (ls : List ActionList) (last : ℕ) → ListsFit s (keyed view) x (after_loaded s.setup (start_loaded s.setup s.work store) es).numbering j ls last
        → AreRight s (length s.setup.views) (λ rows a. made (keyed view) a.actions rows) (after_loaded s.setup (start_loaded s.setup s.work store) es) x j ls
    go j [] last h = tt
    go j (a ∷ ls) last h = (ap (made (keyed view) a.actions) (sym (value_is_at s store es fw long x view there j)) ∙ (h.2 ∙ value_is_at s store es fw long x view there a.upto), go a.upto ls last h.3)
