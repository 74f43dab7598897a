-- After every list of events each announced transaction concerns the views that the integrator named, and at least one.
use Rattle.std.proofs.Common.{◌≡◌, ◌≢◌, ℕ, zero, suc, ◌<◌, ◌&&◌, true, false, not, cond, List, [], ◌∷◌, ◌++◌, length, get_or, Option, Some, None, refl, sym, subst, arith, append-nil}
use Rattle.std.specs.Prelude.{slice_get}
use Rattle.std.specs.List.{AllByRecursion, All, AllPairs}
use Rattle.whips_lists.specs.Members.{Has, AreDistinct}
use Rattle.whips_lists.proofs.Members.{has_passed, has_at, distinct_filter}
use Rattle.whips_lists.proofs.Places.{below_is, places_distinct}
use Rattle.whips_lists.specs.Lists.{front, without_front, places_from}
use Rattle.whips_flow.specs.State.{NumberedTransaction}
use Rattle.whips_flow.specs.declared.event.Event.{Event}
use Rattle.whips_flow.specs.declared.event.Event.TheVariants.{Commit, Answer, Integrate, Manage, Rel, Act, Begin, Change, Publish, SessionOpen, SessionScan, SessionFetch, SessionClose}
use Rattle.whips_states.specs.States.{Updates}
use Rattle.whips_view.specs.ViewDefs.{View}
use Rattle.whips_actions.specs.declared.action.ActionList.{ActionList}
use Rattle.whips_setup.specs.Setups.{SetupData}
use Rattle.whips_merge.specs.declared.lists.Transaction.{Transaction}
use Rattle.whips_store.specs.Stores.{StoreState}
use Rattle.whips_order.specs.declared.message.Message.{Message}
use Rattle.whips_order.specs.declared.message.Message.TheVariants.{Update, Reply as SentReply}
use Rattle.whips_order.specs.Numbering.{next_of, is_concerned, concerned_views}
use Rattle.whips_contents.specs.Contents.{ManagerInput, Announcement, LoadedManager, LoadedPipeline, start_loaded}
use Rattle.whips_contents.specs.Events.{announced, after_integrate, oldest_message, after_input, after_manage, after_announcement, after_list, oldest_list, after_begin, is_enabled_loaded, is_full_for, next_loaded, step_loaded, after_loaded}

abbrev pub IsNamedIn : List View → Announcement → Type 0
IsNamedIn views a = (t : Updates) × (a.concerned ≡ concerned_views views t) × (0 < length a.concerned)

abbrev pub AreAnnounced : List View → List Announcement → Type 0
AreAnnounced views told = AllByRecursion (IsNamedIn views) told

more : (views : List View) (t : Updates) (n : NumberedTransaction) (cs : List ℕ) → cs ≡ concerned_views views t → (told : List Announcement) → AreAnnounced views told → AreAnnounced views (told ++ announced n cs)
more views t n [] e told h = subst (AreAnnounced views) (sym (append-nil told)) h
more views t n (c ∷ cs) e [] h = ((t, e, omega arith), tt)
more views t n (c ∷ cs) e (a ∷ told) h = (h.0, more views t n (c ∷ cs) e told h.1)

fewer : (views : List View) (told : List Announcement) → AreAnnounced views told → AreAnnounced views (without_front told)
fewer views [] h = tt
fewer views (a ∷ told) h = h.1

module _ (s : SetupData) (l : LoadedPipeline) (h : AreAnnounced s.views l.announcements) where
  integrated : (y : ℕ) (o : Option Message) → AreAnnounced s.views (after_integrate s y o l).announcements
  integrated y None = h
  integrated y (Some (Update t)) = more s.views t (next_of l.numbering y) (concerned_views s.views t) refl l.announcements h
  integrated y (Some (SentReply r)) = h

  taken : (x : ℕ) (m : LoadedManager) (o : Option ManagerInput) → AreAnnounced s.views (after_input x m o l).announcements
  taken x m None = h
  taken x m (Some i) = h

  managed : (x : ℕ) (o : Option LoadedManager) → AreAnnounced s.views (after_manage x o l).announcements
  managed x None = h
  managed x (Some m) = taken x m (front m.messages)

  released : (o : Option Announcement) → AreAnnounced s.views (after_announcement o l).announcements
  released None = h
  released (Some a) = fewer s.views l.announcements h

  acted : (x : ℕ) (o : Option ActionList) → AreAnnounced s.views (after_list x o l).announcements
  acted x None = h
  acted x (Some a) = h

  begun : (o : Option Transaction) → AreAnnounced s.views (after_begin s o l).announcements
  begun None = h
  begun (Some t) = h

  next_announced : (e : Event) → AreAnnounced s.views (next_loaded s l e).announcements
  next_announced (Commit y) = h
  next_announced (Answer y x) = h
  next_announced (Integrate y) = integrated y (oldest_message l y)
  next_announced (Manage x) = managed x (slice_get l.managers x)
  next_announced Rel = released (front l.announcements)
  next_announced (Act x) = acted x (oldest_list l x)
  next_announced Begin = begun (front l.merge.transactions)
  next_announced Change = h
  next_announced Publish = h
  next_announced (SessionOpen v) = h
  next_announced (SessionScan v x) = h
  next_announced (SessionFetch v n) = h
  next_announced (SessionClose v) = h

  step_announced : (e : Event) → AreAnnounced s.views (step_loaded s l e).announcements
  step_announced e = elim (is_enabled_loaded l e && not (is_full_for s l e)) as (λ b. AreAnnounced s.views (cond b (next_loaded s l e) l).announcements) [ true ↦ next_announced e | false ↦ h ]

after_announced : (s : SetupData) (es : List Event) (l : LoadedPipeline) → AreAnnounced s.views l.announcements → AreAnnounced s.views (after_loaded s l es).announcements
after_announced s [] l h = h
after_announced s (e ∷ es) l h = after_announced s es (step_loaded s l e) (step_announced s l h e)

pub all_announced : (s : SetupData) (work : List (List Updates)) (store : StoreState) (es : List Event) → AreAnnounced s.views (after_loaded s (start_loaded s work store) es).announcements
all_announced s work store es = after_announced s es (start_loaded s work store) tt

-- ---- which views are named

pub concerned_there : (views : List View) (t : Updates) → All (λ x. x < length views) (concerned_views views t)
concerned_there views t k d lt =
    let named = has_passed (λ x. is_concerned t (slice_get views x)) (get_or (concerned_views views t) k d) (places_from 0 (length views)) (has_at (concerned_views views t) k d lt) in
    below_is (length views) (get_or (concerned_views views t) k d) named.0

pairs_differ : (xs : List ℕ) → AreDistinct xs → AllPairs (λ x y. x ≢ y) xs
pairs_differ [] h i j d lt below = absurd (omega arith)
pairs_differ (x ∷ xs) h i zero d lt below = absurd (omega arith)
pairs_differ (x ∷ xs) h zero (suc j) d lt below = λ e. h.0 (subst (λ z. Has z xs) (sym e) (has_at xs j d (omega arith)))
pairs_differ (x ∷ xs) h (suc i) (suc j) d lt below = pairs_differ xs h.1 i j d (omega arith) (omega arith)

pub concerned_distinct : (views : List View) (t : Updates) → AllPairs (λ x y. x ≢ y) (concerned_views views t)
concerned_distinct views t = pairs_differ (concerned_views views t) (distinct_filter (λ x. is_concerned t (slice_get views x)) (places_from 0 (length views)) (places_distinct 0 (length views)))
