-- After every list of events each site has the number of its source, and each reply on its way to a manager is one to the manager's view.
use Rattle.std.proofs.Common.{◌≡◌, inl, inr, ℕ, ◌<◌, ◌&&◌, true, false, not, cond, List, [], ◌∷◌, ◌++◌, length, Option, Some, None, refl, sym, ap, subst, ◌∙◌, arith}
use Rattle.std.specs.Prelude.{slice_get}
use Rattle.std.specs.List.{AllByRecursion}
use Rattle.whips_lists.specs.Lists.{changed_at, front, without_front}
use Rattle.whips_lists.proofs.ByPlace.{get_cases, get_map_at as get_mapped_at, get_within}
use Rattle.whips_flow.specs.State.{NumberedTransaction}
use Rattle.whips_flow.specs.declared.event.Event.{Event}
use Rattle.whips_flow.specs.declared.event.Event.TheVariants.{Commit, Answer, Integrate, Manage, Rel, Act, Begin, Change, Publish, SessionOpen, SessionScan, SessionFetch, SessionClose}
use Rattle.whips_states.specs.States.{Updates}
use Rattle.whips_actions.specs.declared.action.ActionList.{ActionList}
use Rattle.whips_setup.specs.Setups.{SetupData}
use Rattle.whips_merge.specs.declared.lists.Transaction.{Transaction}
use Rattle.whips_query.specs.declared.asks.Ask.{Ask}
use Rattle.whips_store.specs.Stores.{StoreState}
use Rattle.whips_order.specs.declared.message.Message.{Message}
use Rattle.whips_order.specs.declared.message.Message.TheVariants.{Update, Reply as SentReply}
use Rattle.whips_order.specs.Numbering.{next_of, concerned_views}
use Rattle.whips_source.specs.Sites.{SiteState, with_first_made}
use Rattle.whips_strobe.specs.Outs.{all_sent_by}
use Rattle.whips_contents.specs.Contents.{ManagerInput, numbered_transaction, reply_to_ask, Announcement, LoadedSource, LoadedManager, LoadedPipeline, new_loaded_source, new_loaded_manager, start_loaded}
use Rattle.whips_contents.specs.Events.{source_after_commit, source_after_answer, oldest_ask_to, without_oldest_message, with_input, all_with_input, after_integrate, oldest_message, manager_after_input, with_ask_of, all_asked, asks_after_input, after_input, after_manage, after_announcement, without_oldest_list, after_list, oldest_list, after_begin, is_enabled_loaded, is_full_for, next_loaded, step_loaded, after_loaded}

abbrev pub IsOwnInput : ℕ → ManagerInput → Type 0
IsOwnInput x (numbered_transaction k t) = Unit {0}
IsOwnInput x (reply_to_ask r) = r.view ≡ x

pub record AreNamed (n : ℕ) (l : LoadedPipeline) : Type 0 where
  pub sources : (y : ℕ) (z : LoadedSource) → slice_get l.sources y ≡ Some z → (z.site.source ≡ y) × (y < n)
  pub inputs : (x : ℕ) (m : LoadedManager) → slice_get l.managers x ≡ Some m → AllByRecursion (IsOwnInput x) m.messages

made_same : (ts : List Updates) (s : SiteState) → (with_first_made ts s).source ≡ s.source
made_same [] s = refl
made_same (t ∷ ts) s = refl

answered_same : (x : ℕ) (o : Option Ask) (z : LoadedSource) → (source_after_answer x o z).site.source ≡ z.site.source
answered_same x None z = refl
answered_same x (Some a) z = refl

abbrev SourcesNamed : ℕ → List LoadedSource → Type 0
SourcesNamed n ss = (y : ℕ) (z : LoadedSource) → slice_get ss y ≡ Some z → (z.site.source ≡ y) × (y < n)

abbrev InputsNamed : List LoadedManager → Type 0
InputsNamed ms = (x : ℕ) (m : LoadedManager) → slice_get ms x ≡ Some m → AllByRecursion (IsOwnInput x) m.messages

source_changed : (g : LoadedSource → LoadedSource) → ((z : LoadedSource) → (g z).site.source ≡ z.site.source) → (i : ℕ) (n : ℕ) (ss : List LoadedSource) → SourcesNamed n ss → SourcesNamed n (changed_at i g ss)
source_changed g same i n ss h y z e = elim (get_cases g i y ss z e) [
  | inl (place, (old, is, made)) ↦ (sym (ap (λ (z : LoadedSource). z.site.source) made) ∙ (same old ∙ ((h i old is).0 ∙ sym place)), subst (λ k. k < n) (sym place) (h i old is).1)
  | inr other ↦ h y z other.1
]

sources_asked : (x : ℕ) (asks : List (ℕ × Ask)) (n : ℕ) (ss : List LoadedSource) → SourcesNamed n ss → SourcesNamed n (all_asked x ss asks)
sources_asked x [] n ss h = h
sources_asked x (a ∷ asks) n ss h = sources_asked x asks n (changed_at a.0 (with_ask_of x a.1) ss) (source_changed (with_ask_of x a.1) (λ z. refl) a.0 n ss h)

inputs_changed : (g : LoadedManager → LoadedManager) (i : ℕ) → ((m : LoadedManager) → AllByRecursion (IsOwnInput i) m.messages → AllByRecursion (IsOwnInput i) (g m).messages) → (ms : List LoadedManager) → InputsNamed ms → InputsNamed (changed_at i g ms)
inputs_changed g i keeps ms h x m e = elim (get_cases g i x ms m e) [
  | inl (place, (old, is, made)) ↦ subst (λ (m : LoadedManager). AllByRecursion (IsOwnInput x) m.messages) made (subst (λ n. AllByRecursion (IsOwnInput n) (g old).messages) (sym place) (keeps old (h i old is)))
  | inr other ↦ h x m other.1
]

all_push : (x : ℕ) (i : ManagerInput) (ms : List ManagerInput) → IsOwnInput x i → AllByRecursion (IsOwnInput x) ms → AllByRecursion (IsOwnInput x) (ms ++ i ∷ [])
all_push x i [] own h = (own, tt)
all_push x i (m ∷ ms) own h = (h.0, all_push x i ms own h.1)

all_behind : (x : ℕ) (ms : List ManagerInput) → AllByRecursion (IsOwnInput x) ms → AllByRecursion (IsOwnInput x) (without_front ms)
all_behind x [] h = tt
all_behind x (m ∷ ms) h = h.1

all_sent : (k : NumberedTransaction) (t : Updates) (xs : List ℕ) (ms : List LoadedManager) → InputsNamed ms → InputsNamed (all_with_input (numbered_transaction k t) ms xs)
all_sent k t [] ms h = h
all_sent k t (x ∷ xs) ms h = all_sent k t xs (changed_at x (with_input (numbered_transaction k t)) ms) (inputs_changed (with_input (numbered_transaction k t)) x (λ m own. all_push x (numbered_transaction k t) m.messages tt own) ms h)

module _ (s : SetupData) (n : ℕ) (l : LoadedPipeline) (h : AreNamed n l) where
  integrated : (y : ℕ) (o : Option Message) → AreNamed n (after_integrate s y o l)
  integrated y None = h
  integrated y (Some (Update t)) = record { sources = source_changed without_oldest_message (λ z. refl) y n l.sources h.sources; inputs = all_sent (next_of l.numbering y) t (concerned_views s.views t) l.managers h.inputs }
  integrated y (Some (SentReply r)) = record { sources = source_changed without_oldest_message (λ z. refl) y n l.sources h.sources; inputs = inputs_changed (with_input (reply_to_ask r)) r.view (λ m own. all_push r.view (reply_to_ask r) m.messages refl own) l.managers h.inputs }

  taken : (x : ℕ) (m : LoadedManager) (o : Option ManagerInput) → AreNamed n (after_input x m o l)
  taken x m None = h
  taken x m (Some i) = record { sources = sources_asked x (all_sent_by m.manager.number (asks_after_input m.manager i)) n l.sources h.sources; inputs = inputs_changed (manager_after_input i) x (λ m own. all_behind x m.messages own) l.managers h.inputs }

  managed : (x : ℕ) (o : Option LoadedManager) → AreNamed n (after_manage x o l)
  managed x None = h
  managed x (Some m) = taken x m (front m.messages)

  released : (o : Option Announcement) → AreNamed n (after_announcement o l)
  released None = h
  released (Some a) = record { sources = h.sources; inputs = h.inputs }

  acted : (x : ℕ) (o : Option ActionList) → AreNamed n (after_list x o l)
  acted x None = h
  acted x (Some a) = record { sources = h.sources; inputs = inputs_changed without_oldest_list x (λ m own. own) l.managers h.inputs }

  begun : (o : Option Transaction) → AreNamed n (after_begin s o l)
  begun None = h
  begun (Some t) = record { sources = h.sources; inputs = h.inputs }

  next_named : (e : Event) → AreNamed n (next_loaded s l e)
  next_named (Commit y) = record { sources = source_changed source_after_commit (λ z. made_same z.site.left z.site) y n l.sources h.sources; inputs = h.inputs }
  next_named (Answer y x) = record { sources = source_changed (λ z. source_after_answer x (oldest_ask_to x z) z) (λ z. answered_same x (oldest_ask_to x z) z) y n l.sources h.sources; inputs = h.inputs }
  next_named (Integrate y) = integrated y (oldest_message l y)
  next_named (Manage x) = managed x (slice_get l.managers x)
  next_named Rel = released (front l.announcements)
  next_named (Act x) = acted x (oldest_list l x)
  next_named Begin = begun (front l.merge.transactions)
  next_named Change = record { sources = h.sources; inputs = h.inputs }
  next_named Publish = record { sources = h.sources; inputs = h.inputs }
  next_named (SessionOpen v) = h
  next_named (SessionScan v x) = h
  next_named (SessionFetch v n) = h
  next_named (SessionClose v) = h

  step_named : (e : Event) → AreNamed n (step_loaded s l e)
  step_named e = elim (is_enabled_loaded l e && not (is_full_for s l e)) as (λ b. AreNamed n (cond b (next_loaded s l e) l)) [ true ↦ next_named e | false ↦ h ]

after_named : (s : SetupData) (n : ℕ) (es : List Event) (l : LoadedPipeline) → AreNamed n l → AreNamed n (after_loaded s l es)
after_named s n [] l h = h
after_named s n (e ∷ es) l h = after_named s n es (step_loaded s l e) (step_named s n l h e)

pub all_named : (s : SetupData) (work : List (List Updates)) (store : StoreState) (es : List Event) → AreNamed (length work) (after_loaded s (start_loaded s work store) es)
all_named s work store es = after_named s (length work) es (start_loaded s work store) (record {
  sources = λ y z e. let k = get_mapped_at (new_loaded_source s) 0 y y work z (omega arith) e in (sym (ap (λ (z : LoadedSource). z.site.source) k.2), get_within y work k.0 k.1);
  inputs = λ x m e. let k = get_mapped_at new_loaded_manager 0 x x s.views m (omega arith) e in subst (λ (m : LoadedManager). AllByRecursion (IsOwnInput x) m.messages) k.2 tt;
})
