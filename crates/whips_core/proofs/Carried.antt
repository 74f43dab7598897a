-- What a core that carries some events keeps, and what its stages may be asked.
use Rattle.std.proofs.Common.{◌≡◌, ℕ, ◌&&◌, Bool, true, false, not, cond, List, [], ◌∷◌, ◌++◌, length, Option, Some, None, IfSome, refl, sym, ap, ap₂, subst, ◌∙◌}
use Rattle.std.specs.Prelude.{slice_get, is_some}
use Rattle.std.proofs.lemmas.List.{length-map}
use Rattle.whips_lists.specs.Lists.{front}
use Rattle.whips_states.specs.States.{Updates}
use Rattle.whips_lists.proofs.Options.{some_of, of_some_is}
use Rattle.whips_flow.specs.declared.event.Event.{Event}
use Rattle.whips_actions.specs.declared.action.ActionList.{ActionList}
use Rattle.whips_setup.specs.Setups.{SetupData}
use Rattle.whips_setup.specs.Refusals.{IsSetup}
use Rattle.whips_order.specs.Numbering.{Counts, counts_of}
use Rattle.whips_merge.specs.declared.lists.Transaction.{Transaction}
use Rattle.whips_store.specs.Stores.{StoreState}
use Rattle.whips_store.specs.First.{store_at_first}
use Rattle.whips_contents.specs.Contents.{Announcement, ManagerInput, LoadedSource, LoadedManager, LoadedPipeline, start_loaded}
use Rattle.whips_contents.specs.Events.{is_enabled_loaded, is_full_for, next_loaded, step_loaded, after_loaded, oldest_input, after_input, after_manage, after_list, after_announcement, after_begin}
use Rattle.whips_core_laws.specs.Calls.{CallsFit}
use Rattle.whips_headline_laws.proofs.Counts.{after_counted, start_counted}
use Rattle.whips_core_laws.proofs.Starts.{fits_start}
use Rattle.whips_core_laws.proofs.Carried.{core_carries}
use Rattle.whips_core.specs.Pipelines.{started}
use Rattle.whips_flow.specs.State.{Pipeline, start}
use Rattle.whips_flow.specs.Progress.{after}
use Rattle.whips_facts.specs.ScriptFacts.{facts_of}
use Rattle.whips_core_laws.specs.Core.{Carries}
use Rattle.whips_core.specs.Cores.{CoreData, script_with, AreFresh, IsCarried, IsCore, IsRun}

pub after_more : (s : SetupData) (es : List Event) (l : LoadedPipeline) (e : Event) → after_loaded s l (es ++ e ∷ []) ≡ step_loaded s (after_loaded s l es) e
after_more s [] l e = refl
after_more s (d ∷ es) l e = after_more s es (step_loaded s l d) e

stepped : (s : SetupData) (l : LoadedPipeline) (e : Event) → is_enabled_loaded l e ≡ true → is_full_for s l e ≡ false → step_loaded s l e ≡ next_loaded s l e
stepped s l e en full = ap (λ (b : Bool). cond b (next_loaded s l e) l) (ap₂ (λ a b. a && not b) en full)

-- the core carries one event more
goes_on : (s : SetupData) (l new : LoadedPipeline) (e : Event) → IsCarried s l → is_enabled_loaded l e ≡ true → is_full_for s l e ≡ false → new ≡ next_loaded s l e → IsCarried s new
goes_on s l new e h en full is = record {
  valid = h.valid;
  work = h.work;
  is_work = h.is_work;
  events = h.events ++ e ∷ [];
  is = is ∙ (sym (stepped s l e en full) ∙ (ap (λ l. step_loaded s l e) h.is ∙ sym (after_more s h.events (start_loaded s h.work (store_at_first s)) e)));
}

pub closed : (s : SetupData) (l new : LoadedPipeline) (k counts : Counts) (e : Event) → IsCore s l k → is_enabled_loaded l e ≡ true → is_full_for s l e ≡ false → new ≡ next_loaded s l e → counts ≡ counts_of s.sources new.numbering → IsCore s new counts
closed s l new k counts e h en full is counted = record { carried = goes_on s l new e h.carried en full is; counted = counted }

-- where nothing is numbered
pub closed_same : (s : SetupData) (l new : LoadedPipeline) (k : Counts) (e : Event) → IsCore s l k → is_enabled_loaded l e ≡ true → is_full_for s l e ≡ false → new ≡ next_loaded s l e → (next_loaded s l e).numbering ≡ l.numbering → IsCore s new k
closed_same s l new k e h en full is same = closed s l new k k e h en full is (h.counted ∙ ap (counts_of s.sources) (sym same ∙ ap (λ (p : LoadedPipeline). p.numbering) (sym is)))

-- the core before the first event
pub started_core : (s : SetupData) (sources : List LoadedSource) (store : StoreState) (l : LoadedPipeline) (k : Counts) → IsSetup s → AreFresh s sources → store ≡ store_at_first s → l ≡ started s sources store → k ≡ counts_of s.sources [] → IsCore s l k
started_core s sources store l k valid fresh first is counted = record {
  carried = record {
    valid = valid;
    work = fresh.work;
    is_work = fresh.is_work;
    events = [];
    is = is ∙ ap₂ (started s) fresh.are first;
  };
  counted = counted ∙ ap (λ (p : LoadedPipeline). counts_of s.sources p.numbering) (sym is);
}

-- the theorem of the core, of a core that carries some events
carries_of : (s : SetupData) (l : LoadedPipeline) (h : IsCarried s l) → Carries (script_with s h.work) l (after (facts_of (script_with s h.work)) (start (facts_of (script_with s h.work))) h.events)
carries_of s l h =
    let f = facts_of (script_with s h.work) in
    subst (λ p. Carries (script_with s h.work) p (after f (start f) h.events)) (sym h.is) (core_carries (script_with s h.work) h.valid h.is_work h.events)

-- each stage may be asked what an event asks of it
pub calls_fit : (s : SetupData) (l : LoadedPipeline) → IsCarried s l → CallsFit s l
calls_fit s l h = (carries_of s l h).calls

-- ---- what stands where an event is enabled

pub if_some : {A : Type 0} (P : A → Type 0) (o : Option A) → ((a : A) → o ≡ Some a → P a) → IfSome o P
if_some P None h = tt
if_some P (Some a) h = h a refl

pub input_there : (l : LoadedPipeline) (x : ℕ) → is_some (oldest_input l x) ≡ true → (m : LoadedManager) × (i : ManagerInput) × (slice_get l.managers x ≡ Some m) × (front m.messages ≡ Some i)
input_there l x e =
    let i = some_of (oldest_input l x) e in
    let m = of_some_is (slice_get l.managers x) (λ (m : LoadedManager). front m.messages) i.0 i.1 in
    (m.0, i.0, m.1, m.2)

pub managed_numbering : (l : LoadedPipeline) (x : ℕ) (o : Option LoadedManager) → (after_manage x o l).numbering ≡ l.numbering
managed_numbering l x None = refl
managed_numbering l x (Some m) = go (front m.messages)
  where
    go : (o : Option ManagerInput) → (after_input x m o l).numbering ≡ l.numbering
    go None = refl
    go (Some i) = refl

pub managed_is : (l : LoadedPipeline) (x : ℕ) (m : LoadedManager) (i : ManagerInput) → slice_get l.managers x ≡ Some m → front m.messages ≡ Some i → after_input x m (Some i) l ≡ after_manage x (slice_get l.managers x) l
managed_is l x m i at first = sym (ap (λ o. after_manage x o l) at ∙ ap (λ o. after_input x m o l) first)

pub acted_numbering : (l : LoadedPipeline) (x : ℕ) (o : Option ActionList) → (after_list x o l).numbering ≡ l.numbering
acted_numbering l x None = refl
acted_numbering l x (Some a) = refl

pub released_numbering : (l : LoadedPipeline) (o : Option Announcement) → (after_announcement o l).numbering ≡ l.numbering
released_numbering l None = refl
released_numbering l (Some a) = refl

pub begun_numbering : (s : SetupData) (l : LoadedPipeline) (o : Option Transaction) → (after_begin s o l).numbering ≡ l.numbering
begun_numbering s l None = refl
begun_numbering s l (Some t) = refl

pub core_after : (d now : CoreData) (new : LoadedPipeline) (e : Event) → d ≡ now → now.stopped ≡ false → new ≡ next_loaded d.setup d.loaded e → record { setup = d.setup; loaded = new; stopped = false } ≡ record now { loaded = next_loaded now.setup now.loaded e }
core_after d now new e same runs is =
    ap₂ (λ p b. record { setup = d.setup; loaded = p; stopped = b }) is (sym (ap (λ (d : CoreData). d.stopped) same ∙ runs)) ∙ ap (λ (d : CoreData). record d { loaded = next_loaded d.setup d.loaded e }) same

-- a core that did an event which isn't full
pub step_is : (now new : CoreData) (e : Event) → is_enabled_loaded now.loaded e ≡ true → is_full_for now.setup now.loaded e ≡ false → new ≡ record now { loaded = next_loaded now.setup now.loaded e } → new ≡ record now { loaded = step_loaded now.setup now.loaded e }
step_is now new e en full is = is ∙ ap (λ (p : LoadedPipeline). record now { loaded = p }) (sym (stepped now.setup now.loaded e en full))

pub step_skips : (now : CoreData) (e : Event) → is_enabled_loaded now.loaded e ≡ false → now ≡ record now { loaded = step_loaded now.setup now.loaded e }
step_skips now e off = ap (λ (p : LoadedPipeline). record now { loaded = p }) (sym (ap (λ (b : Bool). cond (b && not (is_full_for now.setup now.loaded e)) (next_loaded now.setup now.loaded e) now.loaded) off))

-- what a run of the core has carried
pub run_of : (s : SetupData) (l : LoadedPipeline) → IsCarried s l → IsRun s l
run_of s l h = record { work = h.work; is_work = h.is_work; events = h.events; is = h.is; carries = carries_of s l h }

-- a cut has a count for each source
pub cut_long : (s : SetupData) (l : LoadedPipeline) → IsCarried s l → length l.cut ≡ s.sources
cut_long s l h =
    let script = script_with s h.work in
    let f = facts_of script in
    ap (λ (p : Pipeline). length p.writer.cut) (carries_of s l h).tokens
    ∙ ((after_counted f h.events (start f) (start_counted f)).writer.current
    ∙ (length-map h.work (λ (ts : List Updates). length ts) ∙ (fits_start script h.valid h.is_work).sources))
