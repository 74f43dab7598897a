-- Each stage may be asked what an event asks of it, after every list of events.
use Rattle.std.proofs.Common.{◌≡◌, ◌≢◌, ℕ, zero, suc, ◌<◌, ◌^◌, ◌%◌, true, List, [], ◌∷◌, length, map, Some, refl, sym, ap, subst, ◌∙◌, arith, length-append, append-nil, append_assoc, ◌≤◌, ◌++◌}
use Rattle.std.specs.Prelude.{slice_get, is_some}
use Rattle.std.specs.Option.{option_and_then}
use Rattle.std.specs.List.{AllByRecursion, All, AllPairs}
use Rattle.std.proofs.lemmas.List.{length-map}
use Rattle.whips_lists.specs.Members.{Has}
use Rattle.whips_lists.specs.Lists.{front}
use Rattle.whips_lists.proofs.Members.{has_first, all_has, all_from_has}
use Rattle.whips_lists.proofs.Lists.{front_is}
use Rattle.whips_lists.proofs.Options.{some_same, some_of, of_some_is}
use Rattle.whips_lists.proofs.ByPlace.{get_within}
use Rattle.whips_flow.specs.State.{Pipeline, start}
use Rattle.whips_flow.specs.Progress.{after}
use Rattle.whips_flow.specs.declared.event.Event.{Event}
use Rattle.whips_model.specs.Tuples.{Columns}
use Rattle.whips_model.specs.Relation.{Table}
use Rattle.whips_settled_laws.proofs.Accounts.{RisingRows}
use Rattle.whips_settled_laws.proofs.Ends.{Sound, start_sound, after_sound}
use Rattle.whips_view.specs.ViewDefs.{keyed}
use Rattle.whips_view.specs.Widths.{widths_of}
use Rattle.whips_actions.specs.declared.action.ActionList.{ActionList}
use Rattle.whips_setup.specs.Refusals.{IsSetup}
use Rattle.whips_setup.specs.Workloads.{IsWorkload}
use Rattle.whips_facts.specs.Scripts.{Script}
use Rattle.whips_facts.specs.ScriptFacts.{facts_of}
use Rattle.whips_managers.specs.Messages.{CanAsk, HaveWidths}
use Rattle.whips_merge.specs.declared.lists.Transaction.{Transaction}
use Rattle.whips_query.specs.declared.asks.Ask.{Ask}
use Rattle.whips_query.specs.declared.asks.Reply.{Reply}
use Rattle.whips_store.specs.First.{store_at_first}
use Rattle.whips_view.specs.ViewDefs.{View, row_columns}
use Rattle.whips_store.specs.Stores.{view_in}
use Rattle.whips_store.specs.Calls.{AreNet}
use Rattle.whips_facts_laws.proofs.Premises.{asks_there}
use Rattle.whips_order.specs.declared.message.Message.{Message}
use Rattle.whips_order.specs.declared.message.Message.TheVariants.{Update, Reply as SentReply}
use Rattle.whips_source.specs.Sites.{SiteState}
use Rattle.whips_source.specs.Asks.{IsAskTo}
use Rattle.whips_contents.specs.Contents.{Announcement, ManagerInput, numbered_transaction, reply_to_ask, LoadedSource, LoadedManager, LoadedPipeline}
use Rattle.whips_managers.specs.Managers.{Query}
use Rattle.whips_setup.specs.Setups.{SetupData}
use Rattle.whips_contents.specs.Contents.{start_loaded}
use Rattle.whips_contents.specs.Events.{step_loaded, after_loaded, oldest_ask_to, oldest_message, oldest_list, row_announced, changes_of_transaction}
use Rattle.whips_contents.specs.Tokens.{tokens}
use Rattle.whips_stage_laws.specs.Fits.{AnswersOn, MessagesFit, InputsFit, ListsFit, FitsContents, no_older}
use Rattle.whips_stage_laws.proofs.Setups.{setup_fits}
use Rattle.whips_contents_laws.specs.Fitting.{FitsWidths, AreFitting}
use Rattle.whips_contents_laws.proofs.Kept.{contents_fit}
use Rattle.whips_contents_laws.proofs.Fitting.{are_fitting}
use Rattle.whips_core_laws.proofs.Valid.{valid_script}
use Rattle.whips_core_laws.proofs.Widths.{widths_fit}
use Rattle.whips_core_laws.proofs.Starts.{fits_start}
use Rattle.whips_core_laws.specs.Calls.{FitsInput, FitsRel, CallsFit}
use Rattle.whips_core_laws.specs.Core.{loaded_after}
use Rattle.whips_core_laws.proofs.Actions.{HaveActions, step_actions, start_actions}
use Rattle.whips_core_laws.proofs.Announced.{AreAnnounced, all_announced, concerned_there, concerned_distinct}
use Rattle.whips_core_laws.proofs.Named.{IsOwnInput, AreNamed, all_named}
use Rattle.whips_core_laws.proofs.Phases.{phase_small}

queue_at : (qss : List (List Ask)) (x : ℕ) (ask : Ask) → option_and_then front (slice_get qss x) ≡ Some ask → (qs : List Ask) × (slice_get qss x ≡ Some qs) × Has ask qs
queue_at [] x ask e = absurd (cc)
queue_at ([] ∷ qss) zero ask e = absurd (cc)
queue_at ((a ∷ q) ∷ qss) zero ask e = ((a ∷ q), refl, subst (λ b. Has b (a ∷ q)) (some_same a ask e) (has_first a q))
queue_at (q ∷ qss) (suc x) ask e = queue_at qss x ask e

site_views : (s : Script) (A : List Table → Reply → Type 0) (y k : ℕ) (db : List Table) (ms : List Message) (site : SiteState) → MessagesFit s A y k db ms site → site.views ≡ s.setup.views
site_views s A y k db [] site h = h.views
site_views s A y k db (Update t ∷ ms) site h = site_views s A y (suc k) _ ms site h.3
site_views s A y k db (SentReply r ∷ ms) site h = site_views s A y k db ms site h.1

-- ---- what holds of the pipeline after these events gives each condition

module _ (s : Script) (is : IsSetup s.setup) (works : IsWorkload s.setup s.work) (es : List Event) where
  abbrev l : LoadedPipeline
  l = loaded_after s es

  pub contents : FitsContents s no_older l
  contents = contents_fit s (store_at_first s.setup) es (setup_fits s is works)

  pub fitting : AreFitting l
  fitting = are_fitting s (store_at_first s.setup) es (setup_fits s is works) (widths_fit s is works)

  wide : FitsWidths s
  wide = widths_fit s is works

  named : AreNamed (length s.work) l
  named = all_named s.setup s.work (store_at_first s.setup) es

  source_there : (y : ℕ) → is_some (oldest_message l y) ≡ true → y < s.setup.sources
  source_there y e =
      let i = some_of (oldest_message l y) e in
      let z = of_some_is (slice_get l.sources y) (λ (z : LoadedSource). front z.messages) i.0 i.1 in
      subst (λ n. y < n) (fits_start s is works).sources (named.sources y z.0 z.1).1

  ask_fits : (y x : ℕ) (z : LoadedSource) (ask : Ask) → slice_get l.sources y ≡ Some z → oldest_ask_to x z ≡ Some ask → IsAskTo z.site.views z.site.source ask
  ask_fits y x z ask at oldest =
      let q = queue_at z.asks x ask oldest in
      let a = contents.asks y x z q.0 ask at q.1 q.2 in
      let view = a.manager.manager.view in
      let can = all_has (CanAsk (keyed view) (widths_of view)) a.manager.manager.state.queries (fitting.queries x a.manager a.there) a.query a.open_query in
      let f = contents.sources y z at in
      let views = site_views s _ y _ f.relations z.messages z.site f.messages in
      subst (IsAskTo z.site.views z.site.source) (ap (λ (e : ℕ × Ask). e.1) a.sent) (record {
        view = view;
        there = ap (λ vs. slice_get vs x) views ∙ (contents.managers x a.manager a.there).view;
        is = record { origin = omega (arith, can.origin, length-map view.bases (λ (b : Columns). b.key)); first = can.low; last = can.high; filled = can.filled };
        asked = ap (λ (e : ℕ × Ask). e.0) a.sent ∙ sym (named.sources y z at).0;
      })

  pub input_fits : (x : ℕ) (m : LoadedManager) (i : ManagerInput) → slice_get l.managers x ≡ Some m → front m.messages ≡ Some i → FitsInput m.manager i
  input_fits x m (numbered_transaction k t) at first =
      let f = contents.managers x m at in
      let i = subst (InputsFit s (keyed m.manager.view) (AnswersOn (keyed m.manager.view) m.manager.state) f.before f.after) (front_is m.messages (numbered_transaction k t) first) f.inputs in
      (i.6, omega (arith, f.taken, i.4, length-append f.before i.0), subst (HaveWidths (keyed m.manager.view) (widths_of m.manager.view)) (sym i.5) (wide.widths x m.manager.view f.view k.source k.place))
  input_fits x m (reply_to_ask r) at first = record {
    view = (subst (AllByRecursion (IsOwnInput x)) (front_is m.messages (reply_to_ask r) first) (named.inputs x m at)).0 ∙ sym (contents.managers x m at).number;
    query = fitting.replies x m r at first;
  }

-- ---- the actions of lists

pub after_more : (s : SetupData) (es : List Event) (l : LoadedPipeline) (e : Event) → after_loaded s l (es ++ e ∷ []) ≡ step_loaded s (after_loaded s l es) e
after_more s [] l e = refl
after_more s (d ∷ es) l e = after_more s es (step_loaded s l d) e

module _ (s : Script) (is : IsSetup s.setup) (works : IsWorkload s.setup s.work) where
  acted_on : (done more : List Event) → HaveActions s.setup.views (loaded_after s done) → HaveActions s.setup.views (loaded_after s (done ++ more))
  acted_on done [] h = subst (λ es. HaveActions s.setup.views (loaded_after s es)) (sym (append-nil done)) h
  acted_on done (e ∷ more) h =
      let f = contents s is works done in
      let one = step_actions s.setup (loaded_after s done) h
      (λ x m at actions. record {
        actions = actions;
        known = all_from_has (λ (q : Query). q.transaction ≤ m.manager.state.last) m.manager.state.queries (λ q i. (f.managers x m at).keeps.invariant.numbered.known q i);
        queries = (fitting s is works done).queries x m at;
      })
      (λ x m at. subst (λ n. slice_get s.setup.views n ≡ Some m.manager.view) (sym (f.managers x m at).number) (f.managers x m at).view)
      (input_fits s is works done) e in
      subst (λ es. HaveActions s.setup.views (loaded_after s es)) (append_assoc done (e ∷ []) more) (acted_on (done ++ e ∷ []) more (subst (HaveActions s.setup.views) (sym (after_more s.setup done (start_loaded s.setup s.work (store_at_first s.setup)) e)) one))

  pub all_actions : (es : List Event) → HaveActions s.setup.views (loaded_after s es)
  all_actions es = acted_on [] es (start_actions s.setup s.work (store_at_first s.setup))

first_lists : (P : Transaction → Type 0) (ts : List Transaction) → AllByRecursion P ts → (t : Transaction) → front ts ≡ Some t → P t
first_lists P [] h t e = absurd (cc)
first_lists P (u ∷ ts) h t e = subst P (some_same u t e) h.0

-- ---- all conditions

module _ (s : Script) (is : IsSetup s.setup) (works : IsWorkload s.setup s.work) (es : List Event) (lists_long : length (loaded_after s es).merge.lists ≡ length s.setup.views)
    (same : tokens (length s.setup.views) (loaded_after s es) ≡ after (facts_of s) (start (facts_of s)) es) where
  abbrev now : LoadedPipeline
  now = loaded_after s es

  rel_fits : (a : Announcement) → front now.announcements ≡ Some a → FitsRel now.merge a
  rel_fits a first =
      let machine = after_sound (facts_of s) (asks_there s (valid_script s is works).sources) es (start (facts_of s)) (start_sound (facts_of s)) in
      let sound : Sound (facts_of s) (tokens (length s.setup.views) now) = subst (Sound (facts_of s)) (sym same) machine in
      let rising = subst (λ told. RisingRows now.merge.merge.table.last_announced (map (row_announced (length s.setup.views)) told)) (front_is now.announcements a first) sound.accounted.rising in
      let named = (subst (AreAnnounced s.setup.views) (front_is now.announcements a first) (all_announced s.setup s.work (store_at_first s.setup) es)).0 in
      record {
        above = rising.0;
        some = named.2;
        there = subst (λ n. All (λ x. x < n) a.concerned) (sym lists_long) (subst (All (λ x. x < length s.setup.views)) (sym named.1) (concerned_there s.setup.views named.0));
        once = subst (AllPairs (λ x y. x ≢ y)) (sym named.1) (concerned_distinct s.setup.views named.0);
      }

  list_fits : (x : ℕ) (list : ActionList) → oldest_list now x ≡ Some list → list.view < length now.merge.lists
  list_fits x list oldest =
      let m = of_some_is (slice_get now.managers x) (λ (m : LoadedManager). front m.lists) list oldest in
      let f = (contents s is works es).managers x m.0 m.1 in
      let own = (subst (λ ls. ListsFit s (keyed m.0.manager.view) x now.numbering f.first_list ls f.last_list) (front_is m.0.lists list m.2) f.lists).0 in
      omega (arith, own, lists_long, (contents s is works es).managers_long, get_within x now.managers m.0 m.1)

  phase_fits : now.store.phase < 2 ^ 62
  phase_fits = subst (λ (p : Pipeline). p.writer.phase < 2 ^ 62) (sym same) (phase_small s is works es)

  pub calls_fit : length now.store.views ≡ length s.setup.views → ((x : ℕ) (view : View) → slice_get s.setup.views x ≡ Some view → (view_in now.store x).columns ≡ row_columns view)
      → ((t : Transaction) → front now.merge.transactions ≡ Some t → now.store.phase % 2 ≡ 0 → AreNet now.store.views (changes_of_transaction s.setup now.store t)) → CallsFit s.setup now
  calls_fit long columns net = record {
    asks = ask_fits s is works es;
    messages = source_there s is works es;
    inputs = input_fits s is works es;
    announcements = rel_fits;
    lists = list_fits;
    begins = λ t first even. record { views = long; columns = columns; lists = first_lists _ now.merge.transactions (all_actions s is works es).transactions t first; phase = phase_fits; net = net t first even };
  }
