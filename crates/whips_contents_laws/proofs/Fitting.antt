-- Each open query can be asked, and each reply fits when it is taken.
--
-- `are_fitting`: after every list of events the open queries of each manager can be asked, and the reply that a manager takes next fits it (`MessagesAreFitting`).
--
-- The idea: an induction over the events, beside that of the contents. Transactions change no columns, so the relations have the views' bases throughout, and tuples that come have their widths. An answer on such relations fits the query that it answers.
--
-- Two lemmas carry it: `bases_stay` (transactions keep the columns) and `columns_changed`.
use Rattle.std.proofs.Common.{◌≡◌, inl, inr, ℕ, zero, suc, ◌&&◌, true, false, not, cond, List, [], ◌∷◌, ◌++◌, map, Option, Some, None, slice_get, refl, sym, ap, ap₂, subst, ◌∙◌, arith, append_assoc}
use Rattle.std.proofs.lemmas.List.{length-map}
use Rattle.whips_lists.proofs.ByPlace.{get_map_at, get_cases}
use Rattle.whips_lists.proofs.Lists.{front_is}
use Rattle.whips_lists.proofs.Options.{some_same}
use Rattle.whips_lists.proofs.Members.{all_has}
use Rattle.whips_lists.specs.Lists.{changed_at, front, without_front, changed_at as table_changed}
use Rattle.whips_flow.specs.State.{NumberedTransaction}
use Rattle.whips_flow.specs.declared.event.Event.{Event}
use Rattle.whips_flow.specs.declared.event.Event.TheVariants.{Commit, Answer, Integrate, Manage, Rel, Act, Begin, Change, Publish, SessionOpen, SessionScan, SessionFetch, SessionClose}
use Rattle.whips_model.specs.Relation.{Table}
use Rattle.whips_rel.specs.declared.update.Update.TheVariants.{Insert, Delete}
use Rattle.whips_states.specs.States.{Updates, with_row, without_row, updated, applied, all_applied, AreAllValid, AreSoundTables}
use Rattle.whips_view.specs.ViewDefs.{View, keyed, row_columns, columns_in, HasBases}
use Rattle.whips_view.specs.Widths.{widths_of}
use Rattle.whips_actions.specs.declared.action.ActionList.{ActionList}
use Rattle.whips_steps.specs.Steps.{step_parts}
use Rattle.whips_steps.specs.Answers.{step_answer}
use Rattle.whips_steps.proofs.Stepping.{parts_free}
use Rattle.whips_facts.specs.Scripts.{Script}
use Rattle.whips_managers.specs.Messages.{CanAsk, AllCanAsk, HaveWidths, Fits}
use Rattle.whips_merge.specs.declared.lists.Transaction.{Transaction}
use Rattle.whips_query.specs.declared.asks.Reply.{Reply}
use Rattle.whips_store.specs.Stores.{StoreState}
use Rattle.whips_order.specs.Numbering.{next_of, concerned_views}
use Rattle.whips_order.specs.declared.message.Message.{Message}
use Rattle.whips_order.specs.declared.message.Message.TheVariants.{Update as SentUpdate, Reply as SentReply}
use Rattle.whips_ask_laws.proofs.Askable.{fits}
use Rattle.whips_ask_laws.proofs.Bases.{bases_sound}
use Rattle.whips_ask_laws.proofs.Named.{transaction_asks, reply_asks}
use Rattle.whips_contents.specs.Contents.{ManagerInput, numbered_transaction, reply_to_ask, Announcement, LoadedManager, LoadedPipeline, new_loaded_manager, start_loaded}
use Rattle.whips_contents.specs.Events.{with_input, all_with_input, without_oldest_list, state_after_input, manager_after_input, after_integrate, after_input, after_manage, after_announcement, after_list, after_begin, oldest_message, oldest_list, is_enabled_loaded, is_full_for, next_loaded, step_loaded, after_loaded}
use Rattle.whips_contents.proofs.Changes.{map_push}
use Rattle.whips_stage_laws.specs.Fits.{content, relations_after, AnswersOn, InputsFit, no_older, FitsContents, FitsWork}
use Rattle.whips_stage_laws.proofs.Agree.{valid_parts, all_sound}
use Rattle.whips_contents_laws.specs.Fitting.{FitsWidths, QueriesCanAsk, AreFitting, MessagesAreFitting}
use Rattle.whips_contents_laws.proofs.Kept.{start_fits, step_kept}

-- ---- columns stay

pub columns_changed : (f : Table → Table) → ((t : Table) → (f t).columns ≡ t.columns) → (i : ℕ) (db : List Table) (r : ℕ) → columns_in (slice_get (table_changed i f db) r) ≡ columns_in (slice_get db r)
columns_changed f keeps i [] r = refl
columns_changed f keeps zero (t ∷ db) zero = ap (λ c. Some c) (keeps t)
columns_changed f keeps zero (t ∷ db) (suc r) = refl
columns_changed f keeps (suc i) (t ∷ db) zero = refl
columns_changed f keeps (suc i) (t ∷ db) (suc r) = columns_changed f keeps i db r

columns_applied : (t : Updates) (db : List Table) (r : ℕ) → columns_in (slice_get (applied db t) r) ≡ columns_in (slice_get db r)
columns_applied [] db r = refl
columns_applied (Insert q u ∷ t) db r = columns_applied t (updated db (Insert q u)) r ∙ columns_changed (with_row u) (λ t. refl) q db r
columns_applied (Delete q u ∷ t) db r = columns_applied t (updated db (Delete q u)) r ∙ columns_changed (without_row u) (λ t. refl) q db r

columns_all : (ts : List Updates) (db : List Table) (r : ℕ) → columns_in (slice_get (all_applied db ts) r) ≡ columns_in (slice_get db r)
columns_all [] db r = refl
columns_all (t ∷ ts) db r = columns_all ts (applied db t) r ∙ columns_applied t db r

pub bases_stay : (view : View) (db : List Table) (ts : List Updates) → HasBases view db → HasBases view (all_applied db ts)
bases_stay view db ts h = same view.parts.relations ∙ h
  where
    same : (rs : List ℕ) → map (λ r. columns_in (slice_get (all_applied db ts) r)) rs ≡ map (λ r. columns_in (slice_get db r)) rs
    same [] = refl
    same (r ∷ rs) = ap₂ (λ a b. a ∷ b) (columns_all ts db r) (same rs)

-- ---- one moment

module _ (s : Script) (fw : FitsWork s) (wide : FitsWidths s) (l : LoadedPipeline) (h : FitsContents s no_older l) (can : QueriesCanAsk l) where
  reply_fits : (x : ℕ) (m : LoadedManager) (r : Reply) → slice_get l.managers x ≡ Some m → front m.messages ≡ Some (reply_to_ask r) → Fits (keyed m.manager.view) (widths_of m.manager.view) m.manager.state r.update r.origin r.step r.partials
  reply_fits x m r at first = heard i.0 i.1 i.2 i.4
    where
      i : InputsFit s (keyed m.manager.view) (AnswersOn (keyed m.manager.view) m.manager.state) (h.managers x m at).before (h.managers x m at).after (reply_to_ask r ∷ without_front m.messages)
      i = subst (InputsFit s (keyed m.manager.view) (AnswersOn (keyed m.manager.view) m.manager.state) (h.managers x m at).before (h.managers x m at).after) (front_is m.messages (reply_to_ask r) first) (h.managers x m at).inputs

      heard : (skipped rest : List NumberedTransaction) → (h.managers x m at).after ≡ skipped ++ rest → AnswersOn (keyed m.manager.view) m.manager.state (relations_after s ((h.managers x m at).before ++ skipped)) r → Fits (keyed m.manager.view) (widths_of m.manager.view) m.manager.state r.update r.origin r.step r.partials
      heard skipped rest cut a =
          subst (λ ps. Fits (keyed m.manager.view) (widths_of m.manager.view) m.manager.state r.update r.origin r.step ps) (sym a.answer)
          (subst (λ n. Fits (keyed m.manager.view) (widths_of m.manager.view) m.manager.state r.update r.origin n (step_answer m.manager.view.parts (relations_after s ((h.managers x m at).before ++ skipped)) (step_parts (keyed m.manager.view) a.query.origin a.query.step) a.query.partials)) a.step_is
          (subst (λ n. Fits (keyed m.manager.view) (widths_of m.manager.view) m.manager.state r.update n a.query.step (step_answer m.manager.view.parts (relations_after s ((h.managers x m at).before ++ skipped)) (step_parts (keyed m.manager.view) a.query.origin a.query.step) a.query.partials)) a.origin_is
          (subst (λ n. Fits (keyed m.manager.view) (widths_of m.manager.view) m.manager.state n a.query.origin a.query.step (step_answer m.manager.view.parts (relations_after s ((h.managers x m at).before ++ skipped)) (step_parts (keyed m.manager.view) a.query.origin a.query.step) a.query.partials)) a.transaction_is
          (fits (keyed m.manager.view) (widths_of m.manager.view) m.manager.state (relations_after s ((h.managers x m at).before ++ skipped)) a.query a.open_query asks
          (bases_sound m.manager.view (relations_after s ((h.managers x m at).before ++ skipped)) (step_parts (keyed m.manager.view) a.query.origin a.query.step) sound bases (λ part inside. let p = (parts_free (keyed m.manager.view) a.query.origin a.query.step asks.low asks.high part inside).0 in omega (arith, p, length-map m.manager.view.bases (λ b. b.key))))))))
        where
          asks : CanAsk (keyed m.manager.view) (widths_of m.manager.view) a.query
          asks = all_has (CanAsk (keyed m.manager.view) (widths_of m.manager.view)) m.manager.state.queries (can x m at) a.query a.open_query

          bases : HasBases m.manager.view (relations_after s ((h.managers x m at).before ++ skipped))
          bases = bases_stay m.manager.view s.setup.initial (map (content s) ((h.managers x m at).before ++ skipped)) (wide.bases x m.manager.view (h.managers x m at).view)

          sound : AreSoundTables (relations_after s ((h.managers x m at).before ++ skipped))
          sound = all_sound s.setup.initial (map (content s) ((h.managers x m at).before ++ skipped)) wide.tables
              (valid_parts s.setup.initial (map (content s) ((h.managers x m at).before ++ skipped)) (map (content s) rest) (subst (AreAllValid s.setup.initial) (ap (map (content s)) ((h.managers x m at).split ∙ (ap (λ ks. (h.managers x m at).before ++ ks) cut ∙ sym (append_assoc (h.managers x m at).before skipped rest))) ∙ map_push (content s) ((h.managers x m at).before ++ skipped) rest) h.valid)).0

  input_can : (x : ℕ) (m : LoadedManager) → slice_get l.managers x ≡ Some m → (i : ManagerInput) → front m.messages ≡ Some i → AllCanAsk (keyed m.manager.view) (widths_of m.manager.view) (state_after_input m.manager i).queries
  input_can x m at (numbered_transaction k t) first =
      let f = h.managers x m at in
      let i = subst (InputsFit s (keyed m.manager.view) (AnswersOn (keyed m.manager.view) m.manager.state) f.before f.after) (front_is m.messages (numbered_transaction k t) first) f.inputs in
      transaction_asks (keyed m.manager.view) (row_columns m.manager.view) (widths_of m.manager.view) m.manager.state k.number t (subst (HaveWidths (keyed m.manager.view) (widths_of m.manager.view)) (sym i.5) (wide.widths x m.manager.view f.view k.source k.place)) (can x m at)
  input_can x m at (reply_to_ask r) first =
      reply_asks (keyed m.manager.view) (row_columns m.manager.view) (widths_of m.manager.view) m.manager.state r.update r.origin r.step r.partials (h.managers x m at).keeps.invariant.numbered.distinct (reply_fits x m r at first) (can x m at)

  -- a change of managers that leaves their data
  data_stays : (managers : List LoadedManager) → ((x : ℕ) (w : LoadedManager) → slice_get managers x ≡ Some w → (m : LoadedManager) × (slice_get l.managers x ≡ Some m) × (m.manager ≡ w.manager))
      → (x : ℕ) (w : LoadedManager) → slice_get managers x ≡ Some w → AllCanAsk (keyed w.manager.view) (widths_of w.manager.view) w.manager.state.queries
  data_stays managers back x w e = let k = back x w e in subst (λ d. AllCanAsk (keyed d.view) (widths_of d.view) d.state.queries) k.2 (can x k.0 k.1)

  one_changed : (g : LoadedManager → LoadedManager) → ((m : LoadedManager) → m.manager ≡ (g m).manager) → (i : ℕ) (managers : List LoadedManager) (x : ℕ) (w : LoadedManager) → slice_get (changed_at i g managers) x ≡ Some w → (m : LoadedManager) × (slice_get managers x ≡ Some m) × (m.manager ≡ w.manager)
  one_changed g same i managers x w e = elim (get_cases g i x managers w e) [
    | inl (place, (m, is, made)) ↦ (m, subst (λ n. slice_get managers n ≡ Some m) (sym place) is, same m ∙ ap (λ (m : LoadedManager). m.manager) made)
    | inr other ↦ (w, other.1, refl)
  ]

  all_changed : (i : ManagerInput) (xs : List ℕ) (managers : List LoadedManager) (x : ℕ) (w : LoadedManager) → slice_get (all_with_input i managers xs) x ≡ Some w → (m : LoadedManager) × (slice_get managers x ≡ Some m) × (m.manager ≡ w.manager)
  all_changed i [] managers x w e = (w, e, refl)
  all_changed i (y ∷ xs) managers x w e =
      let k = all_changed i xs (changed_at y (with_input i) managers) x w e in
      let j = one_changed (with_input i) (λ m. refl) y managers x k.0 k.1 in
      (j.0, j.1, j.2 ∙ k.2)

  integrated_can : (y : ℕ) (o : Option Message) → QueriesCanAsk (after_integrate s.setup y o l)
  integrated_can y None = can
  integrated_can y (Some (SentUpdate t)) = data_stays (all_with_input (numbered_transaction (next_of l.numbering y) t) l.managers (concerned_views s.setup.views t)) (all_changed (numbered_transaction (next_of l.numbering y) t) (concerned_views s.setup.views t) l.managers)
  integrated_can y (Some (SentReply r)) = data_stays (changed_at r.view (with_input (reply_to_ask r)) l.managers) (one_changed (with_input (reply_to_ask r)) (λ m. refl) r.view l.managers)

  managed_can : (x : ℕ) (o : Option LoadedManager) → slice_get l.managers x ≡ o → QueriesCanAsk (after_manage x o l)
  managed_can x None at = can
  managed_can x (Some m) at = go (front m.messages) refl
    where
      taken : (i : ManagerInput) → front m.messages ≡ Some i → (w : ℕ) (k : LoadedManager) → slice_get (changed_at x (manager_after_input i) l.managers) w ≡ Some k → AllCanAsk (keyed k.manager.view) (widths_of k.manager.view) k.manager.state.queries
      taken i first w k e = elim (get_cases (manager_after_input i) x w l.managers k e) [
        | inl (place, (old, is, made)) ↦ subst (λ (k : LoadedManager). AllCanAsk (keyed k.manager.view) (widths_of k.manager.view) k.manager.state.queries) (ap (manager_after_input i) (some_same m old (sym at ∙ is)) ∙ made) (input_can x m at i first)
        | inr other ↦ can w k other.1
      ]

      go : (o : Option ManagerInput) → front m.messages ≡ o → QueriesCanAsk (after_input x m o l)
      go None e = can
      go (Some i) e = taken i e

  acted_can : (x : ℕ) (o : Option ActionList) → QueriesCanAsk (after_list x o l)
  acted_can x None = can
  acted_can x (Some a) = data_stays (changed_at x without_oldest_list l.managers) (one_changed without_oldest_list (λ m. refl) x l.managers)

  released_can : (o : Option Announcement) → QueriesCanAsk (after_announcement o l)
  released_can None = can
  released_can (Some a) = can

  begun_can : (o : Option Transaction) → QueriesCanAsk (after_begin s.setup o l)
  begun_can None = can
  begun_can (Some t) = can

  next_can : (e : Event) → QueriesCanAsk (next_loaded s.setup l e)
  next_can (Commit y) = can
  next_can (Answer y x) = can
  next_can (Integrate y) = integrated_can y (oldest_message l y)
  next_can (Manage x) = managed_can x (slice_get l.managers x) refl
  next_can Rel = released_can (front l.announcements)
  next_can (Act x) = acted_can x (oldest_list l x)
  next_can Begin = begun_can (front l.merge.transactions)
  next_can Change = can
  next_can Publish = can
  next_can (SessionOpen v) = can
  next_can (SessionScan v x) = can
  next_can (SessionFetch v n) = can
  next_can (SessionClose v) = can

  step_can : (e : Event) → QueriesCanAsk (step_loaded s.setup l e)
  step_can e = elim (is_enabled_loaded l e && not (is_full_for s.setup l e)) as (λ b. QueriesCanAsk (cond b (next_loaded s.setup l e) l)) [ true ↦ next_can e | false ↦ can ]

module _ (s : Script) (store : StoreState) (fw : FitsWork s) (wide : FitsWidths s) where
  after_fitting : (es : List Event) (l : LoadedPipeline) → FitsContents s no_older l → QueriesCanAsk l → AreFitting (after_loaded s.setup l es)
  after_fitting [] l h can = record { queries = can; replies = reply_fits s fw wide l h can }
  after_fitting (e ∷ es) l h can = after_fitting es (step_loaded s.setup l e) (step_kept s fw l h e) (step_can s fw wide l h can e)

  start_can : QueriesCanAsk (start_loaded s.setup s.work store)
  start_can x m e = let k = get_map_at new_loaded_manager 0 x x s.setup.views m (omega arith) e in subst (λ (m : LoadedManager). AllCanAsk (keyed m.manager.view) (widths_of m.manager.view) m.manager.state.queries) k.2 tt

pub are_fitting : MessagesAreFitting
are_fitting s store es fw wide = after_fitting s store fw wide es (start_loaded s.setup s.work store) (start_fits s store fw) (start_can s store fw wide)
