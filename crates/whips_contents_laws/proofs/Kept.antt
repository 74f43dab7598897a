-- The contents fit at the start, and each event keeps that.
--
-- `contents_fit`: after every list of events the contents of a script's pipeline fit (`ContentsFit`).
--
-- The idea: an induction over the events. The start has nothing numbered and nothing on its way, so every queue fits at once. The events of the merge and of the writer leave sources, numbering and managers as they are, and the others are the lemmas on single events.
--
-- Four lemmas carry it: `start_fits`, `next_kept` (each event that is enabled), `act_kept` (a list that has come to the merge counts with those before it) and `relisted` (other lists may be those that count).
use Rattle.std.proofs.Common.{◌≡◌, inl, inr, ℕ, zero, suc, ◌<◌, ◌≤◌, ◌==◌, ◌&&◌, Bool, true, false, not, cond, List, [], ◌∷◌, ◌++◌, length, Option, Some, None, slice_get, refl, sym, ap, subst, ◌∙◌, arith, eq-eqb, eqb-true, length-append, append_assoc}
use Rattle.std.specs.Prelude.{slice_index_or, replicate}
use Rattle.std.specs.Option.{option_and_then, unwrap_or}
use Rattle.std.proofs.lemmas.Bool.{and_parts, eqb-false}
use Rattle.whips_lists.proofs.ByPlace.{get_changed, get_changed_other, get_map_at, get_cases}
use Rattle.whips_lists.proofs.Lists.{front_is, length_changed, length_map_at}
use Rattle.whips_lists.proofs.Options.{some_same}
use Rattle.whips_lists.proofs.Members.{has_none}
use Rattle.whips_lists.specs.Lists.{changed_at, map_with_place, sum_with_place, total, front, without_front}
use Rattle.whips_lists.specs.Members.{Has}
use Rattle.whips_flow.specs.State.{NumberedTransaction}
use Rattle.whips_flow.specs.declared.event.Event.{Event}
use Rattle.whips_flow.specs.declared.event.Event.TheVariants.{Commit, Answer, Integrate, Manage, Rel, Act, Begin, Change, Publish, SessionOpen, SessionScan, SessionFetch, SessionClose}
use Rattle.whips_model.specs.Relation.{Table, value_of}
use Rattle.whips_choices.specs.KeyedViews.{KeyedView}
use Rattle.whips_states.specs.States.{Updates, applied, AreAllValid}
use Rattle.whips_view.specs.ViewDefs.{View, keyed}
use Rattle.whips_actions.specs.declared.action.ActionList.{ActionList}
use Rattle.whips_facts.specs.Scripts.{Script}
use Rattle.whips_merge.specs.declared.lists.Transaction.{Transaction}
use Rattle.whips_query.specs.declared.asks.Ask.{Ask}
use Rattle.whips_store.specs.Stores.{StoreState}
use Rattle.whips_source.specs.Sites.{own_tables, AreOf}
use Rattle.whips_manager_trans_laws.proofs.Relations.{begins_on}
use Rattle.whips_contents.specs.Contents.{ManagerInput, numbered_transaction, reply_to_ask, Announcement, LoadedSource, LoadedManager, LoadedPipeline, new_loaded_source, new_loaded_manager, start_loaded}
use Rattle.whips_contents.specs.Events.{after_input, after_manage, after_announcement, after_list, after_begin, without_oldest_list, oldest_list, is_enabled_loaded, is_full_for, next_loaded, step_loaded, after_loaded}
use Rattle.whips_stage_laws.specs.Fits.{AgreeAt, FitsWork, AnswersOn, IsAnswerOf, InputsFit, ListsFit, SourceFits, Older, Shows, Counts, value_after, ManagerFits, asks_named, inputs_named, source_named, manager_named, in_flight, FitsContents, no_older}
use Rattle.whips_stage_laws.proofs.Agree.{agree_applied, valid_alike}
use Rattle.whips_stage_laws.proofs.Flights.{sum_same, get_is, eqb-no}
use Rattle.whips_contents_laws.specs.Fitting.{ContentsFit}
use Rattle.whips_contents_laws.proofs.Follows.{Follow, answers_follow, asks_follow, source_map, commit_kept, answer_kept, integrate_kept}
use Rattle.whips_contents_laws.proofs.Takes.{take_kept, hear_kept}

module _ (s : Script) (older : ℕ → Older) (fw : FitsWork s) (l : LoadedPipeline) (h : FitsContents s older l) where
  -- ---- manage

  pub manage_kept : (x : ℕ) → FitsContents s older (next_loaded s.setup l (Manage x))
  manage_kept x = go (slice_get l.managers x) refl
    where
      later : (m : LoadedManager) (k : NumberedTransaction) (t : Updates) → slice_get l.managers x ≡ Some m → front m.messages ≡ Some (numbered_transaction k t) → m.manager.state.last < k.number
      later m k t at first =
          let f = h.managers x m at in
          let i = subst (InputsFit s (keyed m.manager.view) (AnswersOn (keyed m.manager.view) m.manager.state) f.before f.after) (front_is m.messages (numbered_transaction k t) first) f.inputs in
          omega (arith, f.taken, i.4, length-append f.before i.0)

      input : (m : LoadedManager) → slice_get l.managers x ≡ Some m → (o : Option ManagerInput) → front m.messages ≡ o → FitsContents s older (after_input x m o l)
      input m at None e = h
      input m at (Some (numbered_transaction k t)) e = take_kept s older fw l h x m at k t e (later m k t at e)
      input m at (Some (reply_to_ask r)) e = hear_kept s older fw l h x m at r e

      go : (o : Option LoadedManager) → slice_get l.managers x ≡ o → FitsContents s older (after_manage x o l)
      go None e = h
      go (Some m) e = input m e (front m.messages) refl

  -- ---- act

  -- the lists that have come, once this one of view x has come behind them
  abbrev pub with_list_of : ℕ → ActionList → ℕ → Older
  with_list_of x list w = record { lists = cond (w == x) ((older w).lists ++ list ∷ []) (older w).lists; rows = (older w).rows; number = (older w).number }

  pub act_kept : (x : ℕ) (list : ActionList) → oldest_list l x ≡ Some list → FitsContents s (with_list_of x list) (after_list x (Some list) l)
  act_kept x list oldest = record {
    managers_long = length_changed without_oldest_list x l.managers ∙ h.managers_long;
    valid = h.valid;
    sources = λ y z e. source_map s (IsAnswerOf l.managers y) (IsAnswerOf (changed_at x without_oldest_list l.managers) y) l.numbering y z (λ db r i a. answers_follow l.managers _ follow y db r a) (h.sources y z e);
    asks = λ y w z qs a e f i. asks_follow l.managers _ follow y w a (h.asks y w z qs a e f i);
    managers = λ w m1 e. elim (get_cases without_oldest_list x w l.managers m1 e) [
      | inl (same, (m, is, made)) ↦ subst (λ m1. ManagerFits s (with_list_of x list w) l.numbering w m1) made (shorter w m same is (h.managers w m (subst (λ n. slice_get l.managers n ≡ Some m) (sym same) is)))
      | inr other ↦ subst (λ ls. ManagerFits s (record { lists = ls; rows = (older w).rows; number = (older w).number }) l.numbering w m1) (ap (λ b. cond b ((older w).lists ++ list ∷ []) (older w).lists) (sym (eqb-no w x other.0))) (h.managers w m1 other.1)
    ];
    once = λ w name. omega (arith, flights w name, h.once w name);
    unnamed = λ w m1 name e lt. elim (get_cases without_oldest_list x w l.managers m1 e) [
      | inl (same, (m, is, made)) ↦ let last : m.manager.state.last ≡ m1.manager.state.last = ap (λ (m : LoadedManager). m.manager.state.last) made in omega (arith, flights w name, h.unnamed w m name (subst (λ n. slice_get l.managers n ≡ Some m) (sym same) is) (omega (arith, last, lt)))
      | inr other ↦ omega (arith, flights w name, h.unnamed w m1 name other.1 lt)
    ];
  }
    where
      follow : Follow l.managers (changed_at x without_oldest_list l.managers)
      follow w m e = elim (w == x) as (λ b. (w == x) ≡ b → (k : LoadedManager) × (slice_get (changed_at x without_oldest_list l.managers) w ≡ Some k) × (m.manager ≡ k.manager)) [
        | true ↦ λ k. (without_oldest_list m, subst (λ j. slice_get (changed_at j without_oldest_list l.managers) w ≡ Some (without_oldest_list m)) (eqb-true w x k) (get_changed without_oldest_list w l.managers m e), refl)
        | false ↦ λ k. (m, get_changed_other without_oldest_list x w l.managers (eqb-false w x k) ∙ e, refl)
      ] refl

      -- the first list on its way is now the last that has come
      shorter : (w : ℕ) (m : LoadedManager) → w ≡ x → slice_get l.managers x ≡ Some m → ManagerFits s (older w) l.numbering w m → ManagerFits s (with_list_of x list w) l.numbering w (without_oldest_list m)
      shorter w m same is f = record {
        view = f.view;
        number = f.number;
        before = f.before;
        after = f.after;
        split = f.split;
        first_list = f.first_list;
        last_list = f.last_list;
        first_known = f.first_known;
        known = f.known;
        keeps = f.keeps;
        taken = f.taken;
        same_value = f.same_value;
        inputs = f.inputs;
        shown = f.shown;
        counted = f.counted;
        lists = subst (λ b. ListsFit s (keyed m.manager.view) w l.numbering f.first_list (cond b ((older w).lists ++ list ∷ []) (older w).lists ++ without_front m.lists) f.last_list) (sym (eq-eqb w x same))
            (subst (λ ls. ListsFit s (keyed m.manager.view) w l.numbering f.first_list ls f.last_list) (ap (λ ls. (older w).lists ++ ls) (front_is m.lists list first) ∙ sym (append_assoc (older w).lists (list ∷ []) (without_front m.lists))) f.lists);
      }
        where
          first : front m.lists ≡ Some list
          first = sym (ap (λ o. option_and_then (λ m. front m.lists) o) is) ∙ oldest

      flights : (w : ℕ) (name : ℕ × ℕ) → sum_with_place (manager_named w name) 0 (changed_at x without_oldest_list l.managers) ≡ sum_with_place (manager_named w name) 0 l.managers
      flights w name = sum_same (manager_named w name) without_oldest_list 0 x l.managers (λ n m e. refl)

  -- the lists that have come and count are others, where the ones on their way fit behind these
  pub relisted : (others : ℕ → Older)
      → ((w : ℕ) (m : LoadedManager) (first last : ℕ) → slice_get l.managers w ≡ Some m → first ≤ length l.numbering → ListsFit s (keyed m.manager.view) w l.numbering first ((older w).lists ++ m.lists) last → Shows (older w).rows (value_after s (keyed m.manager.view) l.numbering first) → Counts (older w).number first
      → (k : ℕ) × (k ≤ length l.numbering) × ListsFit s (keyed m.manager.view) w l.numbering k ((others w).lists ++ m.lists) last × Shows (others w).rows (value_after s (keyed m.manager.view) l.numbering k) × Counts (others w).number k)
      → FitsContents s others l
  relisted others move = record {
    managers_long = h.managers_long;
    valid = h.valid;
    sources = h.sources;
    asks = h.asks;
    once = h.once;
    unnamed = h.unnamed;
    managers = λ w m at. let f = h.managers w m at in let k = move w m f.first_list f.last_list at f.first_known f.lists f.shown f.counted in record {
      view = f.view;
      number = f.number;
      before = f.before;
      after = f.after;
      split = f.split;
      first_list = k.0;
      last_list = f.last_list;
      first_known = k.1;
      known = f.known;
      keeps = f.keeps;
      taken = f.taken;
      same_value = f.same_value;
      inputs = f.inputs;
      lists = k.2;
      shown = k.3;
      counted = k.4;
    };
  }

  -- ---- the merge and the writer leave all of this

  pub same_contents : (k : LoadedPipeline) → FitsContents s older (record k { sources = l.sources; numbering = l.numbering; managers = l.managers })
  same_contents k = record { managers_long = h.managers_long; valid = h.valid; sources = h.sources; asks = h.asks; managers = h.managers; once = h.once; unnamed = h.unnamed }

  pub rel_kept : (o : Option Announcement) → FitsContents s older (after_announcement o l)
  rel_kept None = h
  rel_kept (Some a) = same_contents (after_announcement (Some a) l)

  pub begin_kept : (o : Option Transaction) → FitsContents s older (after_begin s.setup o l)
  begin_kept None = h
  begin_kept (Some t) = same_contents (after_begin s.setup (Some t) l)

-- the first of the lists doesn't count any more
lists_behind : (sc : Script) (v : KeyedView) (x : ℕ) (numbering : List NumberedTransaction) (first : ℕ) (a : ActionList) (ls : List ActionList) (last : ℕ) → ListsFit sc v x numbering first (a ∷ ls) last → (k : ℕ) × (k ≤ length numbering) × ListsFit sc v x numbering k ls last
lists_behind sc v x numbering first a ls last h = (a.upto, h.1, h.3)

module _ (s : Script) (fw : FitsWork s) (l : LoadedPipeline) (h : FitsContents s no_older l) where
  act_none : (x : ℕ) (o : Option ActionList) → oldest_list l x ≡ o → FitsContents s no_older (after_list x o l)
  act_none x None e = h
  act_none x (Some a) e = relisted s (with_list_of s no_older fw l h x a) fw (after_list x (Some a) l) (act_kept s no_older fw l h x a e) no_older (λ w m first last at le f u c. go w m first last le (w == x) f)
    where
      go : (w : ℕ) (m : LoadedManager) (first last : ℕ) → first ≤ length l.numbering → (b : Bool) → ListsFit s (keyed m.manager.view) w l.numbering first (cond b (a ∷ []) [] ++ m.lists) last → (k : ℕ) × (k ≤ length l.numbering) × ListsFit s (keyed m.manager.view) w l.numbering k m.lists last × Unit {0} × Unit {0}
      go w m first last le true f = let k = lists_behind s (keyed m.manager.view) w l.numbering first a m.lists last f in (k.0, k.1, k.2, tt, tt)
      go w m first last le false f = (first, le, f, tt, tt)

  pub next_kept : (e : Event) → is_enabled_loaded l e ≡ true → FitsContents s no_older (next_loaded s.setup l e)
  next_kept (Commit y) en = commit_kept s no_older fw l h y en
  next_kept (Answer y x) en = answer_kept s no_older fw l h y x
  next_kept (Integrate y) en = integrate_kept s no_older fw l h y
  next_kept (Manage x) en = manage_kept s no_older fw l h x
  next_kept Rel en = rel_kept s no_older fw l h (front l.announcements)
  next_kept (Act x) en = act_none x (oldest_list l x) refl
  next_kept Begin en = begin_kept s no_older fw l h (front l.merge.transactions)
  next_kept Change en = same_contents s no_older fw l h (next_loaded s.setup l Change)
  next_kept Publish en = same_contents s no_older fw l h (next_loaded s.setup l Publish)
  next_kept (SessionOpen v) en = h
  next_kept (SessionScan v x) en = h
  next_kept (SessionFetch v n) en = h
  next_kept (SessionClose v) en = h

  pub step_kept : (e : Event) → FitsContents s no_older (step_loaded s.setup l e)
  step_kept e = elim (is_enabled_loaded l e && not (is_full_for s.setup l e)) as (λ b. (is_enabled_loaded l e && not (is_full_for s.setup l e)) ≡ b → FitsContents s no_older (cond b (next_loaded s.setup l e) l)) [
    | true ↦ λ d. next_kept e (and_parts (is_enabled_loaded l e) (not (is_full_for s.setup l e)) d).0
    | false ↦ λ d. h
  ] refl

-- ---- the start

own_agree : (homes : List ℕ) (y : ℕ) (db : List Table) → AgreeAt homes y (own_tables y homes db) db
own_agree [] y db r e = absurd (cc)
own_agree (home ∷ homes) y [] r e = refl
own_agree (home ∷ homes) y (table ∷ db) zero e = ap (λ b. Some (cond b table (record table { rows = [] }))) (eq-eqb home y (some_same home y e))
own_agree (home ∷ homes) y (table ∷ db) (suc r) e = own_agree homes y db r e

all_valid_alike : (homes : List ℕ) (y : ℕ) (ts : List Updates) (db others : List Table) → AgreeAt homes y db others → AreOf homes y ts → AreAllValid db ts → AreAllValid others ts
all_valid_alike homes y [] db others a own v = tt
all_valid_alike homes y (t ∷ ts) db others a own v = (valid_alike homes y t db others a own.0 v.0, all_valid_alike homes y ts (applied db t) (applied others t) (agree_applied homes y t db others a) own.1 v.1)

pub none_at : {A : Type 0} (d : A) (n x : ℕ) → slice_index_or (replicate n d) x d ≡ d
none_at d zero x = refl
none_at d (suc n) zero = refl
none_at d (suc n) (suc x) = none_at d n x

sum_none : {A B : Type 0} (w : ℕ → B → ℕ) (g : ℕ → A → B) (k j : ℕ) (xs : List A) → ((n i : ℕ) (x : A) → w n (g i x) ≡ 0) → sum_with_place w k (map_with_place g j xs) ≡ 0
sum_none w g k j [] h = refl
sum_none w g k j (x ∷ xs) h = omega (arith, h k j x, sum_none w g (suc k) (suc j) xs h)

module _ (s : Script) (store : StoreState) (fits : FitsWork s) where
  new_source : (y : ℕ) (ts : List Updates) → slice_get s.work y ≡ Some ts → SourceFits s (IsAnswerOf (start_loaded s.setup s.work store).managers y) [] y (new_loaded_source s.setup y ts)
  new_source y ts e =
      let t = fits.transactions y ts e in
      record {
        relations = own_tables y s.setup.homes s.setup.initial;
        agree = own_agree s.setup.homes y s.setup.initial;
        messages = record { views = refl; commits = refl; left = sym (ap (λ o. unwrap_or o []) e); relations = λ r k. refl; valid = all_valid_alike s.setup.homes y ts s.setup.initial (own_tables y s.setup.homes s.setup.initial) (λ r k. sym (own_agree s.setup.homes y s.setup.initial r k)) t.own t.valid; own = t.own };
      }

  pub new_manager_fits : (older : Older) (x : ℕ) (view : View) → older.lists ≡ [] → Shows older.rows (value_of view.parts s.setup.initial) → Counts older.number 0 → slice_get s.setup.views x ≡ Some view → ManagerFits s older [] x (new_loaded_manager x view)
  new_manager_fits older x view none rows counts e = record {
    view = e;
    number = refl;
    before = [];
    after = [];
    split = refl;
    first_list = 0;
    last_list = 0;
    first_known = omega arith;
    known = omega arith;
    keeps = begins_on (keyed view) s.setup.initial 0 (fits.views x view e).view (fits.views x view e).relations;
    taken = omega arith;
    same_value = refl;
    inputs = tt;
    lists = subst (λ ls. ListsFit s (keyed view) x [] 0 (ls ++ []) 0) (sym none) refl;
    shown = rows;
    counted = counts;
  }

  none_in_flight : (x : ℕ) (name : ℕ × ℕ) → in_flight x name (start_loaded s.setup s.work store) ≡ 0
  none_in_flight x name =
      let a = sum_none (source_named x name) (new_loaded_source s.setup) 0 0 s.work (λ n y ts. let c = ap (total (asks_named name)) (none_at {A = List Ask} [] (length s.setup.views) x) in omega (arith, c)) in
      let b = sum_none (manager_named x name) new_loaded_manager 0 0 s.setup.views (λ n i view. elim (n == x) as (λ b. cond b (total (inputs_named name) []) 0 ≡ 0) [ true ↦ refl | false ↦ refl ]) in
      omega (arith, a, b)

  pub start_fits : FitsContents s no_older (start_loaded s.setup s.work store)
  start_fits = record {
    managers_long = length_map_at new_loaded_manager 0 s.setup.views;
    valid = tt;
    sources = λ y z e. let k = get_map_at (new_loaded_source s.setup) 0 y y s.work z (omega arith) e in subst (λ z. SourceFits s (IsAnswerOf (start_loaded s.setup s.work store).managers y) [] y z) k.2 (new_source y k.0 k.1);
    asks = λ y x z qs a e f i.
        let k = get_map_at (new_loaded_source s.setup) 0 y y s.work z (omega arith) e in
        let none : qs ≡ [] = sym (get_is (replicate (length s.setup.views) []) x qs [] (ap (λ (z : LoadedSource). slice_get z.asks x) k.2 ∙ f)) ∙ none_at {A = List Ask} [] (length s.setup.views) x in
        absurd (has_none a (subst (λ l. Has a l) none i));
    managers = λ x m e. let k = get_map_at new_loaded_manager 0 x x s.setup.views m (omega arith) e in subst (λ m. ManagerFits s (no_older x) [] x m) k.2 (new_manager_fits (no_older x) x k.0 refl tt tt k.1);
    once = λ x name. omega (arith, none_in_flight x name);
    unnamed = λ x m name e lt. none_in_flight x name;
  }

  pub after_fits : (es : List Event) (l : LoadedPipeline) → FitsContents s no_older l → FitsContents s no_older (after_loaded s.setup l es)
  after_fits [] l h = h
  after_fits (e ∷ es) l h = after_fits es (step_loaded s.setup l e) (step_kept s fits l h e)

pub contents_fit : ContentsFit
contents_fit s store es fits = after_fits s store fits es (start_loaded s.setup s.work store) (start_fits s store fits)
