-- What a store on a board keeps at each call.
--
-- `begun_kept`, `changed_kept`, `published_kept`: what is kept (`IsKept`) is kept once a transaction has begun, once the next change is
-- stored, and once a version is committed. `first_kept`: it holds at first. `with_past`: it holds of the store with its past told too.
--
-- The idea: the values that are told (`values_told`) are those of a history up to the committed version, and the rows that are written
-- above it. A call changes neither at a version that is live, and where it tells more it tells what is shown, so a history that is
-- faithful to the values told before is faithful to those told then (`carries_other`).
use Rattle.std.proofs.Common.{◌≡◌, inl, inr, ℕ, zero, suc, ◌+◌, ◌*◌, ◌/◌, ◌%◌, ◌<◌, ◌≤◌, cond, ltb, List, [], ◌∷◌, ◌++◌, length, map, get_or, take, Option, Some, None, refl, sym, ap, ap₂, subst, ◌∙◌, arith, lt-ltb, le-ltb, append-nil}
use Rattle.std.specs.Prelude.{◌^◌}
use Rattle.std.specs.List.{AllByRecursion}
use Rattle.std.proofs.Math.ListN.{get_or-map}
use Rattle.std.proofs.lemmas.Bool.{cases_lt}
use Rattle.std.proofs.lemmas.List.{length-map, length_push, get_or_append_left, get_or_push, take_all}
use Rattle.whips_model.specs.Tuples.{Codes}
use Rattle.whips_model.proofs.Keyed.{all_at}
use Rattle.whips_rel.specs.declared.update.Change.{Change}
use Rattle.whips_board.specs.Seats.{BoardId}
use Rattle.whips_board.specs.History.{words_after}
use Rattle.whips_board.proofs.Histories.{words_after-push}
use Rattle.whips_setup.specs.Setups.{SetupData}
use Rattle.whips_setup.specs.Refusals.{IsSetup}
use Rattle.whips_store.specs.Stores.{ViewState, StoreState, ChangeLists, no_view, view_in, changes_left}
use Rattle.whips_store.specs.Versions.{rows_shown_at}
use Rattle.whips_store.specs.Calls.{AreNet, shortage, begun, views_with, changed_view, changed_once, views_changed, published}
use Rattle.whips_store.specs.First.{store_at_first}
use Rattle.whips_store.specs.Sound.{IsSoundView, IsSoundStore}
use Rattle.whips_store_laws.specs.Laws.{AreTables}
use Rattle.whips_faithful_laws.specs.Faithful.{AreRowsOf, new_rows}
use Rattle.whips_faithful_laws.specs.Laws.{LeadToNext, initial_values}
use Rattle.whips_faithful_laws.proofs.Shapes.{by_left, begun_length, changed_length}
use Rattle.whips_slot_words.specs.Words.{Shape, phase_of}
use Rattle.whips_slot_words.specs.Slots.{change_stores, board_size}
use Rattle.whips_slot_words.specs.StoreLaws.{IsNextChange, shape_of}
use Rattle.whips_slot_words.proofs.Steps.{phase_between}
use Rattle.whips_slot_laws.specs.Histories.{rows_picked}
use Rattle.whips_slot_laws.specs.Calls.{Carries, phase_store}
use Rattle.whips_slot_laws.proofs.Calls.{begin_carried, change_carried, publish_carried, first_carried}
use Rattle.whips_slots.specs.Boards.{first_words}
use Rattle.whips_board_store.specs.Past.{values_shown, values_committed, past_of, keys_of, past_on_board, values_told}
use Rattle.whips_board_store.specs.Stores.{CarriesTold, IsKept}
use Rattle.whips_board_store.proofs.Past.{committed_more, change_commits_nothing, begin_commits_nothing, publish_commits, shows_current}

-- ---- other values

-- a prefix of a history has no later phase
no_later : (shape : Shape) (first : List ℕ) (keys : ℕ → List ℕ) (values : ℕ → ℕ → List Codes) (history : List (ℕ × ℕ)) (s : StoreState) (k : ℕ) → Carries shape first keys values history s
    → phase_of (words_after first (take k history)) ≤ s.phase
no_later shape first keys values history s k h =
    let two = h.sound.least in
    let vs = h.held.store.versions in
    let ph = h.held.store.phase in
    let some : 1 ≤ shape.versions = omega (arith, two, vs) in
    elim (cases_lt k (length history)) [
      | inl lt ↦
          let b = phase_between shape some first history k (length history) (omega (arith, lt)) h.faithful.lawful in
          let e = ap (λ l. phase_of (words_after first l)) (take_all (length history) history (omega arith)) in
          omega (arith, b, e, ph)
      | inr ge ↦ let e = ap (λ l. phase_of (words_after first l)) (take_all k history ge) in omega (arith, e, ph)
    ]

-- A history is faithful to other values too that are the same up to the version that is written.
pub carries_other : (shape : Shape) (first : List ℕ) (keys : ℕ → List ℕ) (values others : ℕ → ℕ → List Codes) (history : List (ℕ × ℕ)) (s : StoreState) → Carries shape first keys values history s
    → ((x v : ℕ) → x < length s.views → v ≤ (s.phase + 1) / 2 → values x v ≡ others x v) → Carries shape first keys others history s
carries_other shape first keys values others history s h same = record {
  faithful = record {
    lawful = h.faithful.lawful;
    shown = λ k x v lx live.
        let n = h.held.store.count in
        let low = live.committed in
        let up = no_later shape first keys values history s k h in
        subst (λ t. AreRowsOf (keys x) t (rows_picked shape (words_after first (take k history)) x v)) (same x v (omega (arith, lx, n)) (omega (arith, low, up))) (h.faithful.shown k x v lx live);
  };
  held = record {
    store = h.held.store;
    faithful = λ x lt.
        let f = h.held.faithful x lt in
        record {
          shown = λ w live. let low = live.committed in subst (λ t. AreRowsOf (view_in s x).columns.key t (rows_shown_at s.versions w (view_in s x).records)) (same x w lt (omega (arith, low))) (f.shown w live);
          current = f.current ∙ same x (s.phase / 2) lt (omega arith);
          new = f.new ∙ same x ((s.phase + 1) / 2) lt (omega arith);
          active = f.active;
        };
    same_keys = h.held.same_keys;
  };
  sound = h.sound;
}

-- What is told of the past is no part of what a history carries.
pub carries_past : (shape : Shape) (first : List ℕ) (keys : ℕ → List ℕ) (values : ℕ → ℕ → List Codes) (history : List (ℕ × ℕ)) (s : StoreState) (past : Option (List (List (List Codes)))) → Carries shape first keys values history s
    → Carries shape first keys values history (record s { past = past })
carries_past shape first keys values history s past h =
    let hs = h.held.store in
    record {
      faithful = h.faithful;
      held = record {
        store = record { size = hs.size; headers = hs.headers; versions = hs.versions; phase = hs.phase; count = hs.count; records = hs.records; widths = hs.widths };
        faithful = h.held.faithful;
        same_keys = h.held.same_keys;
      };
      sound = record { least = h.sound.least; most = h.sound.most; views = h.sound.views };
    }

-- ---- the values told

told_below : (past : List (List (List Codes))) (s : StoreState) (x v : ℕ) → v < length past → values_told past s x v ≡ get_or (get_or past v []) x []
told_below past s x v lt = ap (λ b. cond b (get_or (get_or past v []) x []) (view_in s x).next) (lt-ltb v (length past) lt)

told_above : (past : List (List (List Codes))) (s : StoreState) (x v : ℕ) → length past ≤ v → values_told past s x v ≡ (view_in s x).next
told_above past s x v le = ap (λ b. cond b (get_or (get_or past v []) x []) (view_in s x).next) (le-ltb v (length past) le)

-- the same past and the same rows that are written
told_same : (past : List (List (List Codes))) (s t : StoreState) (x v : ℕ) → (view_in s x).next ≡ (view_in t x).next → values_told past s x v ≡ values_told past t x v
told_same past s t x v same = ap (λ l. cond (ltb v (length past)) (get_or (get_or past v []) x []) l) same

-- ---- a begin

new_row : (vs : List ViewState) (cs : ChangeLists) (x : ℕ) → AreNet vs cs → x < length vs → new_rows cs x ≡ (get_or (views_with vs cs) x no_view).next
new_row [] cs x net lt = absurd (omega (arith, lt))
new_row (v ∷ vs) [] x net lt = absurd net
new_row (v ∷ vs) (c ∷ cs) zero net lt = refl
new_row (v ∷ vs) (c ∷ cs) (suc x) net lt = new_row vs cs x net.1 (omega (arith, lt))

-- the rows afterwards are tables where the store is sound then
tables_of : (n phase : ℕ) (vs : List ViewState) (cs : ChangeLists) → AreNet vs cs → AllByRecursion (IsSoundView n phase) (views_with vs cs) → AreTables cs
tables_of n phase [] [] net sound = tt
tables_of n phase [] (c ∷ cs) net sound = absurd net
tables_of n phase (v ∷ vs) [] net sound = absurd net
tables_of n phase (v ∷ vs) (c ∷ cs) net sound = (rw net.0.0 sound.0.new, tables_of n phase vs cs net.1 sound.1)

same_past : (setup : SetupData) (history stores : List (ℕ × ℕ)) → values_committed (shape_of setup) (keys_of setup) (words_after (first_words setup) history) stores ≡ [] → past_on_board setup (history ++ stores) ≡ past_on_board setup history
same_past setup history stores none =
    let shape = shape_of setup in
    let keys = keys_of setup in
    let first = first_words setup in
    ap (λ l. values_shown shape keys first 0 ∷ l) (committed_more shape keys first history stores ∙ ap (λ l. values_committed shape keys first history ++ l) none ∙ append-nil (values_committed shape keys first history))

pub begun_past : (setup : SetupData) (history : List (ℕ × ℕ)) (s : StoreState) (p : ℕ) → s.phase % 2 ≡ 0 → p ≡ suc s.phase → past_on_board setup (history ++ (0, p) ∷ []) ≡ past_on_board setup history
begun_past setup history s p even is = same_past setup history ((0, p) ∷ []) (begin_commits_nothing (shape_of setup) (keys_of setup) (words_after (first_words setup) history) p (omega (arith, even, is)))

pub begun_kept : (setup : SetupData) (board : BoardId Shape) (history : List (ℕ × ℕ)) (s : StoreState) (cs : ChangeLists) (p : ℕ) → IsKept setup board history s
    → s.phase % 2 ≡ 0 → s.phase < 2 ^ 62 → AreNet s.views cs → shortage s cs ≡ None → IsSoundStore (begun cs s) → p ≡ suc s.phase
    → IsKept setup board (history ++ (0, p) ∷ []) (begun cs s)
begun_kept setup board history s cs p h even low net room sound is =
    let shape = shape_of setup in
    let keys = keys_of setup in
    let first = first_words setup in
    let past = past_on_board setup history in
    let ph = h.carried.held.store.phase in
    let count = h.count in
    let whole : history ++ (0, p) ∷ [] ≡ phase_store first history = ap (λ (q : ℕ). history ++ (0, q) ∷ []) (is ∙ ap suc ph) in
    let same = begun_past setup history s p even is in
    let other : Carries shape first keys (values_told past (begun cs s)) history s = carries_other shape first keys (values_told past s) (values_told past (begun cs s)) history s h.carried (λ x v lx le.
    let below : v < length past = omega (arith, le, even, count) in
    told_below past s x v below ∙ sym (told_below past (begun cs s) x v below)) in
    let next : LeadToNext (values_told past (begun cs s)) s cs = λ x lx. new_row s.views cs x net lx ∙ sym (told_above past (begun cs s) x (suc (s.phase / 2)) (omega (arith, count))) in
    let carried : Carries shape first keys (values_told past (begun cs s)) (phase_store first history) (begun cs s) = begin_carried shape first keys (values_told past (begun cs s)) history s cs other even net (tables_of s.versions (suc s.phase) s.views cs net sound.views) room next in
    record {
      law = h.law;
      first = h.first;
      size = h.size;
      carried = subst (λ l. Carries shape first keys (values_told l (begun cs s)) (history ++ (0, p) ∷ []) (begun cs s)) (sym same) (subst (λ l. Carries shape first keys (values_told past (begun cs s)) l (begun cs s)) (sym whole) carried);
      count = ap length same ∙ (let e : length past ≡ suc (suc s.phase / 2) = omega (arith, count, even) in e);
      phase = omega (arith, low);
    }

-- ---- a change

next_stays : (n c : ℕ) (vs : List ViewState) (x : ℕ) → (get_or vs x no_view).next ≡ (get_or (views_changed n c vs) x no_view).next
next_stays n c [] x = refl
next_stays n c (v ∷ vs) x = go v.left x (λ y. next_stays n c vs y)
  where
    go : (left : List Change) (x : ℕ) → ((y : ℕ) → (get_or vs y no_view).next ≡ (get_or (views_changed n c vs) y no_view).next) → (get_or (v ∷ vs) x no_view).next ≡ (get_or (by_left n c v vs left) x no_view).next
    go [] zero more = refl
    go [] (suc x) more = more x
    go (change ∷ others) zero more = refl
    go (change ∷ others) (suc x) more = refl

pub changed_past : (setup : SetupData) (history : List (ℕ × ℕ)) (x i : ℕ) (change : Change) → past_on_board setup (history ++ change_stores (shape_of setup) (words_after (first_words setup) history) x i change) ≡ past_on_board setup history
changed_past setup history x i change =
    let words = words_after (first_words setup) history in
    same_past setup history (change_stores (shape_of setup) words x i change) (change_commits_nothing (shape_of setup) (keys_of setup) words words x i change)

pub changed_kept : (setup : SetupData) (board : BoardId Shape) (history : List (ℕ × ℕ)) (s : StoreState) (x i : ℕ) (change : Change) (others : List Change) → IsKept setup board history s → IsNextChange s x i change others
    → IsKept setup board (history ++ change_stores (shape_of setup) (words_after (first_words setup) history) x i change) (changed_once s)
changed_kept setup board history s x i change others h next =
    let shape = shape_of setup in
    let keys = keys_of setup in
    let first = first_words setup in
    let past = past_on_board setup history in
    let stores = change_stores shape (words_after first history) x i change in
    let same = changed_past setup history x i change in
    let carried : Carries shape first keys (values_told past s) (history ++ stores) (changed_once s) = change_carried shape first keys (values_told past s) history s x i change others h.carried next in
    let other : Carries shape first keys (values_told past (changed_once s)) (history ++ stores) (changed_once s) = carries_other shape first keys (values_told past s) (values_told past (changed_once s)) (history ++ stores) (changed_once s) carried
    (λ y v ly le. told_same past s (changed_once s) y v (next_stays s.versions (s.phase / 2) s.views y)) in
    record {
      law = h.law;
      first = h.first;
      size = h.size;
      carried = subst (λ l. Carries shape first keys (values_told l (changed_once s)) (history ++ stores) (changed_once s)) (sym same) other;
      count = ap length same ∙ h.count;
      phase = h.phase;
    }

-- ---- a publish

current_once : (vs : List ViewState) → map (λ (v : ViewState). v.current) (map (λ (v : ViewState). record v { current = v.next }) vs) ≡ map (λ (v : ViewState). v.next) vs
current_once [] = refl
current_once (v ∷ vs) = ap (λ l. v.next ∷ l) (current_once vs)

carried_once : (setup : SetupData) (history : List (ℕ × ℕ)) (s : StoreState) (p : ℕ) → CarriesTold setup history s → s.phase % 2 ≡ 1 → changes_left s ≡ 0 → p ≡ suc s.phase
    → Carries (shape_of setup) (first_words setup) (keys_of setup) (values_told (past_on_board setup history) s) (history ++ (0, p) ∷ []) (published s)
carried_once setup history s p h odd none is =
    let first = first_words setup in
    let whole : history ++ (0, p) ∷ [] ≡ phase_store first history = ap (λ (q : ℕ). history ++ (0, q) ∷ []) (is ∙ ap suc h.held.store.phase) in
    subst (λ l. Carries (shape_of setup) first (keys_of setup) (values_told (past_on_board setup history) s) l (published s)) (sym whole)
    (publish_carried (shape_of setup) first (keys_of setup) (values_told (past_on_board setup history) s) history s h odd none)

-- what is told once more is committed: the rows that were written
pub published_past : (setup : SetupData) (history : List (ℕ × ℕ)) (s : StoreState) (p : ℕ) → CarriesTold setup history s → s.phase % 2 ≡ 1 → changes_left s ≡ 0 → p ≡ suc s.phase
    → past_on_board setup (history ++ (0, p) ∷ []) ≡ past_on_board setup history ++ map (λ (v : ViewState). v.next) s.views ∷ []
published_past setup history s p h odd none is =
    let shape = shape_of setup in
    let keys = keys_of setup in
    let first = first_words setup in
    let words = words_after first history in
    let c = carried_once setup history s p h odd none is in
    let shown : values_shown shape keys (words_after first (history ++ (0, p) ∷ [])) (suc s.phase / 2) ≡ map (λ (v : ViewState). v.next) s.views =
    shows_current shape keys (words_after first (history ++ (0, p) ∷ [])) (published s) c.held.store c.sound c.held.same_keys ∙ current_once s.views in
    let once = publish_commits shape keys words p (omega (arith, odd, is))
    ∙ ap (λ l. l ∷ []) (ap₂ (λ w v. values_shown shape keys w v) (sym (words_after-push first history (0, p))) (ap (λ q. q / 2) is) ∙ shown) in
    ap (λ l. values_shown shape keys first 0 ∷ l) (committed_more shape keys first history ((0, p) ∷ []) ∙ ap (λ l. values_committed shape keys first history ++ l) once)

pub published_kept : (setup : SetupData) (board : BoardId Shape) (history : List (ℕ × ℕ)) (s : StoreState) (p : ℕ) → IsKept setup board history s → s.phase % 2 ≡ 1 → changes_left s ≡ 0 → p ≡ suc s.phase
    → IsKept setup board (history ++ (0, p) ∷ []) (published s)
published_kept setup board history s p h odd none is =
    let shape = shape_of setup in
    let keys = keys_of setup in
    let first = first_words setup in
    let past = past_on_board setup history in
    let rows = map (λ (v : ViewState). v.next) s.views in
    let count = h.count in
    let most = h.phase in
    let many = length_push past rows in
    let same = published_past setup history s p h.carried odd none is in
    let other : Carries shape first keys (values_told (past ++ rows ∷ []) (published s)) (history ++ (0, p) ∷ []) (published s) =
    carries_other shape first keys (values_told past s) (values_told (past ++ rows ∷ []) (published s)) (history ++ (0, p) ∷ []) (published s) (carried_once setup history s p h.carried odd none is) (λ x v lx le. elim (cases_lt v (length past)) [
      | inl below ↦
          told_below past s x v below
          ∙ ap (λ l. get_or l x []) (sym (get_or_append_left past (rows ∷ []) [] v below))
          ∙ sym (told_below (past ++ rows ∷ []) (published s) x v (omega (arith, below, many)))
      | inr from ↦
          let top : v ≡ length past = omega (arith, from, le, count, odd) in
          told_above past s x v from
          ∙ sym (get_or-map (λ (w : ViewState). w.next) s.views x no_view)
          ∙ ap (λ l. get_or l x []) (sym (get_or_push past rows [] v (sym top)))
          ∙ sym (told_below (past ++ rows ∷ []) (published s) x v (omega (arith, top, many)))
    ]) in
    record {
      law = h.law;
      first = h.first;
      size = h.size;
      carried = subst (λ l. Carries shape first keys (values_told l (published s)) (history ++ (0, p) ∷ []) (published s)) (sym same) other;
      count = ap length same ∙ (let e : length (past ++ rows ∷ []) ≡ suc (suc s.phase / 2) = omega (arith, many, count, odd) in e);
      phase = omega (arith, most, odd);
    }

-- ---- at first

pub first_kept : (setup : SetupData) (board : BoardId Shape) (s : StoreState) → IsSetup setup → board.law ≡ shape_of setup → board.first ≡ first_words setup → board_size (shape_of setup) < 2 ^ 32 → s ≡ store_at_first setup → IsKept setup board [] s
first_kept setup board s h law is size e =
    let shape = shape_of setup in
    let keys = keys_of setup in
    let first = first_words setup in
    let at = store_at_first setup in
    let past = past_on_board setup [] in
    let c = first_carried setup h in
    let shown : values_shown shape keys first 0 ≡ map (λ (v : ViewState). v.current) at.views = shows_current shape keys first at c.held.store c.sound c.held.same_keys in
    let other : Carries shape first keys (values_told past at) [] at = carries_other shape first keys (initial_values setup) (values_told past at) [] at c (λ x v lx le.
    let zeroth : v ≡ 0 = omega (arith, le) in
    ap (initial_values setup x) zeroth
    ∙ sym (c.held.faithful x lx).current
    ∙ sym (get_or-map (λ (w : ViewState). w.current) at.views x no_view)
    ∙ ap (λ l. get_or l x []) (sym shown)
    ∙ sym (ap (values_told past at x) zeroth ∙ told_below past at x 0 (omega arith))) in
    subst (IsKept setup board []) (sym e) (record {
      law = law;
      first = is;
      size = size;
      carried = other;
      count = refl;
      phase = omega arith;
    })
