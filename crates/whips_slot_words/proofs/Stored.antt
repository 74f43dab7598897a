-- The words of a board hold a store from call to call.
use Rattle.std.proofs.Common.{◌≡◌, ◌≢◌, inl, inr, ℕ, zero, suc, ◌+◌, ◌/◌, ◌%◌, ◌<◌, ◌≤◌, Bool, true, false, cond, eqb, ltb, List, [], ◌∷◌, length, map, get_or, set, Option, Some, None, refl, sym, ap, subst, ◌∙◌, arith}
use Rattle.std.specs.List.{AllByRecursion, sum_by}
use Rattle.std.proofs.lemmas.Bool.{cases_eq, eqb-true}
use Rattle.std.proofs.lemmas.List.{get_or-set_same, get_or-set_other, length-set, length-map, same_lists}
use Rattle.std.proofs.lemmas.List.Sums.{sum_by-cons}
use Rattle.whips_board.specs.History.{words_after}
use Rattle.whips_board.proofs.Histories.{length-words_after}
use Rattle.whips_model.specs.Tuples.{Codes, row_at}
use Rattle.whips_lists.proofs.Members.{all_has}
use Rattle.whips_model.proofs.Keyed.{all_at, all_from_within}
use Rattle.whips_choices.proofs.Rows.{row_found}
use Rattle.whips_rel.specs.declared.update.Change.{Change}
use Rattle.whips_rel.specs.declared.update.Change.TheVariants.{Add, Replace, Remove}
use Rattle.whips_changes.specs.Changes.{union_rows}
use Rattle.whips_net.specs.Made.{change_key}
use Rattle.whips_vnl.specs.Records.{visible, steps_after, seen_after}
use Rattle.whips_vnl.specs.declared.record.Vstep.{Vstep}
use Rattle.whips_store.specs.Versions.{row_seen, rows_shown_at}
use Rattle.whips_store.specs.Stores.{ViewState, StoreState, ChangeLists, no_view, view_in}
use Rattle.whips_store.specs.Calls.{slot_for, records_with, changed_view, views_changed, views_with, changed_once}
use Rattle.whips_store.specs.Sound.{IsSoundView}
use Rattle.whips_store_laws.proofs.Places.{net_change}
use Rattle.whips_store_laws.proofs.Views.{slot_fits, slot_found}
use Rattle.whips_slot_words.specs.Words.{Shape, view_shape, IsSlotOf, phase_of}
use Rattle.whips_slot_words.specs.Stores.{IsUnwritten, IsAllowed}
use Rattle.whips_slot_words.specs.Slots.{steps_of, entries, steps_at, records_at, put_step, step_of_entry, HasRowWidth, change_stores, board_size}
use Rattle.whips_slot_words.specs.StoreLaws.{RecordsShowSlots, SlotsAreRecords, StoresChange, ChangesAreStored, HoldsStore, LooksAreReads, BeginIsStored, PublishIsStored, IsNextChange, NextChangeIsThere, ChangeNextIsStored}
use Rattle.whips_slot_words.proofs.Headers.{at}
use Rattle.whips_slot_words.proofs.Steps.{headers_step, headers_after}
use Rattle.whips_slot_words.proofs.Records.{heads, step_in, heads_at}
use Rattle.whips_slot_words.proofs.Board.{entries_count, heads_are, shows_at, slot_at, records_count, record_at, same_records, phase_keeps, change_lawful, after_is, others_stay, steps_now, phase_now}

pub shows : RecordsShowSlots
shows shape words has x i v slot = shows_at shape words has x i v slot

pub are_slots : SlotsAreRecords
are_slots shape words has x i slot = slot_at shape words has x i slot

pub stored : ChangesAreStored
stored shape words x i change some size has unset wide = record {
  lawful = change_lawful shape some x i words change unset wide;
  phase = ap phase_of (after_is shape some x i words change unset wide) ∙ phase_now shape some x i words change unset wide;
  slot = ap (λ w. steps_at shape w x i) (after_is shape some x i words change unset wide) ∙ steps_now shape some x i words change unset wide size has;
  others = λ y j slot not. ap (λ w. steps_at shape w y j) (after_is shape some x i words change unset wide) ∙ others_stay shape some x i words change unset wide y j slot not;
}

pub looks : LooksAreReads
looks shape words s h x i v slot =
    let lx : x < length s.views = let c = h.count in let l = slot.view in omega (arith, c, l) in
    ap (λ n. visible n v (get_or (view_in s x).records i [])) h.versions
    ∙ ap (λ rs. visible shape.versions v (get_or rs i [])) (h.records x lx)
    ∙ ap (visible shape.versions v) (record_at shape words x i [] slot.slot)
    ∙ shows_at shape words h.headers x i v slot

-- ---- the phase

phase_allowed : (shape : Shape) (words : List ℕ) → IsAllowed shape words 0 (suc (phase_of words))
phase_allowed shape words = inl (refl, refl)

phase_set : (shape : Shape) (words : List ℕ) (u : ℕ) → length words ≡ board_size shape → phase_of (set words 0 u) ≡ u
phase_set shape words u size = get_or-set_same words 0 u 0 (omega (arith, size))

pub begun_at : (vs : List ViewState) (cs : ChangeLists) (x : ℕ) → ((get_or (views_with vs cs) x no_view).records ≡ (get_or vs x no_view).records) × ((get_or (views_with vs cs) x no_view).columns ≡ (get_or vs x no_view).columns)
begun_at [] cs x = (refl, refl)
begun_at (v ∷ vs) [] x = (refl, refl)
begun_at (v ∷ vs) (c ∷ cs) zero = (refl, refl)
begun_at (v ∷ vs) (c ∷ cs) (suc x) = begun_at vs cs x

pub begun_count : (vs : List ViewState) (cs : ChangeLists) → length (views_with vs cs) ≡ length vs
begun_count [] cs = refl
begun_count (v ∷ vs) [] = refl
begun_count (v ∷ vs) (c ∷ cs) = ap suc (begun_count vs cs)

pub begins : BeginIsStored
begins shape words s cs some h =
    let n = begun_count s.views cs in
    record {
      size = length-set words 0 (suc (phase_of words)) ∙ h.size;
      headers = headers_step shape some words 0 (suc (phase_of words)) h.headers (phase_allowed shape words);
      versions = h.versions;
      phase = ap suc h.phase ∙ sym (phase_set shape words (suc (phase_of words)) h.size);
      count = n ∙ h.count;
      records = λ x lt. (begun_at s.views cs x).0 ∙ h.records x (omega (arith, lt, n)) ∙ sym (phase_keeps shape words (suc (phase_of words)) x);
      widths = λ x lt. ap (λ c. length c.kinds) (begun_at s.views cs x).1 ∙ h.widths x (omega (arith, lt, n));
    }

pub published_at : (vs : List ViewState) (x : ℕ) → ((get_or (map (λ (v : ViewState). record v { current = v.next }) vs) x no_view).records ≡ (get_or vs x no_view).records) × ((get_or (map (λ (v : ViewState). record v { current = v.next }) vs) x no_view).columns ≡ (get_or vs x no_view).columns)
published_at [] x = (refl, refl)
published_at (v ∷ vs) zero = (refl, refl)
published_at (v ∷ vs) (suc x) = published_at vs x

pub publishes : PublishIsStored
publishes shape words s some h =
    let n = length-map s.views (λ (v : ViewState). record v { current = v.next }) in
    record {
      size = length-set words 0 (suc (phase_of words)) ∙ h.size;
      headers = headers_step shape some words 0 (suc (phase_of words)) h.headers (phase_allowed shape words);
      versions = h.versions;
      phase = ap suc h.phase ∙ sym (phase_set shape words (suc (phase_of words)) h.size);
      count = n ∙ h.count;
      records = λ x lt. (published_at s.views x).0 ∙ h.records x (omega (arith, lt, n)) ∙ sym (phase_keeps shape words (suc (phase_of words)) x);
      widths = λ x lt. ap (λ c. length c.kinds) (published_at s.views x).1 ∙ h.widths x (omega (arith, lt, n));
    }

-- ---- a change

put_each : (Q : Vstep → Type 0) (s : Vstep) (steps : List Vstep) → AllByRecursion Q (put_step s steps) → Q s × AllByRecursion Q steps
put_each Q s [] all = (all.0, tt)
put_each Q s (t ∷ steps) all = go (ltb s.vn t.vn) all (λ a. put_each Q s steps a)
  where
    go : (b : Bool) → AllByRecursion Q (cond b (t ∷ put_step s steps) (s ∷ t ∷ steps)) → (AllByRecursion Q (put_step s steps) → Q s × AllByRecursion Q steps) → Q s × AllByRecursion Q (t ∷ steps)
    go true all more = let m = more all.1 in (m.0, (all.0, m.1))
    go false all more = (all.0, all.1)

steps_each : (Q : Vstep → Type 0) (e : ℕ) (es : List (ℕ × Codes)) → AllByRecursion Q (steps_of es) → e < length es → at (heads es) e ≢ 0 → Q (step_in es e)
steps_each Q e [] all lt some = absurd (omega (arith, lt))
steps_each Q e (x ∷ es) all lt some = go e lt some (eqb x.0 0) refl all (λ d a l s. steps_each Q d es a l s)
  where
    go : (e : ℕ) → e < suc (length es) → at (heads (x ∷ es)) e ≢ 0 → (b : Bool) → eqb x.0 0 ≡ b → AllByRecursion Q (cond b (steps_of es) (put_step (step_of_entry x.0 x.1) (steps_of es)))
        → ((d : ℕ) → AllByRecursion Q (steps_of es) → d < length es → at (heads es) d ≢ 0 → Q (step_in es d)) → Q (step_in (x ∷ es) e)
    go zero lt some true is all more = absurd (some (eqb-true x.0 0 is))
    go zero lt some false is all more = (put_each Q (step_of_entry x.0 x.1) (steps_of es) all).0
    go (suc d) lt some true is all more = more d all (omega (arith, lt)) some
    go (suc d) lt some false is all more = more d (put_each Q (step_of_entry x.0 x.1) (steps_of es) all).1 (omega (arith, lt)) some

-- a slot in which no step has the version after c may have a change
may_change : (shape : Shape) (words : List ℕ) (x i : ℕ) → IsSlotOf shape x i → phase_of words % 2 ≡ 1 → AllByRecursion (λ (s : Vstep). s.vn < phase_of words / 2 + 1) (steps_at shape words x i) → IsUnwritten shape words x i
may_change shape words x i slot active below = record {
  within = slot;
  active = active;
  older = λ e lt new.
      let n = entries_count shape words x i in
      let is = ap (λ hs. at hs e) (heads_are shape words x i) in
      let some : at (heads (entries shape words x i)) e ≢ 0 = λ z. omega (arith, is, z, new) in
      let low = steps_each (λ (s : Vstep). s.vn < phase_of words / 2 + 1) e (entries shape words x i) below (omega (arith, lt, n)) some in
      let h = heads_at (entries shape words x i) e in
      omega (arith, low, h, is, new);
}

row_width : (width : ℕ) (cols : List ℕ) (new : List Codes) (change : Change) → AllByRecursion (λ t. length t ≡ width) new → row_seen (seen_after change) ≡ row_at cols (change_key cols change) new → HasRowWidth width change
row_width width cols new (Add t) all later = all_has (λ t. length t ≡ width) new all t (row_found cols (change_key cols (Add t)) t new (sym later)).0
row_width width cols new (Replace t) all later = all_has (λ t. length t ≡ width) new all t (row_found cols (change_key cols (Replace t)) t new (sym later)).0
row_width width cols new (Remove key) all later = tt

pub record ChangedAt (n c x : ℕ) (change : Change) (others : List Change) (vs : List ViewState) : Type 0 where
  pub count : length (views_changed n c vs) ≡ length vs
  pub own : get_or (views_changed n c vs) x no_view ≡ changed_view n c change others (get_or vs x no_view)
  pub other : (y : ℕ) → y ≢ x → get_or (views_changed n c vs) y no_view ≡ get_or vs y no_view

pub changed_at : (n c x : ℕ) (change : Change) (others : List Change) (vs : List ViewState) → x < length vs → ((y : ℕ) → y < x → (get_or vs y no_view).left ≡ []) → (get_or vs x no_view).left ≡ change ∷ others → ChangedAt n c x change others vs
changed_at n c x change others [] lt earlier left = absurd (omega (arith, lt))
changed_at n c zero change others (v ∷ vs) lt earlier left = record { count = rw left refl; own = rw left refl; other = other left }
  where
    other : v.left ≡ change ∷ others → (y : ℕ) → y ≢ 0 → get_or (views_changed n c (v ∷ vs)) y no_view ≡ get_or (v ∷ vs) y no_view
    other left zero z = absurd (z refl)
    other left (suc y) z = rw left refl
changed_at n c (suc x) change others (v ∷ vs) lt earlier left =
    let none : v.left ≡ [] = earlier 0 (omega arith) in
    let rest = changed_at n c x change others vs (omega (arith, lt)) (λ y l. earlier (suc y) (omega (arith, l))) left in
    record {
      count = rw none (ap suc rest.count);
      own = rw none rest.own;
      other = λ y. each y none rest;
    }
  where
    each : (y : ℕ) → v.left ≡ [] → ChangedAt n c x change others vs → y ≢ suc x → get_or (views_changed n c (v ∷ vs)) y no_view ≡ get_or (v ∷ vs) y no_view
    each zero none rest z = subst (λ l. get_or (elim l [ [] ↦ v ∷ views_changed n c vs | change ∷ others ↦ changed_view n c change others v ∷ vs ]) 0 no_view ≡ v) (sym none) refl
    each (suc y) none rest z = rw none (rest.other y (λ e. z (ap suc e)))

pub change_next : ChangeNextIsStored
change_next shape words s x i change others h sound next =
    let view = view_in s x in
    let n = s.versions in
    let two = sound.least in
    let vs = h.versions in
    let some : 1 ≤ shape.versions = omega (arith, two, vs) in
    let count = h.count in
    let lx = next.view in
    let sv : IsSoundView n s.phase view = all_at (IsSoundView n s.phase) s.views x no_view sound.views next.view in
    let fits = slot_fits n s.phase view change others two sv next.left i next.slot in
    let rec = h.records x next.view in
    let rc = records_count shape words x in
    let li : i < (view_shape shape x).slots = let f = fits.0 in let l = ap length rec in omega (arith, f, l, rc) in
    let slot : IsSlotOf shape x i = record { view = omega (arith, lx, count); slot = li } in
    let ph = h.phase in
    let active : phase_of words % 2 ≡ 1 = elim (cases_eq (s.phase % 2) 0) [
      | inl even ↦ absurd (let bad : [] ≡ change ∷ others = sym (sv.quiet even) ∙ next.left in cc)
      | inr odd ↦ omega (arith, odd, ph)
    ] in
    let mine : get_or view.records i [] ≡ steps_at shape words x i = ap (λ rs. get_or rs i []) rec ∙ record_at shape words x i [] li in
    let half : s.phase / 2 ≡ phase_of words / 2 = ap (λ p. p / 2) ph in
    let below : AllByRecursion (λ (o : Vstep). o.vn < phase_of words / 2 + 1) (steps_at shape words x i)
    = subst (λ m. AllByRecursion (λ (o : Vstep). o.vn < m + 1) (steps_at shape words x i)) half
    (subst (AllByRecursion (λ (o : Vstep). o.vn < s.phase / 2 + 1)) mine (all_from_within (λ (o : Vstep). o.vn < s.phase / 2 + 1) (get_or view.records i []) fits.2)) in
    let unset = may_change shape words x i slot active below in
    let net = net_change view.columns.key (union_rows view.columns.key (rows_shown_at n (suc (s.phase / 2)) view.records ∷ [])) view.next change others (sv.left ∙ next.left) in
    let wide : HasRowWidth (view_shape shape x).width change = subst (λ w. HasRowWidth w change) (h.widths x next.view) (row_width (length view.columns.kinds) view.columns.key view.next change sv.new.widths net.later) in
    let st = stored shape words x i change some h.size h.headers unset wide in
    (st.lawful, finish shape words s x i change others h next some st li rec mine half (changed_at n (s.phase / 2) x change others s.views next.view next.earlier next.left))
  where
    finish : (shape : Shape) (words : List ℕ) (s : StoreState) (x i : ℕ) (change : Change) (others : List Change) → HoldsStore shape words s → IsNextChange s x i change others → 1 ≤ shape.versions → StoresChange shape words x i change → i < (view_shape shape x).slots
        → (view_in s x).records ≡ records_at shape words x → get_or (view_in s x).records i [] ≡ steps_at shape words x i → s.phase / 2 ≡ phase_of words / 2 → ChangedAt s.versions (s.phase / 2) x change others s.views → HoldsStore shape (words_after words (change_stores shape words x i change)) (changed_once s)
    finish shape words s x i change others h next some st li rec mine half at_x =
        let w' = words_after words (change_stores shape words x i change) in
        let count = at_x.count in
        record {
          size = length-words_after words (change_stores shape words x i change) ∙ h.size;
          headers = headers_after shape some words (change_stores shape words x i change) h.headers st.lawful;
          versions = h.versions;
          phase = h.phase ∙ sym st.phase;
          count = at_x.count ∙ h.count;
          records = λ y lt. elim (cases_eq y x) [
            | inl same ↦ rw same (
                ap (λ (v : ViewState). v.records) at_x.own
                ∙ ap (λ o. records_with s.versions (s.phase / 2) change o (view_in s x).records) next.slot
                ∙ now_records)
            | inr other ↦
                ap (λ (v : ViewState). v.records) (at_x.other y other)
                ∙ h.records y (omega (arith, lt, count))
                ∙ sym (same_records shape words w' y (λ j lj. st.others y j (record { view = let c = h.count in omega (arith, lt, count, c); slot = lj }) (λ e f. other e)))
          ];
          widths = λ y lt. elim (cases_eq y x) [
            | inl same ↦ rw same (ap (λ (v : ViewState). length v.columns.kinds) at_x.own ∙ h.widths x next.view)
            | inr other ↦ ap (λ (v : ViewState). length v.columns.kinds) (at_x.other y other) ∙ h.widths y (omega (arith, lt, count))
          ];
        }
      where
        now_records : set (view_in s x).records i (steps_after s.versions (suc (s.phase / 2)) change (get_or (view_in s x).records i [])) ≡ records_at shape (words_after words (change_stores shape words x i change)) x
        now_records =
            let w' = words_after words (change_stores shape words x i change) in
            let new : steps_after s.versions (suc (s.phase / 2)) change (get_or (view_in s x).records i []) ≡ steps_at shape w' x i =
            ap (λ rs. steps_after s.versions (suc (s.phase / 2)) change rs) mine
            ∙ ap (λ m. steps_after m (suc (s.phase / 2)) change (steps_at shape words x i)) h.versions
            ∙ ap (λ m. steps_after shape.versions (suc m) change (steps_at shape words x i)) half
            ∙ sym st.slot in
            let n = records_count shape words x in
            let n' = records_count shape w' x in
            let m = length-set (records_at shape words x) i (steps_at shape w' x i) in
            ap (λ rs. set rs i (steps_after s.versions (suc (s.phase / 2)) change (get_or (view_in s x).records i []))) rec
            ∙ ap (λ step. set (records_at shape words x) i step) new
            ∙ same_lists (set (records_at shape words x) i (steps_at shape w' x i)) (records_at shape w' x) (m ∙ n ∙ sym n') (λ j d lj.
            let l : j < (view_shape shape x).slots = omega (arith, lj, m, n) in
            elim (cases_eq j i) [
              | inl same ↦ rw same (get_or-set_same (records_at shape words x) i (steps_at shape w' x i) d (omega (arith, li, n)) ∙ sym (record_at shape w' x i d li))
              | inr other ↦
                  get_or-set_other (records_at shape words x) i j (steps_at shape w' x i) d other
                  ∙ record_at shape words x j d l
                  ∙ sym (st.others x j (record { view = let c = h.count in let lx = next.view in omega (arith, c, lx); slot = l }) (λ a b. other b))
                  ∙ sym (record_at shape w' x j d l)
            ])

-- ---- which change is next

next_view : (vs : List ViewState) → 0 < sum_by (λ (v : ViewState). length v.left) vs → (x : ℕ) × (change : Change) × (others : List Change) × (x < length vs) × ((y : ℕ) → y < x → (get_or vs y no_view).left ≡ []) × ((get_or vs x no_view).left ≡ change ∷ others)
next_view [] some = absurd (omega (arith, some))
next_view (v ∷ vs) some = go v.left refl (λ s. next_view vs s)
  where
    go : (l : List Change) → v.left ≡ l → (0 < sum_by (λ (v : ViewState). length v.left) vs → (x : ℕ) × (change : Change) × (others : List Change) × (x < length vs) × ((y : ℕ) → y < x → (get_or vs y no_view).left ≡ []) × ((get_or vs x no_view).left ≡ change ∷ others))
        → (x : ℕ) × (change : Change) × (others : List Change) × (x < suc (length vs)) × ((y : ℕ) → y < x → (get_or (v ∷ vs) y no_view).left ≡ []) × ((get_or (v ∷ vs) x no_view).left ≡ change ∷ others)
    go (change ∷ others) is more = (0, change, others, omega arith, λ y lt. absurd (omega (arith, lt)), is)
    go [] is more =
        let m = more (let e : length v.left ≡ 0 = ap length is in omega (arith, some, e, sum_by-cons (λ (v : ViewState). length v.left) v vs)) in
        (suc m.0, m.1, m.2, omega (arith, m.3), each m.0 m.4, m.5)
      where
        each : (x : ℕ) → ((y : ℕ) → y < x → (get_or vs y no_view).left ≡ []) → (y : ℕ) → y < suc x → (get_or (v ∷ vs) y no_view).left ≡ []
        each x all zero lt = is
        each x all (suc y) lt = all y (omega (arith, lt))

pub next_there : NextChangeIsThere
next_there s sound some =
    let f = next_view s.views some in
    let view = view_in s f.0 in
    let sv : IsSoundView s.versions s.phase view = all_at (IsSoundView s.versions s.phase) s.views f.0 no_view sound.views f.3 in
    go f.0 f.1 f.2 f.3 f.4 f.5 (slot_for s.versions (s.phase / 2) view.columns.key (change_key view.columns.key f.1) view.records) refl (λ none. slot_found s.versions s.phase view f.1 f.2 sound.least sv f.5 none)
  where
    go : (x : ℕ) (change : Change) (others : List Change) → x < length s.views → ((y : ℕ) → y < x → (view_in s y).left ≡ []) → (view_in s x).left ≡ change ∷ others → (o : Option ℕ)
        → slot_for s.versions (s.phase / 2) (view_in s x).columns.key (change_key (view_in s x).columns.key change) (view_in s x).records ≡ o
        → (slot_for s.versions (s.phase / 2) (view_in s x).columns.key (change_key (view_in s x).columns.key change) (view_in s x).records ≡ None → ⊥) → (x i : ℕ) × (change : Change) × (others : List Change) × IsNextChange s x i change others
    go x change others lt earlier left None is some = absurd (some is)
    go x change others lt earlier left (Some i) is some = (x, i, change, others, record { view = lt; earlier = earlier; left = left; slot = is })
