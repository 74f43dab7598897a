-- Calls of a store whose words are on a board.
use Rattle.std.proofs.Common.{◌≡◌, inl, inr, ℕ, suc, ◌/◌, ◌≤◌, Bool, true, false, cond, leb, List, [], ◌∷◌, length, Some, None, refl, sym, ap, subst, ◌∙◌, arith}
use Rattle.std.specs.List.{AllByRecursion}
use Rattle.std.proofs.lemmas.Bool.{cases_eq, leb-true}
use Rattle.std.proofs.lemmas.List.{length-map}
use Rattle.whips_model.specs.Relation.{Table, value_of}
use Rattle.whips_states.specs.States.{AreSoundTables}
use Rattle.whips_view.specs.ViewDefs.{View, HasBases, IsWellFormed}
use Rattle.whips_view.proofs.Valued.{value_table}
use Rattle.whips_setup.specs.declared.error.SetupErr.TheVariants.{Limit, Slots}
use Rattle.whips_setup.specs.Setups.{columns_of}
use Rattle.whips_setup.specs.Limits.{is_within_limits}
use Rattle.whips_setup.specs.Refusals.{slots_refusal}
use Rattle.whips_board.specs.History.{words_after}
use Rattle.whips_board.proofs.Histories.{words_after-push}
use Rattle.whips_store.specs.Stores.{ViewState, view_in}
use Rattle.whips_store.specs.Calls.{begun, changed_once, published}
use Rattle.whips_store.specs.First.{store_at_first}
use Rattle.whips_store_laws.proofs.Whole.{begin_keeps, change_keeps, publish_keeps}
use Rattle.whips_faithful_laws.proofs.First.{first_sound, first}
use Rattle.whips_faithful_laws.proofs.Calls.{begin_keeps as begin_faithful, change_keeps as change_faithful, publish_keeps_faithful as publish_faithful}
use Rattle.whips_faithful_laws.specs.Laws.{initial_values}
use Rattle.whips_slot_words.specs.Words.{phase_of, layout}
use Rattle.whips_slot_words.specs.Laws.{AreFirstRows}
use Rattle.whips_slot_words.specs.Slots.{change_stores}
use Rattle.whips_slot_words.specs.StoreLaws.{HoldsStore, shapes_of, shape_of, first_values}
use Rattle.whips_slot_words.proofs.Stored.{begins, publishes, change_next, begun_at, begun_count, published_at, changed_at}
use Rattle.whips_slot_words.proofs.FirstStore.{first_stored}
use Rattle.whips_slot_laws.specs.Histories.{HoldsFaithful}
use Rattle.whips_slot_laws.specs.Calls.{phase_store, BeginIsCarried, PublishIsCarried, ChangeIsCarried, FirstRowsFit, FirstIsCarried}
use Rattle.whips_slot_laws.proofs.Histories.{after_more, empty, changes, phases}

pub begin_carried : BeginIsCarried
begin_carried shape first keys values history s cs h even net tables room next =
    let words = words_after first history in
    let hs = h.held.store in
    let two = h.sound.least in
    let vs = hs.versions in
    let some : 1 ≤ shape.versions = omega (arith, two, vs) in
    let push = words_after-push first history (0, suc (phase_of words)) in
    let n = begun_count s.views cs in
    let held : HoldsFaithful shape (words_after first (phase_store first history)) keys values (begun cs s) = record {
      store = subst (λ w. HoldsStore shape w (begun cs s)) (sym push) (begins shape words s cs some hs);
      faithful = begin_faithful values s cs h.sound even net next h.held.faithful;
      same_keys = λ x lt. ap (λ c. c.key) (begun_at s.views cs x).1 ∙ h.held.same_keys x (omega (arith, lt, n));
    } in
    record { faithful = phases shape first keys values history (begun cs s) some h.faithful held; held = held; sound = begin_keeps s cs h.sound even net tables room }

pub publish_carried : PublishIsCarried
publish_carried shape first keys values history s h odd made =
    let words = words_after first history in
    let hs = h.held.store in
    let two = h.sound.least in
    let vs = hs.versions in
    let some : 1 ≤ shape.versions = omega (arith, two, vs) in
    let push = words_after-push first history (0, suc (phase_of words)) in
    let n = length-map s.views (λ (v : ViewState). record v { current = v.next }) in
    let held : HoldsFaithful shape (words_after first (phase_store first history)) keys values (published s) = record {
      store = subst (λ w. HoldsStore shape w (published s)) (sym push) (publishes shape words s some hs);
      faithful = publish_faithful values s h.sound odd made h.held.faithful;
      same_keys = λ x lt. ap (λ c. c.key) (published_at s.views x).1 ∙ h.held.same_keys x (omega (arith, lt, n));
    } in
    record { faithful = phases shape first keys values history (published s) some h.faithful held; held = held; sound = publish_keeps s h.sound odd made }

pub change_carried : ChangeIsCarried
change_carried shape first keys values history s x i change others h next =
    let words = words_after first history in
    let hs = h.held.store in
    let two = h.sound.least in
    let vs = hs.versions in
    let some : 1 ≤ shape.versions = omega (arith, two, vs) in
    let made = change_next shape words s x i change others hs h.sound next in
    let more = after_more first history (change_stores shape words x i change) in
    let level : phase_of (words_after words (change_stores shape words x i change)) ≡ phase_of words = sym made.1.phase ∙ hs.phase in
    let at_x = changed_at s.versions (s.phase / 2) x change others s.views next.view next.earlier next.left in
    let n = at_x.count in
    record {
      faithful = changes shape first keys values history (change_stores shape words x i change) s some h.faithful h.held made.0 level;
      held = record {
        store = subst (λ w. HoldsStore shape w (changed_once s)) (sym more) made.1;
        faithful = change_faithful values s h.sound h.held.faithful;
        same_keys = λ y lt. elim (cases_eq y x) [
          | inl same ↦ rw same (ap (λ (v : ViewState). v.columns.key) at_x.own ∙ h.held.same_keys x next.view)
          | inr other ↦ ap (λ (v : ViewState). v.columns.key) (at_x.other y other) ∙ h.held.same_keys y (omega (arith, lt, n))
        ];
      };
      sound = change_keeps s h.sound;
    }

fits : (k : ℕ) (db : List Table) (views : List View) (slots : List ℕ) → slots_refusal k db views slots ≡ None → AreSoundTables db → AllByRecursion IsWellFormed views → AllByRecursion (λ view. HasBases view db) views
    → AreFirstRows (shapes_of views slots) (first_values db views slots)
fits k db [] slots e h well has = tt
fits k db (view ∷ views) [] e h well has = tt
fits k db (view ∷ views) (n ∷ slots) e h well has = go (leb (length (value_of view.parts db)) n) refl e (λ f. fits (suc k) db views slots f h well.1 has.1)
  where
    go : (b : Bool) → leb (length (value_of view.parts db)) n ≡ b → cond b (slots_refusal (suc k) db views slots) (Some (Slots k)) ≡ None
        → (slots_refusal (suc k) db views slots ≡ None → AreFirstRows (shapes_of views slots) (first_values db views slots)) → AreFirstRows (shapes_of (view ∷ views) (n ∷ slots)) (first_values db (view ∷ views) (n ∷ slots))
    go true is e more = (((value_table db h view well.0 has.0).widths, leb-true (length (value_of view.parts db)) n is), more e)
    go false is e more = absurd (cc)

pub rows_fit : FirstRowsFit
rows_fit setup h = go (is_within_limits (columns_of setup) setup) h.accepted
  where
    go : (b : Bool) → cond b (slots_refusal 0 setup.initial setup.views setup.slots) (Some Limit) ≡ None → AreFirstRows (shape_of setup).views (first_values setup.initial setup.views setup.slots)
    go true e = fits 0 setup.initial setup.views setup.slots e h.tables h.well_formed h.bases
    go false e = absurd (cc)

pub first_carried : FirstIsCarried
first_carried setup h =
    let sound = first_sound setup h in
    let two = sound.least in
    let some : 1 ≤ setup.versions = omega (arith, two) in
    let held : HoldsFaithful (shape_of setup) (layout (shape_of setup) (first_values setup.initial setup.views setup.slots)) (λ x. (view_in (store_at_first setup) x).columns.key) (initial_values setup) (store_at_first setup)
    = record { store = first_stored setup some (rows_fit setup h); faithful = first setup h; same_keys = λ x lt. refl } in
    record { faithful = empty (shape_of setup) (layout (shape_of setup) (first_values setup.initial setup.views setup.slots)) (λ x. (view_in (store_at_first setup) x).columns.key) (initial_values setup) (store_at_first setup) some held; held = held; sound = sound }
