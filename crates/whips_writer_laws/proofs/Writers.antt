-- Each call of a store goes with the event of a writer (`first_goes`, `begin_goes`, `change_goes`, `publish_goes`).
--
-- The versions of the store have the cuts of the writer: those before, the current one and the one that its transaction leads to. So the
-- values at the versions in use are those at the cuts in use, a store is full where the script has a shortage (`full`, `cuts_then`), and
-- as many changes are begun as the script counts between two cuts (`begun_left`). The views stay those of the script (`alike_views`).
use Rattle.std.proofs.Common.{◌≡◌, ℕ, zero, suc, ◌+◌, ◌-◌, ◌/◌, ◌%◌, ◌<◌, List, [], ◌∷◌, ◌++◌, length, map, get_or, None, refl, sym, ap, subst, ◌∙◌, arith}
use Rattle.std.specs.Prelude.{sum, replicate, slice_index}
use Rattle.std.specs.Option.{option_map}
use Rattle.std.specs.List.{sum_by}
use Rattle.std.proofs.Math.Seq.{get_or-append_seam}
use Rattle.std.proofs.lemmas.List.{length_push, length-map}
use Rattle.std.proofs.lemmas.List.Sums.{sum_by-cons}
use Rattle.whips_lists.specs.Lists.{map_with_place}
use Rattle.whips_model.specs.Tuples.{Columns}
use Rattle.whips_model.specs.Relation.{Table, value_of}
use Rattle.whips_states.specs.States.{Updates, state_at}
use Rattle.whips_view.specs.ViewDefs.{View}
use Rattle.whips_setup.specs.declared.error.SetupErr.TheVariants.{Limit, Slots}
use Rattle.whips_setup.specs.Setups.{columns_of}
use Rattle.whips_setup.specs.Limits.{is_within_limits}
use Rattle.whips_setup.specs.Refusals.{slots_refusal}
use Rattle.whips_changes.specs.Changes.{net_changes}
use Rattle.whips_flow.specs.State.{new_writer}
use Rattle.whips_flow.specs.Effects.{after_publish}
use Rattle.whips_facts.specs.Scripts.{Script, SlottedView, slotted, slotted_views, value_at, view_at}
use Rattle.whips_facts.specs.ScriptFacts.{facts_of, change_count, first_shortage}
use Rattle.whips_store.specs.Stores.{ViewState, ChangeLists, no_view, view_in}
use Rattle.whips_store.specs.Calls.{AreNet, views_with, views_changed}
use Rattle.whips_store.specs.First.{first_records, views_at_first, store_at_first}
use Rattle.whips_store_laws.proofs.Whole as sound
use Rattle.whips_faithful_laws.specs.Faithful.{IsFaithful, new_rows}
use Rattle.whips_faithful_laws.specs.Laws.{blank_view}
use Rattle.whips_faithful_laws.proofs.Calls as faithful
use Rattle.whips_faithful_laws.proofs.First.{first_many, none_left, first_slots, first_rows, head_fits, no_refusal, first_sound, start}
use Rattle.whips_faithful_laws.proofs.Scans.{sessions}
use Rattle.whips_faithful_laws.proofs.Shapes.{AreAlike, net_length, begun_length, begun_alike, changed_length, changed_alike, published_alike, one_fewer, published_left}
use Rattle.whips_writer_laws.specs.Needs.{cut_of_version, values_at, AreViewsOf, full_of}
use Rattle.whips_writer_laws.specs.Writers.{FirstGoesWith, BeginGoesWith, ChangeGoesWith, PublishGoesWith, SessionsReadCuts}
use Rattle.whips_writer_laws.proofs.Needs.{earlier_same, at_last, moved_on, viewed, full, cuts_then}

-- ---- views of a script

-- views that are alike are those of one script
alike_views : (ws : List SlottedView) (vs us : List ViewState) → length us ≡ length vs → ((x : ℕ) → AreAlike (get_or us x no_view) (get_or vs x no_view)) → AreViewsOf ws vs → AreViewsOf ws us
alike_views [] [] [] many alike h = tt
alike_views [] [] (u ∷ us) many alike h = absurd (omega (arith, many))
alike_views [] (v ∷ vs) us many alike h = absurd h
alike_views (w ∷ ws) [] us many alike h = absurd h
alike_views (w ∷ ws) (v ∷ vs) [] many alike h = absurd (omega (arith, many))
alike_views (w ∷ ws) (v ∷ vs) (u ∷ us) many alike h =
    ((ap (λ (c : Columns). c.key) (alike 0).1 ∙ h.0.0, (alike 0).0 ∙ h.0.1), alike_views ws vs us (omega (arith, many)) (λ x. alike (suc x)) h.1)

-- ---- changes left

-- as many changes are begun as the script counts between the cuts
begun_left : (script : Script) (before cut : List ℕ) (ws : List SlottedView) (vs : List ViewState) (cs : ChangeLists) → AreViewsOf ws vs → AreNet vs cs
    → ((i : ℕ) → i < length vs → (get_or vs i no_view).current ≡ value_at script (viewed ws i) before) → ((i : ℕ) → i < length vs → new_rows cs i ≡ value_at script (viewed ws i) cut)
    → sum_by (λ (v : ViewState). length v.left) (views_with vs cs) ≡ sum (map (change_count script before cut) ws)
begun_left script before cut [] [] [] are net now new = refl
begun_left script before cut [] [] (c ∷ cs) are net now new = absurd net
begun_left script before cut [] (v ∷ vs) cs are net now new = absurd are
begun_left script before cut (w ∷ ws) [] cs are net now new = absurd are
begun_left script before cut (w ∷ ws) (v ∷ vs) [] are net now new = absurd net
begun_left script before cut (w ∷ ws) (v ∷ vs) (c ∷ cs) are net now new =
    let one : length c.1 ≡ change_count script before cut w =
    ap length (net.0.1.net ∙ ap (λ key. net_changes key v.current c.0.rows) are.0.0 ∙ ap (λ rows. net_changes w.view.columns rows c.0.rows) (now 0 (omega arith)) ∙ ap (λ rows. net_changes w.view.columns (value_at script w.view before) rows) (new 0 (omega arith))) in
    let rest = begun_left script before cut ws vs cs are.1 net.1 (λ i lt. now (suc i) (omega arith)) (λ i lt. new (suc i) (omega arith)) in
    let a = sum_by-cons (λ (v : ViewState). length v.left) (record v { next = c.0.rows; left = c.1 }) (views_with vs cs) in
    let b = sum_by-cons (λ (k : ℕ). k) (change_count script before cut w) (map (change_count script before cut) ws) in
    omega (arith, a, b, one, rest)

-- ---- at the start

first_views : (all : List ℕ) (k x : ℕ) (db : List Table) (views : List View) (slots : List ℕ) → length slots ≡ length views → ((i : ℕ) → slice_index all (k + i) ≡ slice_index slots i) → slots_refusal x db views slots ≡ None
    → AreViewsOf (map_with_place (slotted all) k views) (views_at_first db views slots)
first_views all k x db [] slots many at e = tt
first_views all k x db (v ∷ views) [] many at e = absurd (omega (arith, many))
first_views all k x db (v ∷ views) (n ∷ slots) many at e =
    let fits = head_fits (length (value_of v.parts db)) n (slots_refusal (suc x) db views slots) (Slots x) e in
    let whole : length (first_records (value_of v.parts db) (n - length (value_of v.parts db))) ≡ n = omega (arith, fits.0, first_slots (value_of v.parts db) (n - length (value_of v.parts db))) in
    let here : k + 0 ≡ k = omega arith in (
      (refl, whole ∙ sym (sym (ap (slice_index all) here) ∙ at 0)),
      first_views all (suc k) (suc x) db views slots (omega (arith, many)) (λ i. ap (slice_index all) (let next : suc k + i ≡ k + suc i = omega arith in next) ∙ at (suc i)) fits.1,
    )

same_parts : (all : List ℕ) (k : ℕ) (views : List View) (x : ℕ) → x < length views → (get_or views x blank_view).parts ≡ (viewed (map_with_place (slotted all) k views) x).base
same_parts all k [] x lt = absurd (omega arith)
same_parts all k (v ∷ views) zero lt = refl
same_parts all k (v ∷ views) (suc x) lt = same_parts all (suc k) views x (omega arith)

state_at_zero : (db : List Table) (work : List (List Updates)) → state_at db work (replicate (length (map (λ (ts : List Updates). length ts) work)) 0) ≡ db
state_at_zero db [] = refl
state_at_zero db (ts ∷ work) = state_at_zero db work

pub first_goes : FirstGoesWith
first_goes script h = record {
  versions = refl;
  phase = refl;
  cuts = let none : 0 ≡ 0 / 2 = omega arith in none;
  left = none_left script.setup.initial script.setup.views script.setup.slots;
  views = first_views script.setup.slots 0 0 script.setup.initial script.setup.views script.setup.slots h.slots (λ i. ap (slice_index script.setup.slots) (let same : 0 + i ≡ i = omega arith in same)) (no_refusal (is_within_limits (columns_of script.setup) script.setup) (slots_refusal 0 script.setup.initial script.setup.views script.setup.slots) Limit h.accepted);
  sound = first_sound script.setup h;
  faithful = start (values_at script (cut_of_version (new_writer (facts_of script)))) (store_at_first script.setup) (first_sound script.setup h) refl
      (λ x lt. let e = first_rows script.setup.initial script.setup.views script.setup.slots x lt in (e.0 ∙ shown x lt, e.1 ∙ shown x lt));
}
  where
    shown : (x : ℕ) → x < length (views_at_first script.setup.initial script.setup.views script.setup.slots) → value_of (get_or script.setup.views x blank_view).parts script.setup.initial ≡ value_at script (view_at script x) (replicate (length (map (λ (ts : List Updates). length ts) script.work)) 0)
    shown x lt =
        ap (λ parts. value_of parts script.setup.initial) (same_parts script.setup.slots 0 script.setup.views x (omega (arith, lt, first_many script.setup.initial script.setup.views script.setup.slots h.slots)))
        ∙ sym (ap (λ db. value_of (view_at script x).base db) (state_at_zero script.setup.initial script.work))

-- ---- a transaction begins

pub begin_goes : BeginGoesWith
begin_goes script w cut s cs h even leads = (
  full script (cut_of_version (record w { target_cut = cut })) s cs h.sound.least h.views (net_length s.views cs leads.net) faithful_ahead leads_ahead
      ∙ ap (λ cuts. option_map full_of (first_shortage script cuts 0 (slotted_views script))) (cuts_then (facts_of script) w cut (cut_of_version (record w { target_cut = cut })) s.versions s.phase h.versions h.phase h.cuts
      (λ v le. earlier_same [] w.earlier_cuts w.cut cut w.target_cut v (omega (arith, h.cuts, le)))
      (at_last [] w.earlier_cuts w.cut cut (suc (w.phase / 2)) (omega (arith, h.cuts)))),
  λ room. record {
    versions = h.versions;
    phase = ap suc h.phase;
    cuts = h.cuts ∙ (let same : w.phase / 2 ≡ suc w.phase / 2 = omega arith in same);
    left = begun_left script w.cut cut (slotted_views script) s.views cs h.views leads.net current leads.rows;
    views = alike_views (slotted_views script) s.views (views_with s.views cs) (begun_length s.views cs) (begun_alike s.views cs) h.views;
    sound = sound.begin_keeps s cs h.sound quiet leads.net leads.tables room;
    faithful = faithful.begin_keeps (values_at script (cut_of_version (record w { target_cut = cut }))) s cs h.sound quiet leads.net leads_ahead faithful_ahead;
  },
)
  where
    quiet : s.phase % 2 ≡ 0
    quiet = ap (λ p. p % 2) h.phase ∙ even

    faithful_ahead : IsFaithful (values_at script (cut_of_version (record w { target_cut = cut }))) s
    faithful_ahead = faithful.same_values (values_at script (cut_of_version w)) (values_at script (cut_of_version (record w { target_cut = cut }))) s h.faithful
        (λ x v lt le. ap (value_at script (view_at script x)) (earlier_same [] w.earlier_cuts w.cut w.target_cut cut v (omega (arith, h.cuts, h.phase, even, le))))

    leads_ahead : (x : ℕ) → x < length s.views → new_rows cs x ≡ values_at script (cut_of_version (record w { target_cut = cut })) x (suc (s.phase / 2))
    leads_ahead x lt = leads.rows x lt ∙ sym (ap (value_at script (view_at script x)) (at_last [] w.earlier_cuts w.cut cut (suc (s.phase / 2)) (omega (arith, h.cuts, h.phase))))

    now : get_or (w.earlier_cuts ++ w.cut ∷ w.target_cut ∷ []) (s.phase / 2) [] ≡ w.cut
    now = ap (λ v. get_or (w.earlier_cuts ++ w.cut ∷ w.target_cut ∷ []) v []) (omega (arith, h.cuts, h.phase)) ∙ get_or-append_seam w.earlier_cuts w.cut (w.target_cut ∷ []) []

    current : (x : ℕ) → x < length s.views → (view_in s x).current ≡ value_at script (view_at script x) w.cut
    current x lt = (h.faithful x lt).current ∙ ap (value_at script (view_at script x)) now

-- ---- a change is made

pub change_goes : ChangeGoesWith
change_goes script w s h some = record {
  versions = h.versions;
  phase = h.phase;
  cuts = h.cuts;
  left = one_fewer s.versions (s.phase / 2) s.views (subst (λ m. 0 < m) (sym h.left) some) ∙ ap (λ m. m - 1) h.left;
  views = alike_views (slotted_views script) s.views (views_changed s.versions (s.phase / 2) s.views) (changed_length s.versions (s.phase / 2) s.views) (changed_alike s.versions (s.phase / 2) s.views) h.views;
  sound = sound.change_keeps s h.sound;
  faithful = faithful.change_keeps (values_at script (cut_of_version w)) s h.sound h.faithful;
}

-- ---- a version is committed

pub publish_goes : PublishGoesWith
publish_goes script w s h odd none = record {
  versions = h.versions;
  phase = ap suc h.phase;
  cuts = (let many = length_push w.earlier_cuts w.cut in omega (arith, many, h.cuts, odd));
  left = published_left s.views ∙ h.left;
  views = alike_views (slotted_views script) s.views (map (λ (v : ViewState). record v { current = v.next }) s.views) (length-map s.views (λ (v : ViewState). record v { current = v.next })) (published_alike s.views) h.views;
  sound = sound.publish_keeps s h.sound active (h.left ∙ none);
  faithful = faithful.same_values (values_at script (cut_of_version w)) (values_at script (cut_of_version (after_publish w))) (record s {
    phase = suc s.phase;
    views = map (λ (v : ViewState). record v { current = v.next }) s.views;
    past = option_map (λ rows. rows ++ map (λ (v : ViewState). v.next) s.views ∷ []) s.past;
  }) (faithful.publish_keeps_faithful (values_at script (cut_of_version w)) s h.sound active (h.left ∙ none) h.faithful)
      (λ x v lt le. ap (value_at script (view_at script x)) (moved_on [] w.earlier_cuts w.cut w.target_cut v (omega (arith, h.cuts, h.phase, odd, le))));
}
  where
    active : s.phase % 2 ≡ 1
    active = ap (λ p. p % 2) h.phase ∙ odd

-- ---- a session

pub sessions_cuts : SessionsReadCuts
sessions_cuts script w opened x v visits b le turns h fresh lt all key empty =
    sessions (values_at script (cut_of_version w)) opened x v visits b le turns h.faithful (λ stale. fresh (omega (arith, stale, h.versions, h.phase))) lt all key empty
