-- The calls of a store keep it sound, and what its readers see.
use Rattle.std.proofs.Common.{◌≡◌, inl, inr, ℕ, zero, suc, ◌+◌, ◌-◌, ◌*◌, ◌/◌, ◌%◌, ◌≤◌, cond, ltb, List, [], ◌∷◌, length, map, get_or, Option, Some, None, refl, sym, ap, subst, ◌∙◌, arith}
use Rattle.std.specs.Prelude.{set}
use Rattle.std.specs.List.{sum_by, AllByRecursion}
use Rattle.std.proofs.lemmas.List.Sums.{sum_by-cons}
use Rattle.std.proofs.lemmas.Bool.{cases_lt, lt-ltb, le-ltb}
use Rattle.std.proofs.lemmas.List.{get_or-set_same, get_or-set_other}
use Rattle.whips_model.specs.Relation.{IsTable}
use Rattle.whips_model.proofs.Keyed.{all_at}
use Rattle.whips_rel.specs.declared.update.Change.{Change}
use Rattle.whips_vnl.specs.Records.{visible, steps_after}
use Rattle.whips_flow.specs.Staleness.{IsStale}
use Rattle.whips_vnl.proofs.Kept.{live_kept}
use Rattle.whips_store.specs.declared.error.StoreErr.{StoreErr}
use Rattle.whips_store.specs.declared.error.StoreErr.TheVariants.{Full}
use Rattle.whips_store.specs.Stores.{ViewState, ChangeLists, no_view, view_in}
use Rattle.whips_store.specs.Calls.{AreNet, slots_needed, first_full, views_with, records_with, changed_view, views_changed}
use Rattle.whips_store.specs.Sound.{IsSlot, IsSoundView}
use Rattle.whips_store_laws.specs.Laws.{AreTables, BeginKeepsSound, ChangeKeepsSound, PublishKeepsSound, ChangeKeepsReads, BeginKeepsReads, PublishKeepsReads, LiveVersionsAreShown}
use Rattle.whips_store_laws.proofs.Slots.{earlier_stays, slot_after, older_below}
use Rattle.whips_store_laws.proofs.Places.{at, IsChosen}
use Rattle.whips_store_laws.proofs.Changed.{same_place}
use Rattle.whips_store_laws.proofs.Views.{view_slots, view_chosen, view_changed, view_begun, view_published, next_version}

-- ---- a transaction begins

fits_from : (need have : ℕ) (full : StoreErr) (rest : Option StoreErr) → cond (ltb have need) (Some full) rest ≡ None → (need ≤ have) × (rest ≡ None)
fits_from need have full rest e = elim (cases_lt have need) [
  | inl short ↦ absurd (let bad : Some full ≡ None = sym (ap (λ b. cond b (Some full) rest) (lt-ltb have need short)) ∙ e in cc)
  | inr enough ↦ (enough, sym (ap (λ b. cond b (Some full) rest) (le-ltb have need enough)) ∙ e)
]

views_begun : (n phase x : ℕ) (vs : List ViewState) (cs : ChangeLists) → phase % 2 ≡ 0 → AllByRecursion (IsSoundView n phase) vs → AreNet vs cs → AreTables cs → first_full n (phase / 2) x vs cs ≡ None → AllByRecursion (IsSoundView n (suc phase)) (views_with vs cs)
views_begun n phase x [] [] even h net tables full = tt
views_begun n phase x [] (c ∷ cs) even h net tables full = absurd net
views_begun n phase x (v ∷ vs) [] even h net tables full = absurd net
views_begun n phase x (v ∷ vs) (c ∷ cs) even h net tables full =
    let f = fits_from (slots_needed n (phase / 2) v c.0.rows) (length v.records) (Full x (slots_needed n (phase / 2) v c.0.rows) (length v.records)) (first_full n (phase / 2) (suc x) vs cs) full in
    let table : IsTable v.columns c.0.rows = subst (λ columns. IsTable columns c.0.rows) net.0.0 tables.0 in
    (view_begun n phase v c.0.rows c.1 even h.0 table net.0.1 f.0, views_begun n phase (suc x) vs cs even h.1 net.1 tables.1 f.1)

pub begin_keeps : BeginKeepsSound
begin_keeps s cs h even net tables full = record { least = h.least; most = h.most; views = views_begun s.versions s.phase 0 s.views cs even h.views net tables full }

-- ---- a change is made

made_views : (n phase : ℕ) (vs : List ViewState) → 2 ≤ n → AllByRecursion (IsSoundView n phase) vs → AllByRecursion (IsSoundView n phase) (views_changed n (phase / 2) vs)
made_views n phase [] two h = tt
made_views n phase (v ∷ vs) two h = by_left v.left refl (made_views n phase vs two h.1)
  where
    by_left : (left : List Change) → v.left ≡ left → AllByRecursion (IsSoundView n phase) (views_changed n (phase / 2) vs)
        → AllByRecursion (IsSoundView n phase) (elim left [ [] ↦ v ∷ views_changed n (phase / 2) vs | change ∷ others ↦ changed_view n (phase / 2) change others v ∷ vs ])
    by_left [] e more = (h.0, more)
    by_left (change ∷ others) e more = (view_changed n phase v change others two h.0 e, h.1)

pub change_keeps : ChangeKeepsSound
change_keeps s h = record { least = h.least; most = h.most; views = made_views s.versions s.phase s.views h.least h.views }

-- ---- a version is committed

sum_none : (vs : List ViewState) → sum_by (λ (v : ViewState). length v.left) vs ≡ 0 → AllByRecursion (λ (v : ViewState). v.left ≡ []) vs
sum_none [] e = tt
sum_none (v ∷ vs) e =
    let whole : length v.left + sum_by (λ (v : ViewState). length v.left) vs ≡ 0 = sym (sum_by-cons (λ (v : ViewState). length v.left) v vs) ∙ e in
    (no_left v.left (omega (arith, whole)), sum_none vs (omega (arith, whole)))
  where
    no_left : (left : List Change) → length left ≡ 0 → left ≡ []
    no_left [] e = refl
    no_left (c ∷ left) e = absurd (omega arith)

committed_views : (n phase : ℕ) (vs : List ViewState) → 2 ≤ n → phase % 2 ≡ 1 → AllByRecursion (IsSoundView n phase) vs → AllByRecursion (λ (v : ViewState). v.left ≡ []) vs → AllByRecursion (IsSoundView n (suc phase)) (map (λ (v : ViewState). record v { current = v.next }) vs)
committed_views n phase [] two odd h left = tt
committed_views n phase (v ∷ vs) two odd h left = (view_published n phase v two odd h.0 left.0, committed_views n phase vs two odd h.1 left.1)

pub publish_keeps : PublishKeepsSound
publish_keeps s h odd none = record { least = h.least; most = h.most; views = committed_views s.versions s.phase s.views h.least odd h.views (sum_none s.views none) }

-- ---- what readers see

begun_at : (vs : List ViewState) (cs : ChangeLists) (x : ℕ) → (get_or (views_with vs cs) x no_view).records ≡ (get_or vs x no_view).records
begun_at [] cs x = refl
begun_at (v ∷ vs) [] x = refl
begun_at (v ∷ vs) (c ∷ cs) zero = refl
begun_at (v ∷ vs) (c ∷ cs) (suc x) = begun_at vs cs x

pub begin_reads : BeginKeepsReads
begin_reads s cs x i v = ap (λ records. visible s.versions v (at records i)) (begun_at s.views cs x)

published_at : (vs : List ViewState) (x : ℕ) → (get_or (map (λ (v : ViewState). record v { current = v.next }) vs) x no_view).records ≡ (get_or vs x no_view).records
published_at [] x = refl
published_at (v ∷ vs) zero = refl
published_at (v ∷ vs) (suc x) = published_at vs x

pub publish_reads : PublishKeepsReads
publish_reads s x i v = ap (λ records. visible s.versions v (at records i)) (published_at s.views x)

-- a version that was committed and isn't stale while the next one is written is in use
pub live_in_use : (n v phase : ℕ) → 2 ≤ n → phase % 2 ≡ 1 → 2 * v ≤ phase → (IsStale n v phase → ⊥) → (phase / 2 - (n - 2) ≤ v) × (v ≤ phase / 2)
live_in_use n v phase two odd le live = (elim (cases_lt (2 * v + 2 * (n - 1)) phase) [ inl stale ↦ absurd (live stale) | inr fresh ↦ omega arith ], omega arith)

same_slots : (n phase : ℕ) (v : ViewState) (change : Change) (others : List Change) (i w : ℕ) → 2 ≤ n → IsSoundView n phase v → v.left ≡ change ∷ others → 2 * w ≤ phase → (IsStale n w phase → ⊥)
    → visible n w (at (changed_view n (phase / 2) change others v).records i) ≡ visible n w (at v.records i)
same_slots n phase v change others i w two h e le live =
    let f = view_chosen n phase v change others two h e in
    subst (λ o. visible n w (at (records_with n (phase / 2) change o v.records) i) ≡ visible n w (at v.records i)) (sym f.1) (made f.0 f.2)
  where
    odd : phase % 2 ≡ 0 → ⊥
    odd even = let bad : [] ≡ change ∷ others = sym (h.quiet even) ∙ e in cc

    is_odd : (phase : ℕ) → (phase % 2 ≡ 0 → ⊥) → phase % 2 ≡ 1
    is_odd phase odd = elim (cases_lt (phase % 2) 1) [ inl even ↦ absurd (odd (omega arith)) | inr more ↦ omega arith ]

    made : (j : ℕ) → IsChosen v.columns.key n (phase / 2) phase v.records v.next (view_slots n phase v two h) change j → visible n w (at (set v.records j (steps_after n (suc (phase / 2)) change (at v.records j))) i) ≡ visible n w (at v.records i)
    made j s = elim (same_place j i) [
      | inl same ↦
          let u = live_in_use n w phase two (is_odd phase odd) le live in
          let slot = slot_after n (phase / 2) phase change (at v.records j) (all_at (IsSlot n phase) v.records j [] h.records s.slot.within) (older_below (phase / 2) (at v.records j) s.older) (next_version phase odd) in
          let there : visible n w (at (set v.records j (steps_after n (suc (phase / 2)) change (at v.records j))) j) ≡ visible n w (at v.records j) =
          ap (visible n w) (get_or-set_same v.records j (steps_after n (suc (phase / 2)) change (at v.records j)) [] s.slot.within) ∙ earlier_stays n (phase / 2) w phase change (at v.records j) two refl slot u.0 u.1 in
          subst (λ k. visible n w (at (set v.records j (steps_after n (suc (phase / 2)) change (at v.records j))) k) ≡ visible n w (at v.records k)) same there
      | inr other ↦ ap (visible n w) (get_or-set_other v.records j i (steps_after n (suc (phase / 2)) change (at v.records j)) [] (λ e. other (sym e)))
    ]

views_read : (n phase : ℕ) (vs : List ViewState) (x i w : ℕ) → 2 ≤ n → AllByRecursion (IsSoundView n phase) vs → 2 * w ≤ phase → (IsStale n w phase → ⊥)
    → visible n w (at (get_or (views_changed n (phase / 2) vs) x no_view).records i) ≡ visible n w (at (get_or vs x no_view).records i)
views_read n phase [] x i w two h le live = refl
views_read n phase (v ∷ vs) x i w two h le live = by_left v.left refl x (λ y. views_read n phase vs y i w two h.1 le live)
  where
    by_left : (left : List Change) → v.left ≡ left → (x : ℕ) → ((y : ℕ) → visible n w (at (get_or (views_changed n (phase / 2) vs) y no_view).records i) ≡ visible n w (at (get_or vs y no_view).records i))
        → visible n w (at (get_or (elim left [ [] ↦ v ∷ views_changed n (phase / 2) vs | change ∷ others ↦ changed_view n (phase / 2) change others v ∷ vs ]) x no_view).records i) ≡ visible n w (at (get_or (v ∷ vs) x no_view).records i)
    by_left [] e zero more = refl
    by_left [] e (suc x) more = more x
    by_left (change ∷ others) e zero more = same_slots n phase v change others i w two h.0 e le live
    by_left (change ∷ others) e (suc x) more = refl

pub change_reads : ChangeKeepsReads
change_reads s h x i v le live = views_read s.versions s.phase s.views x i v h.least h.views le live

pub live_shown : LiveVersionsAreShown
live_shown s h x i v lx li live =
    let sound : IsSoundView s.versions s.phase (view_in s x) = all_at (IsSoundView s.versions s.phase) s.views x no_view h.views lx in
    let slot : IsSlot s.versions s.phase (at (view_in s x).records i) = all_at (IsSlot s.versions s.phase) (view_in s x).records i [] sound.records li in
    let two = h.least in
    live_kept s.versions v s.phase (at (view_in s x).records i) (omega arith) slot.falling slot.within live
