-- What a plain store keeps at each call.
use Rattle.std.proofs.Common.{◌≡◌, ℕ, suc, ◌+◌, ◌-◌, ◌/◌, ◌%◌, ◌<◌, ◌≤◌, List, [], ◌∷◌, length, map, None, sym, ap, ap₂, subst, ◌∙◌, arith}
use Rattle.std.specs.Prelude.{◌^◌}
use Rattle.std.specs.List.{AllByRecursion}
use Rattle.std.proofs.lemmas.List.{length-map}
use Rattle.whips_model.specs.Relation.{Table}
use Rattle.whips_rel.specs.declared.update.Change.{Change}
use Rattle.whips_net.specs.Made.{change_key}
use Rattle.whips_setup.specs.Setups.{SetupData}
use Rattle.whips_setup.specs.Refusals.{IsSetup}
use Rattle.whips_store.specs.Stores.{ViewState, StoreState, ChangeLists, changes_left}
use Rattle.whips_store.specs.Calls.{AreNet, shortage, first_full, views_with, slot_for, views_changed}
use Rattle.whips_store.specs.Sound.{IsSoundView, IsSoundStore}
use Rattle.whips_store_laws.specs.Laws.{AreTables}
use Rattle.whips_store_laws.proofs.Whole.{begin_keeps, change_keeps, publish_keeps}
use Rattle.whips_store.specs.First.{views_at_first}
use Rattle.whips_plain.specs.Plain.{HasWidths, HasFewSlots, IsPlain, count}
use Rattle.whips_faithful_laws.proofs.First.{first_many, none_left, first_sound}
use Rattle.whips_faithful_laws.proofs.Shapes.{by_left, begun_length, changed_length, changed_slots, one_fewer, published_left}
use Rattle.whips_plain.proofs.Begins.{begun_left}

pub all_wide : (n phase : ℕ) (vs : List ViewState) → AllByRecursion (IsSoundView n phase) vs → AllByRecursion HasWidths vs
all_wide n phase [] h = tt
all_wide n phase (v ∷ vs) h = (h.0.widths, all_wide n phase vs h.1)

-- ---- as many slots

begun_slots : (vs : List ViewState) (cs : ChangeLists) → AllByRecursion HasFewSlots vs → AllByRecursion HasFewSlots (views_with vs cs)
begun_slots [] cs h = tt
begun_slots (v ∷ vs) [] h = h
begun_slots (v ∷ vs) (c ∷ cs) h = (h.0, begun_slots vs cs h.1)

published_slots : (vs : List ViewState) → AllByRecursion HasFewSlots vs → AllByRecursion HasFewSlots (map (λ (v : ViewState). record v { current = v.next }) vs)
published_slots [] h = tt
published_slots (v ∷ vs) h = (h.0, published_slots vs h.1)

changed_few : (n c : ℕ) (vs : List ViewState) → AllByRecursion HasFewSlots vs → AllByRecursion HasFewSlots (views_changed n c vs)
changed_few n c [] h = tt
changed_few n c (v ∷ vs) h = go v.left (changed_few n c vs h.1)
  where
    go : (left : List Change) → AllByRecursion HasFewSlots (views_changed n c vs)
        → AllByRecursion HasFewSlots (by_left n c v vs left)
    go [] more = (h.0, more)
    go (change ∷ others) more = (subst (λ k. k < 2 ^ 32) (sym (changed_slots n c change (slot_for n c v.columns.key (change_key v.columns.key change) v.records) v.records)) h.0, h.1)

-- ---- the calls

pub changed_kept : (k : ℕ) (s : StoreState) (views : List ViewState) → IsPlain k s → 0 < changes_left s → views ≡ views_changed s.versions (s.phase / 2) s.views → IsPlain (k - 1) (record s { views = views })
changed_kept k s views h some e = subst (λ (l : List ViewState). IsPlain (k - 1) (record s { views = l })) (sym e) (record {
  sound = change_keeps s h.sound;
  left = ap (λ m. m - 1) h.left ∙ sym (one_fewer s.versions (s.phase / 2) s.views some);
  few = subst (λ m. m ≤ 8) (sym (changed_length s.versions (s.phase / 2) s.views)) h.few;
  slots = changed_few s.versions (s.phase / 2) s.views h.slots;
  phase = h.phase;
})

pub begun_kept : (k left : ℕ) (s : StoreState) (cs : ChangeLists) (views : List ViewState) → IsPlain k s → s.phase % 2 ≡ 0 → s.phase < 2 ^ 62 → AreNet s.views cs → AreTables cs → shortage s cs ≡ None → left ≡ count cs → views ≡ views_with s.views cs
    → IsPlain left (record s { phase = s.phase + 1; views = views })
begun_kept k left s cs views h even lt net tables room counts e =
    let next : suc s.phase ≡ s.phase + 1 = omega arith in
    subst (λ p. IsPlain left (record s { phase = p; views = views })) next (subst (λ (l : List ViewState). IsPlain left (record s { phase = suc s.phase; views = l })) (sym e) (record {
      sound = begin_keeps s cs h.sound even net tables room;
      left = counts ∙ sym (begun_left s.views cs net);
      few = subst (λ m. m ≤ 8) (sym (begun_length s.views cs)) h.few;
      slots = begun_slots s.views cs h.slots;
      phase = omega (arith, lt);
    }))

pub begun_from : {X : Type 0} (f : X → Table × List Change) (k left : ℕ) (s : StoreState) (cs : ChangeLists) (views seen : List ViewState) (items lent again : List X) → IsPlain k s → s.phase % 2 ≡ 0 → s.phase < 2 ^ 62 → AreNet s.views cs
    → map f items ≡ cs → seen ≡ s.views → lent ≡ items → again ≡ items → first_full s.versions (s.phase / 2) 0 seen (map f lent) ≡ None → AreTables (map f again) → left ≡ count (map f again) → views ≡ views_with s.views cs
    → IsPlain left (record s { phase = s.phase + 1; views = views })
begun_from f k left s cs views seen items lent again h even lt net of same alike too room tables counts e =
    let whole : map f again ≡ cs = ap (map f) too ∙ of in
    begun_kept k left s cs views h even lt net (subst AreTables whole tables)
    (sym (ap₂ (λ l m. first_full s.versions (s.phase / 2) 0 l m) same (ap (map f) alike ∙ of)) ∙ room) (counts ∙ ap count whole) e

pub published_kept : (k : ℕ) (s : StoreState) (views : List ViewState) → IsPlain k s → s.phase % 2 ≡ 1 → changes_left s ≡ 0 → views ≡ map (λ (v : ViewState). record v { current = v.next }) s.views → IsPlain k (record s { phase = s.phase + 1; views = views })
published_kept k s views h odd none e =
    let next : suc s.phase ≡ s.phase + 1 = omega arith in
    let keeps = publish_keeps s h.sound odd none in
    subst (λ p. IsPlain k (record s { phase = p; views = views })) next (subst (λ (l : List ViewState). IsPlain k (record s { phase = suc s.phase; views = l })) (sym e) (record {
      sound = record { least = keeps.least; most = keeps.most; views = keeps.views };
      left = h.left ∙ sym (published_left s.views);
      few = subst (λ m. m ≤ 8) (sym (length-map s.views (λ (v : ViewState). record v { current = v.next }))) h.few;
      slots = published_slots s.views h.slots;
      phase = let most = h.phase in omega (arith, odd, most);
    }))

-- what was made is the store at version 0 of its setup
pub made_sound : (s : SetupData) (n : ℕ) (views : List ViewState) → IsSetup s → n ≡ s.versions → views ≡ views_at_first s.initial s.views s.slots → IsSoundStore (record { versions = n; phase = 0; views = views; past = None })
made_sound s n views h same e =
    subst (λ m. IsSoundStore (record { versions = m; phase = 0; views = views; past = None })) (sym same) (subst (λ (l : List ViewState). IsSoundStore (record { versions = s.versions; phase = 0; views = l; past = None })) (sym e) (first_sound s h))

pub first_kept : (s : SetupData) (n : ℕ) (views : List ViewState) → IsSetup s → n ≡ s.versions → views ≡ views_at_first s.initial s.views s.slots → AllByRecursion HasFewSlots views → IsPlain 0 (record { versions = n; phase = 0; views = views; past = None })
first_kept s n views h same e slots =
    record {
      sound = made_sound s n views h same e;
      left = sym (ap (λ l. changes_left (record { versions = n; phase = 0; views = l; past = None })) e ∙ none_left s.initial s.views s.slots);
      few = subst (λ l. length l ≤ 8) (sym e) (subst (λ m. m ≤ 8) (sym (first_many s.initial s.views s.slots h.slots)) h.views);
      slots = slots;
      phase = omega arith;
    }
