-- Where a store that is faithful to a script's values is full.
use Rattle.std.proofs.Common.{◌≡◌, ℕ, suc, ◌-◌, ◌/◌, ◌<◌, ◌≤◌, Bool, true, false, cond, ltb, List, [], ◌∷◌, ◌++◌, length, map, get_or, drop, Option, Some, refl, sym, ap, ◌∙◌, arith, append_assoc}
use Rattle.std.specs.Prelude.{min, slice_get}
use Rattle.std.specs.Option.{option_map, option_and_then, unwrap_or}
use Rattle.std.proofs.lemmas.List.{map-append, drop-append-le, length_push, get_or_append_left, get_or_push}
use Rattle.std.proofs.lemmas.Simd.{map-map}
use Rattle.whips_model.specs.Tuples.{Codes}
use Rattle.whips_changes.specs.Changes.{need}
use Rattle.whips_choices.specs.KeyedViews.{KeyedView}
use Rattle.whips_flow.specs.Facts.{Facts, Shortage}
use Rattle.whips_flow.specs.State.{Writer}
use Rattle.whips_flow.specs.Effects.{cuts_in_use}
use Rattle.whips_facts.specs.Scripts.{Script, SlottedView, slotted_views, value_at, no_view as no_view_of_script}
use Rattle.whips_facts.specs.ScriptFacts.{slot_need, first_shortage}
use Rattle.whips_store.specs.declared.error.StoreErr.{StoreErr}
use Rattle.whips_store.specs.declared.error.StoreErr.TheVariants.{Full}
use Rattle.whips_store.specs.Versions.{versions_in_use}
use Rattle.whips_store.specs.Stores.{ViewState, ChangeLists, no_view}
use Rattle.whips_store.specs.Calls.{slots_needed, first_full}
use Rattle.whips_store_laws.proofs.Places.{used}
use Rattle.whips_store_laws.proofs.Changed.{map_same}
use Rattle.whips_faithful_laws.specs.Faithful.{IsFaithfulView, new_rows}
use Rattle.whips_faithful_laws.proofs.Needs.{view_need}
use Rattle.whips_faithful_laws.proofs.Scans.{at_places}
use Rattle.whips_writer_laws.specs.Needs.{cut_of_version, AreViewsOf, full_of, FullIsShortage, CutsInUseAreOfVersions}

-- ---- cuts by version

module _ {A : Type 0} (d : A) where
  regrouped : (xs : List A) (a b : A) (v : ℕ) → get_or (xs ++ a ∷ b ∷ []) v d ≡ get_or ((xs ++ a ∷ []) ++ b ∷ []) v d
  regrouped xs a b v = ap (λ l. get_or l v d) (sym (append_assoc xs (a ∷ []) (b ∷ [])))

  pub without_last : (xs : List A) (a b : A) (v : ℕ) → v ≤ length xs → get_or (xs ++ a ∷ b ∷ []) v d ≡ get_or (xs ++ a ∷ []) v d
  without_last xs a b v le = regrouped xs a b v ∙ get_or_append_left (xs ++ a ∷ []) (b ∷ []) d v (omega (arith, le, length_push xs a))

  pub earlier_same : (xs : List A) (a b c : A) (v : ℕ) → v ≤ length xs → get_or (xs ++ a ∷ b ∷ []) v d ≡ get_or (xs ++ a ∷ c ∷ []) v d
  earlier_same xs a b c v le = without_last xs a b v le ∙ sym (without_last xs a c v le)

  pub at_last : (xs : List A) (a b : A) (v : ℕ) → v ≡ suc (length xs) → get_or (xs ++ a ∷ b ∷ []) v d ≡ b
  at_last xs a b v e = regrouped xs a b v ∙ get_or_push (xs ++ a ∷ []) b d v (omega (arith, e, length_push xs a))

  pub moved_on : (xs : List A) (a b : A) (v : ℕ) → v ≤ suc (length xs) → get_or (xs ++ a ∷ b ∷ []) v d ≡ get_or ((xs ++ a ∷ []) ++ b ∷ b ∷ []) v d
  moved_on xs a b v le = regrouped xs a b v ∙ sym (without_last (xs ++ a ∷ []) b b v (omega (arith, le, length_push xs a)))

-- ---- against a script

-- the view at a place of these, or nothing of it
abbrev pub viewed : List SlottedView → ℕ → KeyedView
viewed ws i = unwrap_or (option_and_then (λ v. Some v.view) (slice_get ws i)) no_view_of_script

module _ (script : Script) (cut : ℕ → List ℕ) (n phase : ℕ) (two : 2 ≤ n) where
  abbrev cuts : List (List ℕ)
  cuts = map cut (versions_in_use n (phase / 2)) ++ cut (suc (phase / 2)) ∷ []

  one_need : (w : SlottedView) (v : ViewState) (after : List Codes) → v.columns.key ≡ w.view.columns → IsFaithfulView n phase (λ u. value_at script w.view (cut u)) v → after ≡ value_at script w.view (cut (suc (phase / 2)))
      → slots_needed n (phase / 2) v after ≡ slot_need script cuts w
  one_need w v after key f new =
      view_need n phase (λ u. value_at script w.view (cut u)) v after two f
      ∙ ap (λ rows. need v.columns.key (map (λ u. value_at script w.view (cut u)) (versions_in_use n (phase / 2)) ++ rows ∷ [])) new
      ∙ ap (λ columns. need columns (map (λ u. value_at script w.view (cut u)) (versions_in_use n (phase / 2)) ++ value_at script w.view (cut (suc (phase / 2))) ∷ [])) key
      ∙ ap (need w.view.columns) (sym (map-append (value_at script w.view) (map cut (versions_in_use n (phase / 2))) (cut (suc (phase / 2)) ∷ [])
      ∙ ap (λ l. l ++ value_at script w.view (cut (suc (phase / 2))) ∷ []) (map-map (value_at script w.view) cut (versions_in_use n (phase / 2)))))

  one_step : (x have slots need other : ℕ) (rest : Option StoreErr) (more : Option Shortage) → have ≡ slots → need ≡ other → rest ≡ option_map full_of more
      → cond (ltb have need) (Some (Full x need have)) rest ≡ option_map full_of (cond (ltb slots other) (Some (record { view = x; need = other; slots = slots })) more)
  one_step x have slots need other rest more a b e =
      ap (λ p. cond (ltb p need) (Some (Full x need p)) rest) a ∙ ap (λ q. cond (ltb slots q) (Some (Full x q slots)) rest) b ∙ by_test (ltb slots other)
    where
      by_test : (t : Bool) → cond t (Some (Full x other slots)) rest ≡ option_map full_of (cond t (Some (record { view = x; need = other; slots = slots })) more)
      by_test true = refl
      by_test false = e

  full_from : (x : ℕ) (ws : List SlottedView) (vs : List ViewState) (cs : ChangeLists) → AreViewsOf ws vs → length cs ≡ length vs
      → ((i : ℕ) → i < length vs → IsFaithfulView n phase (λ u. value_at script (viewed ws i) (cut u)) (get_or vs i no_view))
      → ((i : ℕ) → i < length vs → new_rows cs i ≡ value_at script (viewed ws i) (cut (suc (phase / 2))))
      → first_full n (phase / 2) x vs cs ≡ option_map full_of (first_shortage script cuts x ws)
  full_from x [] [] cs are same f new = refl
  full_from x [] (v ∷ vs) cs are same f new = absurd are
  full_from x (w ∷ ws) [] cs are same f new = absurd are
  full_from x (w ∷ ws) (v ∷ vs) [] are same f new = absurd (omega (arith, same))
  full_from x (w ∷ ws) (v ∷ vs) (c ∷ cs) are same f new =
      one_step x (length v.records) w.slots (slots_needed n (phase / 2) v c.0.rows) (slot_need script cuts w) (first_full n (phase / 2) (suc x) vs cs) (first_shortage script cuts (suc x) ws)
      are.0.1
      (one_need w v c.0.rows are.0.0 (f 0 (omega arith)) (new 0 (omega arith)))
      (full_from (suc x) ws vs cs are.1 (omega (arith, same)) (λ i lt. f (suc i) (omega arith)) (λ i lt. new (suc i) (omega arith)))

pub full : FullIsShortage
full script cut s cs two are same f new = full_from script cut s.versions s.phase two 0 (slotted_views script) s.views cs are same f new

-- ---- cuts of versions

pub cuts_are : CutsInUseAreOfVersions
cuts_are f w e =
    let c = w.phase / 2 in
    ap (λ k. drop (k - (f.versions - 2)) w.earlier_cuts ++ w.cut ∷ []) e
    ∙ sym (drop-append-le (c - (f.versions - 2)) w.earlier_cuts (w.cut ∷ []) (omega (arith, e)))
    ∙ sym (map_same (cut_of_version w) (λ v. get_or (w.earlier_cuts ++ w.cut ∷ []) v []) (versions_in_use f.versions c) (λ v k. without_last [] w.earlier_cuts w.cut w.target_cut v (omega (arith, e, (used f.versions c v k).1)))
    ∙ at_places (w.earlier_cuts ++ w.cut ∷ []) [] (suc (min c (f.versions - 2))) (c - (f.versions - 2)) (omega (arith, e, length_push w.earlier_cuts w.cut)))

-- the values at the cuts of the versions in use and the next one are those at the cuts in use and the next one
pub cuts_then : (f : Facts) (w : Writer) (next : List ℕ) (cut : ℕ → List ℕ) (n phase : ℕ) → n ≡ f.versions → phase ≡ w.phase → length w.earlier_cuts ≡ w.phase / 2 → ((v : ℕ) → v ≤ w.phase / 2 → cut v ≡ cut_of_version w v) → cut (suc (w.phase / 2)) ≡ next
    → map cut (versions_in_use n (phase / 2)) ++ cut (suc (phase / 2)) ∷ [] ≡ cuts_in_use f w ++ next ∷ []
cuts_then f w next cut n phase a b many earlier last =
    ap (λ k. map cut (versions_in_use k (phase / 2)) ++ cut (suc (phase / 2)) ∷ []) a
    ∙ ap (λ q. map cut (versions_in_use f.versions (q / 2)) ++ cut (suc (q / 2)) ∷ []) b
    ∙ ap (λ l. map cut (versions_in_use f.versions (w.phase / 2)) ++ l ∷ []) last
    ∙ ap (λ l. l ++ next ∷ []) (map_same cut (cut_of_version w) (versions_in_use f.versions (w.phase / 2)) (λ v k. earlier v (used f.versions (w.phase / 2) v k).1) ∙ sym (cuts_are f w many))
