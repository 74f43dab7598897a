-- The value of a view at the cut of a version.
use Rattle.std.proofs.Common.{◌≡◌, ℕ, zero, suc, ◌+◌, ◌<◌, ◌≤◌, true, false, List, [], ◌∷◌, length, take, drop, Some, refl, sym, ap, subst, ◌∙◌, arith, ⊎_elim}
use Rattle.std.specs.Prelude.{slice_get, slice_index, map}
use Rattle.std.specs.Option.{option_and_then, unwrap_or}
use Rattle.std.specs.List.{AllByRecursion}
use Rattle.std.proofs.lemmas.Bool.{cases_lt, false_from_ne_true}
use Rattle.std.proofs.lemmas.List.{length-map, take-take}
use Rattle.whips_model.specs.Relation.{Table, value_of}
use Rattle.whips_model.specs.Views.{ViewData}
use Rattle.whips_states.specs.States.{Updates, all_applied, state_at, AreAllValid, AreSoundTables}
use Rattle.whips_states.specs.Concerns.{concerns}
use Rattle.whips_lists.specs.Lists.{places_from}
use Rattle.whips_flow.specs.State.{start, zero_cut, Pipeline, count_of_source}
use Rattle.whips_flow.specs.Cuts.{cut_after}
use Rattle.whips_flow.specs.Painted.{Row}
use Rattle.whips_cut_laws.proofs.Lined.{joined}
use Rattle.whips_flow.specs.Progress.{after}
use Rattle.whips_lists.proofs.ByPlace.{get_within}
use Rattle.whips_settled_laws.proofs.Ends.{start_sound}
use Rattle.whips_facts.specs.Scripts.{Script, SlottedView, slotted_views, value_at, view_at, no_view}
use Rattle.whips_lists.proofs.Places.{length_places}
use Rattle.whips_facts.specs.ScriptFacts.{facts_of}
use Rattle.whips_facts.specs.Values.{IsValidScript, Changes, prefix_cut, all_taken_sets, last_list, VersionIsValueAtLastList}
use Rattle.whips_facts_laws.proofs.Premises.{asks_there}
use Rattle.whips_value_laws.proofs.Commute.{In, states_past, state_valid_past}
use Rattle.whips_value_laws.proofs.Tails.{AreApart, inside, outside, all_take, all_drop, all_sound, valid_take, valid_drop, others_valid, parts_applied, tail_keeps, state_sound}
use Rattle.whips_value_laws.proofs.Whole.{apart_from, drop_all, transaction_there, past_the_end}
use Rattle.whips_version_laws.proofs.Kept.{Kept, after_kept, start_kept}
use Rattle.whips_version_laws.proofs.Covered.{cut_is, cut_long, covered_then_counted, counted_then_covered}

-- ---- two cuts that differ in what doesn't concern the view

module _ (view : ViewData) where
  abbrev AreUnconcerned : List Updates → Type 0
  AreUnconcerned ts = AllByRecursion (λ t. concerns view t ≡ false) ts

  -- one source is counted further
  further : (db : List Table) (ts : List Updates) (work : List (List Updates)) (cut : List ℕ) (c d : ℕ) → AreSoundTables db → AreApart (ts ∷ work) → AllByRecursion (AreAllValid db) (ts ∷ work) → c ≤ d → AreUnconcerned (drop c (take d ts)) → value_of view (state_at (all_applied db (take c ts)) work cut) ≡ value_of view (state_at (all_applied db (take d ts)) work cut)
  further db ts work cut c d h a v le u =
      let us = take d ts in
      let front = all_applied db (take c us) in
      let rest = drop c us in
      let all = state_at front work cut in
      let us_in = all_take (In (Changes ts)) d ts (inside ts) in
      let us_valid = valid_take d db ts v.0 in
      let rest_in = all_drop (In (Changes ts)) c us us_in in
      let out = outside ts work a.0 in
      let others = others_valid db ts (take c us) work (all_take (In (Changes ts)) c us us_in) a.0 v.1 in
      let sound = all_sound db (take c us) h (valid_take c db us us_valid) in
      let same : take c us ≡ take c ts = take-take c d ts le in
      let whole : all_applied all rest ≡ state_at (all_applied db us) work cut = sym (states_past (Changes ts) front rest work cut rest_in out) ∙ ap (λ z. state_at z work cut) (parts_applied c db us) in
      ap (λ z. value_of view (state_at (all_applied db z) work cut)) (sym same)
      ∙ (sym (tail_keeps view all rest (state_sound front work cut sound a.1 others) (state_valid_past (Changes ts) front rest work cut rest_in out (valid_drop c db us us_valid)) u)
      ∙ ap (value_of view) whole)

  -- what one of the cuts counts and the other doesn't concerns not the view
  abbrev Agree : List (List Updates) → List ℕ → List ℕ → Type 0
  Agree [] cut other = Unit {0}
  Agree (ts ∷ work) [] other = ⊥
  Agree (ts ∷ work) (c ∷ cut) [] = ⊥
  Agree (ts ∷ work) (c ∷ cut) (d ∷ other) = AreUnconcerned (drop c (take d ts)) × AreUnconcerned (drop d (take c ts)) × Agree work cut other

  agree_keep : (db : List Table) (work : List (List Updates)) (cut other : List ℕ) → AreSoundTables db → AreApart work → AllByRecursion (AreAllValid db) work → Agree work cut other → value_of view (state_at db work cut) ≡ value_of view (state_at db work other)
  agree_keep db [] cut other h a v u = refl
  agree_keep db (ts ∷ work) [] other h a v u = absurd u
  agree_keep db (ts ∷ work) (c ∷ cut) [] h a v u = absurd u
  agree_keep db (ts ∷ work) (c ∷ cut) (d ∷ other) h a v u =
      agree_keep (all_applied db (take c ts)) work cut other
      (all_sound db (take c ts) h (valid_take c db ts v.0))
      a.1
      (others_valid db ts (take c ts) work (all_take (In (Changes ts)) c ts (inside ts)) a.0 v.1)
      u.2
      ∙ ⊎_elim (λ lt. further db ts work other c d h a v (omega (arith, lt)) u.0) (λ le. sym (further db ts work other d c h a v le u.1)) (cases_lt c d)

  get_take : (n : ℕ) (ts : List Updates) (j : ℕ) (t : Updates) → slice_get (take n ts) j ≡ Some t → (j < n) × (slice_get ts j ≡ Some t)
  get_take zero ts j t e = absurd (cc)
  get_take (suc n) [] j t e = absurd (cc)
  get_take (suc n) (u ∷ ts) zero t e = (omega arith, e)
  get_take (suc n) (u ∷ ts) (suc j) t e = let m = get_take n ts j t e in (omega (arith, m.0), m.1)

  between : (ts : List Updates) (c d : ℕ) → ((j : ℕ) (t : Updates) → slice_get ts j ≡ Some t → concerns view t ≡ true → j < d → j < c) → AreUnconcerned (drop c (take d ts))
  between ts c d g = drop_all (λ t. concerns view t ≡ false) c (take d ts) (λ j t le e. let m = get_take d ts j t e in false_from_ne_true (concerns view t) (λ k. let lt = g j t m.1 k m.0 in omega (arith, lt, le)))

  agree_from : (work : List (List Updates)) (cut other : List ℕ) → length cut ≡ length work → length other ≡ length work → ((y : ℕ) (ts : List Updates) (j : ℕ) (t : Updates) → slice_get work y ≡ Some ts → slice_get ts j ≡ Some t → concerns view t ≡ true → (j < slice_index cut y → j < slice_index other y) × (j < slice_index other y → j < slice_index cut y)) → Agree work cut other
  agree_from [] cut other m n g = tt
  agree_from (ts ∷ work) [] other m n g = absurd (omega arith)
  agree_from (ts ∷ work) (c ∷ cut) [] m n g = absurd (omega arith)
  agree_from (ts ∷ work) (c ∷ cut) (d ∷ other) m n g = (
    between ts c d (λ j t e k. (g zero ts j t refl e k).1),
    between ts d c (λ j t e k. (g zero ts j t refl e k).0),
    agree_from work cut other (omega arith) (omega arith) (λ y us j t a e k. g (suc y) us j t a e k),
  )

-- ---- the cut of the first numbered transactions

index_places : (g : ℕ → ℕ) (k n y : ℕ) → y < n → slice_index (map g (places_from k n)) y ≡ g (k + y)
index_places g k zero y lt = absurd (omega arith)
index_places g k (suc n) zero lt = let e : k ≡ k + 0 = omega arith in ap g e
index_places g k (suc n) (suc y) lt = let e : suc k + y ≡ k + suc y = omega arith in index_places g (suc k) n y (omega arith) ∙ ap g e

-- the value at the cut after the first v sets
pub kept_value : (s : Script) → IsValidScript s → (p : Pipeline) (sets : List (List Row)) (x v : ℕ) (cut : List ℕ) → Kept (facts_of s) p sets → cut ≡ cut_after (zero_cut (facts_of s)) (joined (take v sets)) → x < length (slotted_views s)
    → value_at s (view_at s x) (prefix_cut s p (last_list x (take v sets))) ≡ value_at s (view_at s x) cut
kept_value s valid p sets x v cut kept is lt =
    let f = facts_of s in
    let last = last_list x (take v sets) in
    let base = (view_at s x).base in
    let sources : length f.transactions ≡ length s.work = length-map s.work (λ ts. length ts) in
    let is_view : x < length f.slots = omega (arith, lt, length-map (slotted_views s) (λ (w : SlottedView). w.slots)) in
    let long : length (prefix_cut s p last) ≡ length s.work = length-map (places_from 0 (length s.work)) (count_of_source (take last p.numbering)) ∙ length_places 0 (length s.work) in
    agree_keep base s.setup.initial s.work (prefix_cut s p last) cut valid.tables (apart_from s.work valid.apart) valid.valid
    (agree_from base s.work (prefix_cut s p last) cut long (cut_long f v sets cut is ∙ sources) (λ y ts j t a e k.
    let within = get_within y s.work ts a in
    let is_source : y < length f.transactions = omega (arith, within, sources) in
    let concerned : f.concerns y (suc j) x ≡ true = ap (concerns base) (transaction_there s y j ts t a e) ∙ k in
    let number : slice_index (prefix_cut s p last) y ≡ count_of_source (take last p.numbering) y = index_places (count_of_source (take last p.numbering)) 0 (length s.work) y within ∙ ap (count_of_source (take last p.numbering)) (zero_plus y) in (
      λ l. covered_then_counted f p sets kept x v cut is_view is y (suc j) is_source (omega arith) concerned (omega (arith, l, number)),
      λ l. let c = counted_then_covered f p sets kept x v cut is_view is y (suc j) is_source (omega arith) concerned l in omega (arith, c, number),
    )))
  where
    zero_plus : (n : ℕ) → 0 + n ≡ n
    zero_plus n = omega arith

pub versions_are : VersionIsValueAtLastList
versions_are s valid es x v cut at = ⊎_elim here past (cases_lt x (length (slotted_views s)))
  where
    here : x < length (slotted_views s) → value_at s (view_at s x) (prefix_cut s (after (facts_of s) (start (facts_of s)) es) (last_list x (take v (all_taken_sets (facts_of s) (start (facts_of s)) es)))) ≡ value_at s (view_at s x) cut
    here lt =
        let f = facts_of s in
        let p = after f (start f) es in
        let sets = all_taken_sets f (start f) es in
        let kept : Kept f p sets = after_kept f (asks_there s valid.sources) es (start f) [] (start_sound f) (start_kept f) in
        kept_value s valid p sets x v cut kept (cut_is f p sets kept v cut at) lt

    -- no view: a row of no columns, whatever the relations
    past : length (slotted_views s) ≤ x → value_at s (view_at s x) (prefix_cut s (after (facts_of s) (start (facts_of s)) es) (last_list x (take v (all_taken_sets (facts_of s) (start (facts_of s)) es)))) ≡ value_at s (view_at s x) cut
    past le =
        let gone = ap (λ o. unwrap_or (option_and_then (λ v. Some v.view) o) no_view) (past_the_end (slotted_views s) x le) in
        subst (λ w. value_at s w (prefix_cut s (after (facts_of s) (start (facts_of s)) es) (last_list x (take v (all_taken_sets (facts_of s) (start (facts_of s)) es)))) ≡ value_at s w cut) (sym gone) refl
