-- The sources that the queries of a view ask, by origin.
use Rattle.std.proofs.Common.{◌≡◌, ℕ, zero, suc, ◌+◌, ◌<◌, ◌≤◌, inl, inr, cond, not, List, [], ◌∷◌, ◌++◌, length, map, get_or, refl, sym, ap, ap₂, ◌∙◌, arith, add-one}
use Rattle.std.specs.Prelude.{◌==◌, min}
use Rattle.std.proofs.lemmas.Bool.{cases_lt, ne_eqb}
use Rattle.std.proofs.lemmas.List.{length-map, map-append}
use Rattle.std.proofs.lemmas.List.Elements.{filter-append}
use Rattle.std.specs.List.{filter}
use Rattle.whips_lists.specs.Lists.{places_from}
use Rattle.whips_lists.proofs.Places.{length_places, mapped_at, places_next}
use Rattle.whips_model.specs.Tuples.{Columns}
use Rattle.whips_choices.specs.KeyedViews.{KeyedView}
use Rattle.whips_steps.specs.Steps.{StepData, other_parts, home, rising_once, steps, asked_sources}
use Rattle.whips_view.specs.ViewDefs.{View, keyed}
use Rattle.whips_strobe.specs.Routes.{routes_of}
use Rattle.whips_strobe.proofs.Replies.{sources_back, steps_bound}

-- what stands at a place among the values of the numbers below n
value_at : {X : Type 0} (f : ℕ → X) (n k : ℕ) (d : X) → k < n → get_or (map f (places_from 0 n)) k d ≡ f k
value_at f n k d lt = let e : 0 + k ≡ k = omega arith in mapped_at f n 0 k d lt ∙ ap f e

-- one value more
pub values_next : {X : Type 0} (f : ℕ → X) (n : ℕ) (now new : List X) (x : X) → now ≡ map f (places_from 0 n) → x ≡ f n → new ≡ now ++ x ∷ [] → new ≡ map f (places_from 0 (n + 1))
values_next f n now new x was is more =
    more ∙ ap₂ (λ l y. l ++ y ∷ []) was is ∙ sym (map-append f (places_from 0 n) (n ∷ [])) ∙ ap (map f) (sym (places_next n))
    ∙ ap (λ k. map f (places_from 0 k)) (sym (add-one n))

-- the parts other than an origin that is none of them
all_others : (n origin : ℕ) → n ≤ origin → other_parts n origin ≡ places_from 0 n
all_others zero origin le = refl
all_others (suc n) origin le =
    let below : n ≡ origin → ⊥ = λ e. omega arith in
    ap (filter (λ part. not (part == origin))) (places_next n) ∙ filter-append (λ part. not (part == origin)) (places_from 0 n) (n ∷ [])
    ∙ ap₂ (λ a b. a ++ cond (not b) (n ∷ []) []) (all_others n origin (omega arith)) (ne_eqb n origin below) ∙ sym (places_next n)

past_asked : (v : KeyedView) (origin : ℕ) → length v.keys ≤ origin → asked_sources v (length v.keys) ≡ asked_sources v origin
unfolding asked_sources
past_asked v origin le = ap (λ l. rising_once (map (home v) l)) (all_others (length v.keys) (length v.keys) (omega arith) ∙ sym (all_others (length v.keys) origin le))

asked_min : (v : KeyedView) (n origin : ℕ) → n ≡ length v.keys → asked_sources v (min n origin) ≡ asked_sources v origin
asked_min v n origin size = elim (cases_lt origin n) [
  | inl within ↦ ap (asked_sources v) (omega arith)
  | inr past ↦ ap (asked_sources v) (omega arith) ∙ past_asked v origin (omega arith)
]

-- the sources at the place of an origin, or at the last place
pub route_is : (view : View) (routes : List (List ℕ)) (width origin place : ℕ) (own : List ℕ) → routes ≡ routes_of view → width ≡ length view.bases → place ≡ min width origin → own ≡ get_or routes place own → own ≡ asked_sources (keyed view) origin
route_is view routes width origin place own all size at is =
    let keys : length (keyed view).keys ≡ length view.bases = length-map view.bases (λ (b : Columns). b.key) in
    is ∙ ap (λ l. get_or l place own) all ∙ value_at (asked_sources (keyed view)) (suc (length view.bases)) place own (omega arith)
    ∙ ap (asked_sources (keyed view)) at ∙ asked_min (keyed view) width origin (omega arith)

-- there is a place for each part, and one more
pub route_there : (view : View) (routes : List (List ℕ)) (width origin place : ℕ) → routes ≡ routes_of view → width ≡ length view.bases → place ≡ min width origin → place < length routes
route_there view routes width origin place all size at =
    let count : length routes ≡ suc (length view.bases) = ap length all ∙ length-map (places_from 0 (suc (length view.bases))) (asked_sources (keyed view)) ∙ length_places 0 (suc (length view.bases)) in
    omega arith

-- there are no more sources than relations
pub route_few : (view : View) (origin : ℕ) (own : List ℕ) → own ≡ asked_sources (keyed view) origin → length view.bases ≤ 4 → length own ≤ 4
route_few view origin own is few =
    let size = ap length is in
    let bound = steps_bound (keyed view) origin in
    let keys : length (keyed view).keys ≡ length view.bases = length-map view.bases (λ (b : Columns). b.key) in
    omega arith

-- the sources of all steps
pub sources_are : (v : KeyedView) (origin : ℕ) (items : List StepData) (sources : List ℕ) → items ≡ steps v origin → sources ≡ map (λ (s : StepData). s.source) items → sources ≡ asked_sources v origin
sources_are v origin items sources all is = is ∙ ap (map (λ (s : StepData). s.source)) all ∙ sources_back v origin
