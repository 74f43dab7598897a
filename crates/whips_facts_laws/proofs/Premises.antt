-- Each view has room for its changes, and each asked source is there.
use Rattle.std.proofs.Common.{◌≡◌, ℕ, suc, ◌+◌, ◌<◌, ◌≤◌, Bool, true, false, List, [], ◌∷◌, ◌++◌, length, Option, Some, None, cond, ltb, refl, ap, arith}
use Rattle.std.specs.Prelude.{map, sum}
use Rattle.std.proofs.lemmas.Bool.{ltb-false}
use Rattle.std.proofs.lemmas.List.{length-map, map-append}
use Rattle.std.proofs.lemmas.List.Sums.{sum_by-cons}
use Rattle.whips_flow.specs.Facts.{Shortage}
use Rattle.whips_changes.specs.Changes.{need}
use Rattle.whips_changes.proofs.Unions.{within_need}
use Rattle.whips_steps.proofs.Stepping.{sources_are}
use Rattle.whips_facts.specs.Scripts.{Script, SlottedView, slotted_views, value_at, view_at}
use Rattle.whips_facts.specs.ScriptFacts.{change_count, slot_need, first_shortage}
use Rattle.whips_facts_laws.specs.FactsLaws.{FactsAreRoomy, FactsAskSourcesOfRun}

module _ (s : Script) (older : List (List ℕ)) (before after : List ℕ) where
  view_fits : (v : SlottedView) → change_count s before after v ≤ slot_need s (older ++ before ∷ after ∷ []) v
  view_fits v =
      let value = value_at s v.view in
      omega (arith, within_need v.view.columns (map value older) (value before) (value after), ap (need v.view.columns) (map-append value older (before ∷ after ∷ [])))

  one_more : (v : SlottedView) (views : List SlottedView) (x n : ℕ) (o : Option Shortage) (b : Bool) → ltb v.slots n ≡ b → change_count s before after v ≤ n → cond b (Some (record { view = x; need = n; slots = v.slots })) o ≡ None → (o ≡ None → sum (map (change_count s before after) views) ≤ sum (map (λ v. v.slots) views)) → sum (change_count s before after v ∷ map (change_count s before after) views) ≤ sum (v.slots ∷ map (λ v. v.slots) views)
  one_more v views x n o true e fits h rest = absurd (cc)
  one_more v views x n o false e fits h rest = omega (arith, fits, ltb-false v.slots n e, rest h, sum_by-cons (λ z. z) (change_count s before after v) (map (change_count s before after) views), sum_by-cons (λ z. z) v.slots (map (λ v. v.slots) views))

  all_fit : (x : ℕ) (views : List SlottedView) → first_shortage s (older ++ before ∷ after ∷ []) x views ≡ None → sum (map (change_count s before after) views) ≤ sum (map (λ v. v.slots) views)
  all_fit x [] h = omega arith
  all_fit x (v ∷ views) h =
      let n = slot_need s (older ++ before ∷ after ∷ []) v in
      one_more v views x n (first_shortage s (older ++ before ∷ after ∷ []) (suc x) views) (ltb v.slots n) refl (view_fits v) h (all_fit (suc x) views)

pub roomy : FactsAreRoomy
roomy s older before after h = all_fit s older before after 0 (slotted_views s) h

pub asks_there : FactsAskSourcesOfRun
asks_there s at x o =
    sources_are (λ y. y < length (map (λ ts. length ts) s.work)) (view_at s x) o (λ part lt. omega (arith, at x part lt, length-map s.work (λ ts. length ts)))
