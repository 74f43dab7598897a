-- What follows where no refusal of a setup's making holds.
use Rattle.std.proofs.Common.{◌≡◌, ℕ, zero, suc, ◌+◌, ◌*◌, ◌≤◌, ◌&&◌, ◌==◌, nat_le, nat_lt, Bool, true, false, cond, List, [], ◌∷◌, length, None, refl, ap, subst, ◌∙◌, arith, eqb-true}
use Rattle.std.specs.List.{list_all, AllByRecursion}
use Rattle.std.proofs.lemmas.Bool.{and_parts}
use Rattle.std.proofs.lemmas.Bool.Decides.{nat_tests}
use Rattle.std.proofs.lemmas.List.{length-map}
use Rattle.whips_model.specs.Tuples.{Columns}
use Rattle.whips_model.specs.Relation.{Table}
use Rattle.whips_states.specs.States.{AreSoundTables}
use Rattle.whips_view.specs.ViewDefs.{View, HasBases, IsWellFormed, is_within}
use Rattle.whips_setup.specs.Setups.{setup_of}
use Rattle.whips_setup.specs.Limits.{relations_at, have_relations, are_initial, has_bases, are_sources_within, are_views_within}
use Rattle.whips_setup.specs.Refusals.{slots_refusal, setup_refusal, IsSetup}
use Rattle.whips_setup.proofs.Bases.{all_bases, schemas_are}

-- ---- tests one after another

record AreAll (a b c d : Bool) : Type 0 where
  first : a ≡ true
  second : b ≡ true
  third : c ≡ true
  fourth : d ≡ true

are_all : (a b c d : Bool) → (a && b && c && d) ≡ true → AreAll a b c d
are_all a b c d e =
    let last = and_parts (a && b && c) d e in
    let middle = and_parts (a && b) c last.0 in
    let front = and_parts a b middle.0 in
    record { first = front.0; second = front.1; third = middle.1; fourth = last.1 }

-- ---- how many relations there are

-- how many of the homes are below n
below : ℕ → List ℕ → ℕ
below n [] = 0
below n (home ∷ homes) = cond (nat_lt home n) 1 0 + below n homes

one_more : (home n : ℕ) → cond (nat_lt home (suc n)) 1 0 ≡ cond (home == n) 1 0 + cond (nat_lt home n) 1 0
one_more home n = grind (arith, nat_tests)

below_more : (n : ℕ) (homes : List ℕ) → below (suc n) homes ≡ relations_at n homes + below n homes
unfolding below
below_more n [] = refl
below_more n (home ∷ homes) = omega (arith, one_more home n, below_more n homes)

below_none : (homes : List ℕ) → below 0 homes ≡ 0
unfolding below
below_none [] = refl
below_none (home ∷ homes) = let none : cond {A = ℕ} (nat_lt home 0) 1 0 ≡ 0 = grind (arith, nat_tests) in omega (arith, none, below_none homes)

counts : (b : Bool) → b ≡ true → cond {A = ℕ} b 1 0 ≡ 1
counts true e = refl
counts false e = absurd (cc)

below_all : (n : ℕ) (homes : List ℕ) → list_all (λ home. nat_lt home n) homes ≡ true → below n homes ≡ length homes
unfolding below
below_all n [] e = refl
below_all n (home ∷ homes) e =
    let both = and_parts (nat_lt home n) (list_all (λ home. nat_lt home n) homes) e in
    omega (arith, counts (nat_lt home n) both.0, below_all n homes both.1)

within : (low high n : ℕ) → is_within low high n ≡ true → n ≤ high
within low high n e = let both = and_parts (nat_le low n) (nat_le n high) e in grind (arith, nat_tests)

below_bound : (n : ℕ) (homes : List ℕ) → have_relations n homes ≡ true → below n homes ≤ 4 * n
below_bound zero homes e = omega (arith, below_none homes)
below_bound (suc n) homes e =
    let both = and_parts (is_within 1 4 (relations_at n homes)) (have_relations n homes) e in
    omega (arith, below_more n homes, within 1 4 (relations_at n homes) both.0, below_bound n homes both.1)

module _ (sources : ℕ) (homes : List ℕ) (schemas : List Columns) (initial : List Table) (s : are_sources_within sources homes schemas initial ≡ true) where
  checked : ((is_within 1 8 sources && (length homes == length schemas) && list_all (λ home. nat_lt home sources) homes && have_relations sources homes) ≡ true) × (are_initial schemas initial ≡ true)
  checked = and_parts (is_within 1 8 sources && (length homes == length schemas) && list_all (λ home. nat_lt home sources) homes && have_relations sources homes) (are_initial schemas initial) s

  counted : AreAll (is_within 1 8 sources) (length homes == length schemas) (list_all (λ home. nat_lt home sources) homes) (have_relations sources homes)
  counted = are_all (is_within 1 8 sources) (length homes == length schemas) (list_all (λ home. nat_lt home sources) homes) (have_relations sources homes) checked.0

  lengths : length homes ≡ length initial
  lengths = eqb-true (length homes) (length schemas) counted.second ∙ ap length (schemas_are schemas initial checked.1) ∙ length-map initial (λ (t : Table). t.columns)

  bound : length initial ≤ 32
  bound = omega (arith, lengths, below_all sources homes counted.third, below_bound sources homes counted.fourth, within 1 8 sources counted.first)

  module _ (views : List View) (slots : List ℕ) (v : are_views_within homes initial views slots ≡ true) where
    fitting : AreAll (is_within 1 8 (length views)) (length slots == length views) (list_all (is_within 1 4096) slots) (list_all (has_bases homes initial) views)
    fitting = are_all (is_within 1 8 (length views)) (length slots == length views) (list_all (is_within 1 4096) slots) (list_all (has_bases homes initial) views) v

    pub over : AllByRecursion (λ view. HasBases view initial) views
    over = all_bases homes initial views fitting.fourth

    accepted : slots_refusal 0 initial views slots ≡ None → setup_refusal schemas (setup_of sources homes initial views slots) ≡ None
    accepted e = rw (s, v) e

    pub made : slots_refusal 0 initial views slots ≡ None → AreSoundTables initial → AllByRecursion IsWellFormed views → IsSetup (setup_of sources homes initial views slots)
    made e sound well = record {
      accepted = subst (λ cs. setup_refusal cs (setup_of sources homes initial views slots) ≡ None) (schemas_are schemas initial checked.1) (accepted e);
      versions = refl;
      homes = lengths;
      relations = bound;
      slots = eqb-true (length slots) (length views) fitting.second;
      views = within 1 8 (length views) fitting.first;
      bases = over;
      well_formed = well;
      tables = sound;
    }
