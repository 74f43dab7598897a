-- The partial choices that a query begins with.
use Rattle.std.proofs.Common.{◌≡◌, ◌≢◌, ◌⊎◌, inl, inr, ℕ, ◌<◌, ◌==◌, true, Option, Some, None, is_some, List, [], ◌∷◌, length, map, get_or, replicate, refl, sym, ap, subst, ◌∙◌, arith, eq-eqb, ne_eqb}
use Rattle.std.proofs.lemmas.List.{length-replicate}
use Rattle.std.specs.Prelude.{slice_index}
use Rattle.std.specs.List.{AllByRecursion}
use Rattle.std.proofs.lemmas.Bool.{cases_eq}
use Rattle.whips_model.specs.Tuples.{Codes, IsKeyed}
use Rattle.whips_choices.specs.KeyedViews.{KeyedView}
use Rattle.whips_choices.specs.Partials.{Partial, slot, seed}
use Rattle.whips_choices.proofs.Parts.{seed_width, seed_at, seed_other}
use Rattle.whips_steps.specs.Steps.{asked_sources, is_filled}
use Rattle.whips_steps.specs.Answers.{IsWhole, AllDifferInKey}
use Rattle.whips_steps.proofs.Fills.{differ_rows}
use Rattle.whips_steps.proofs.Stepping.{all_filled, filled_first}
use Rattle.whips_steps.specs.Filled.{IsFilledBefore}

module _ (v : KeyedView) (part : ℕ) (lt : part < length v.keys) where
  seed_filled : (t : Codes) (j : ℕ) → is_some (slot (seed (length v.keys) part t) j) ≡ is_filled v part 1 j
  seed_filled t j = go (cases_eq j part) ∙ sym (filled_first v part j)
    where
      go : (j ≡ part) ⊎ (j ≢ part) → is_some (slot (seed (length v.keys) part t) j) ≡ (j == part)
      go (inl e) = subst (λ i. is_some (slot (seed (length v.keys) part t) i) ≡ true) (sym e) (ap is_some (seed_at (length v.keys) part t lt)) ∙ sym (eq-eqb j part e)
      go (inr ne) = ap is_some (seed_other (length v.keys) part j t ne) ∙ sym (ne_eqb j part ne)

  seed_tuple : (t u : Codes) (j : ℕ) → slot (seed (length v.keys) part t) j ≡ Some u → (j ≡ part) × (u ≡ t)
  seed_tuple t u j e = go (cases_eq j part)
    where
      go : (j ≡ part) ⊎ (j ≢ part) → (j ≡ part) × (u ≡ t)
      go (inl same) =
          let at = seed_at (length v.keys) part t lt in
          let is : slot (seed (length v.keys) part t) part ≡ Some u = subst (λ i. slot (seed (length v.keys) part t) i ≡ Some u) same e in
          (same, cc (at, is))
      go (inr ne) = let none = seed_other (length v.keys) part j t ne in absurd (cc (none, e))

  pub seeds_filled : (widths : List ℕ) (ts : List Codes) → AllByRecursion (λ t. length t ≡ slice_index widths part) ts → AllByRecursion (IsFilledBefore v widths part 1) (map (seed (length v.keys) part) ts)
  seeds_filled widths [] h = tt
  seeds_filled widths (t ∷ ts) h = (
    record {
      parts = seed_width (length v.keys) part t;
      filled = λ j below. seed_filled t j;
      tuples = λ j u e. let is = seed_tuple t u j e in ap length is.1 ∙ h.0 ∙ ap (slice_index widths) (sym is.0);
    },
    seeds_filled widths ts h.1,
  )

  pub seeds_whole : (ts : List Codes) → asked_sources v part ≡ [] → AllByRecursion (IsWhole (length v.keys)) (map (seed (length v.keys) part) ts)
  seeds_whole [] none = tt
  seeds_whole (t ∷ ts) none = (
    record {
      width = seed_width (length v.keys) part t;
      filled = λ j below. let size = ap length none in seed_filled t j ∙ all_filled v part 1 (omega arith) j below;
    },
    seeds_whole ts none,
  )

  pub seeds_differ : (ts : List Codes) → IsKeyed (get_or v.keys part []) ts → AllDifferInKey v.keys (map (seed (length v.keys) part) ts)
  seeds_differ ts keyed =
      let w : length {A = Option Codes} (replicate (length v.keys) None) ≡ length v.keys = length-replicate (length v.keys) None in
      differ_rows v.keys (replicate (length v.keys) None) part ts (omega arith) keyed

-- a list of no element
pub none_asked : (sources : List ℕ) → length sources ≡ 0 → sources ≡ []
none_asked [] e = refl
none_asked (s ∷ sources) e = absurd (omega arith)

-- what is filled up to a step past the last one is whole
pub all_whole : (v : KeyedView) (widths : List ℕ) (origin step : ℕ) (ps : List Partial) → length (asked_sources v origin) < step → AllByRecursion (IsFilledBefore v widths origin step) ps → AllByRecursion (IsWhole (length v.keys)) ps
all_whole v widths origin step [] past h = tt
all_whole v widths origin step (p ∷ ps) past h = (record { width = h.0.parts; filled = λ part lt. h.0.filled part lt ∙ all_filled v origin step past part lt }, all_whole v widths origin step ps past h.1)
