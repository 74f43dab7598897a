-- The views of the shop are small: `views_small`.
--
-- The idea: an order's row in a view is made of the order and of the one item that it names, so a view has at most as many rows as there are
-- orders; and these rise by their numbers, which are below 64.
use Rattle.std.proofs.Common.{◌≡◌, ℕ, suc, ◌+◌, ◌<◌, ◌≤◌, ◌&&◌, ◌==◌, Bool, true, false, cond, List, [], ◌∷◌, ◌++◌, length, length-append, refl, sym, ap, subst, ◌∙◌, arith, eqb-true}
use Rattle.std.specs.Prelude.{map, filter, slice_index}
use Rattle.std.specs.List.{AllByRecursion, flat_map}
use Rattle.std.specs.Ordering.{nat_cmp, ordering_then}
use Rattle.std.specs.declared.cmp.Ordering.{Ordering}
use Rattle.std.specs.declared.cmp.Ordering.TheVariants.{Less, Equal, Greater}
use Rattle.std.proofs.lemmas.Cmp.{ranked}
use Rattle.std.proofs.lemmas.List.{length-map}
use Rattle.std.proofs.lemmas.List.Elements.{filter-append}
use Rattle.std.proofs.lemmas.Bool.Decides.{nat_tests}
use Rattle.whips_model.specs.Tuples.{Codes, IsBefore, IsKeyed}
use Rattle.whips_model.specs.Views.{Choice, meets, choices, out_row, rows_of}
use Rattle.whips_gen.specs.Shop.{lines_parts, big_parts}
use Rattle.whips_gen.specs.Bounds.{ViewsAreSmall}

-- ---- orders rise

first_below : (x y : ℕ) (o : Ordering) → o ≡ nat_cmp x y → ordering_then o Equal ≡ Less → x < y
first_below x y Less e h = ranked x y Less e
first_below x y Equal e h = absurd (cc)
first_below x y Greater e h = absurd (cc)

before : (t u : Codes) → IsBefore (0 ∷ []) t u → slice_index t 0 < slice_index u 0
before t u h = first_below (slice_index t 0) (slice_index u 0) (nat_cmp (slice_index t 0) (slice_index u 0)) refl h

all_above : (t : Codes) (rows : List Codes) → AllByRecursion (IsBefore (0 ∷ []) t) rows → AllByRecursion (λ u. slice_index t 0 < slice_index u 0) rows
all_above t [] h = tt
all_above t (u ∷ rows) h = (before t u h.0, all_above t rows h.1)

rising : (b : ℕ) (rows : List Codes) → b ≤ 64 → IsKeyed (0 ∷ []) rows → AllByRecursion (λ u. b ≤ slice_index u 0) rows → AllByRecursion (λ u. slice_index u 0 < 64) rows → length rows + b ≤ 64
rising b [] le keyed low high = omega (arith, le)
rising b (t ∷ rows) le keyed low high =
    let ih = rising (suc (slice_index t 0)) rows (omega (arith, high.0)) keyed.1 (above t rows (all_above t rows keyed.0)) high.1 in
    omega (arith, ih, low.0)
  where
    above : (t : Codes) (rows : List Codes) → AllByRecursion (λ u. slice_index t 0 < slice_index u 0) rows → AllByRecursion (λ u. suc (slice_index t 0) ≤ slice_index u 0) rows
    above t [] h = tt
    above t (u ∷ rows) h = (omega (arith, h.0), above t rows h.1)

all_low : (rows : List Codes) → AllByRecursion (λ u. 0 ≤ slice_index u 0) rows
all_low [] = tt
all_low (t ∷ rows) = (omega arith, all_low rows)

few_orders : (orders : List Codes) → IsKeyed (0 ∷ []) orders → AllByRecursion (λ t. slice_index t 0 < 64) orders → length orders ≤ 64
few_orders orders keyed high = let r = rising 0 orders (omega arith) keyed (all_low orders) high in omega (arith, r)

-- ---- at most one row for an order

module _ (p : Choice → Bool) where
  one_passes : (c : Choice) → length (filter p (c ∷ [])) ≤ 1
  one_passes c = go (p c)
    where
      go : (b : Bool) → length (cond b (c ∷ []) []) ≤ 1
      go true = omega arith
      go false = omega arith

  few_each : (g : Codes → List Choice) (ts : List Codes) → ((t : Codes) → length (filter p (g t)) ≤ 1) → length (filter p (flat_map g ts)) ≤ length ts
  few_each g [] one = omega arith
  few_each g (t ∷ ts) one =
      omega (arith, one t, few_each g ts one, ap length (filter-append p (g t) (flat_map g ts)), length-append (filter p (g t)) (filter p (flat_map g ts)))

-- the choices of an order and an item
abbrev with_items : Codes → List Codes → List Choice
with_items t items = map (λ c. t ∷ c) (choices (items ∷ []))

none_named : (t : Codes) (k : ℕ) (items : List Codes) → slice_index t 1 ≡ k → AllByRecursion (λ u. k < slice_index u 0) items → filter (meets lines_parts) (with_items t items) ≡ []
none_named t k [] is above = refl
none_named t k (i ∷ items) is above =
    let differs : (slice_index t 1 == slice_index i 0) ≡ false = grind (arith, nat_tests, is, above.0) in
    ap (λ b. cond ((b && true) && true) ((t ∷ i ∷ []) ∷ filter (meets lines_parts) (with_items t items)) (filter (meets lines_parts) (with_items t items))) differs ∙ none_named t k items is above.1

one_named : (t : Codes) (items : List Codes) → IsKeyed (0 ∷ []) items → length (filter (meets lines_parts) (with_items t items)) ≤ 1
one_named t [] keyed = omega arith
one_named t (i ∷ items) keyed = go (one_named t items keyed.1) (slice_index t 1 == slice_index i 0) refl
  where
    go : length (filter (meets lines_parts) (with_items t items)) ≤ 1 → (b : Bool) → (slice_index t 1 == slice_index i 0) ≡ b → length (cond ((b && true) && true) ((t ∷ i ∷ []) ∷ filter (meets lines_parts) (with_items t items)) (filter (meets lines_parts) (with_items t items))) ≤ 1
    go fewer true e =
        let none = none_named t (slice_index i 0) items (eqb-true (slice_index t 1) (slice_index i 0) e) (all_above i items keyed.0) in
        omega (arith, ap length none)
    go fewer false e = fewer

-- ---- the views

pub views_small : ViewsAreSmall
views_small orders items keyed own high =
    let few = few_orders orders keyed high in
    let lines = few_each (meets lines_parts) (λ t. with_items t items) orders (λ t. one_named t items own) in
    let big = few_each (meets big_parts) (λ t. (t ∷ []) ∷ []) orders (λ t. one_passes (meets big_parts) (t ∷ [])) in (
      omega (arith, few, lines, length-map (filter (meets lines_parts) (choices (orders ∷ items ∷ []))) (out_row lines_parts)),
      omega (arith, few, big, length-map (filter (meets big_parts) (choices (orders ∷ []))) (out_row big_parts)),
    )
