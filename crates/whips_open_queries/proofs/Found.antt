-- What a search by name finds among open queries in the order of their names.
use Rattle.std.proofs.Common.{◌≡◌, ◌≢◌, inl, inr, ℕ, zero, suc, ◌+◌, ◌<◌, Bool, true, false, cond, Some, None, Ok, Err, Result, List, [], ◌∷◌, length, map, get_or, refl, sym, ap, ap₂, ◌∙◌, arith, eqb-true, eq-eqb}
use Rattle.std.specs.Result.{result_ok}
use Rattle.std.specs.Option.{option_map}
use Rattle.std.specs.List.{AllByRecursion, AllWithin}
use Rattle.std.specs.List.Sorted.{IsSearchInRange, IsBinarySearchResult, IsNonDecreasingBy, IsSortedBy}
use Rattle.std.specs.Ordering.{ordering_index, is_lt}
use Rattle.std.specs.declared.cmp.Ordering.TheVariants.{Less, Greater}
use Rattle.std.proofs.lemmas.Bool.{and_parts, and_from, cases_lt}
use Rattle.std.proofs.lemmas.Cmp.{nat_list_cmp_total}
use Rattle.std.proofs.lemmas.List.Sorted.{searchable_from_sorted}
use Rattle.whips_model.specs.Tuples.{Codes, codes_cmp}
use Rattle.whips_model.proofs.Keyed.{greater_from_less}
use Rattle.whips_choices.proofs.Rows.{codes_equal, codes_tied}
use Rattle.whips_managers.specs.Managers.{Query, is_named}
use Rattle.whips_open_queries.specs.Names.{name_codes, IsNamedBelow, AreInOrder, place_named}
use Rattle.whips_open_queries.specs.OpenQueries.{query_of}
use Rattle.whips_open_queries.specs.declared.queries.OpenQuery.{OpenQuery}

abbrev pub name : OpenQuery → Codes
name o = o.transaction ∷ o.origin ∷ []

-- a test of the name, and the name
pub named_is : (transaction origin : ℕ) (q : Query) → is_named transaction origin q ≡ true → name_codes q ≡ transaction ∷ origin ∷ []
named_is transaction origin q e =
    let both = and_parts _ _ e in
    ap₂ (λ a b. a ∷ b ∷ []) (eqb-true q.transaction transaction both.0) (eqb-true q.origin origin both.1)

pub is_named_so : (transaction origin : ℕ) (q : Query) → name_codes q ≡ transaction ∷ origin ∷ [] → is_named transaction origin q ≡ true
is_named_so transaction origin q e =
    let a : q.transaction ≡ transaction = cc in
    let b : q.origin ≡ origin = cc in
    and_from _ _ (eq-eqb q.transaction transaction a) (eq-eqb q.origin origin b)

module _ (deleted : List (ℕ × Codes)) where
  abbrev seen : List OpenQuery → List Query
  seen items = map (query_of deleted) items

  below_at : (o : OpenQuery) (items : List OpenQuery) (i : ℕ) (x : OpenQuery) → AllByRecursion (λ r. IsNamedBelow (name_codes r) (query_of deleted o)) (seen items) → i < length items → codes_cmp (name o) (name (get_or items i x)) ≡ Less
  below_at o [] i x h lt = absurd (omega arith)
  below_at o (p ∷ items) zero x h lt = h.0
  below_at o (p ∷ items) (suc i) x h lt = below_at o items i x h.1 (omega arith)

  rises_at : (items : List OpenQuery) (i j : ℕ) (x : OpenQuery) → AreInOrder (seen items) → i < j → j < length items → codes_cmp (name (get_or items i x)) (name (get_or items j x)) ≡ Less
  rises_at [] i j x h lt in_range = absurd (omega arith)
  rises_at (o ∷ items) zero zero x h lt in_range = absurd (omega arith)
  rises_at (o ∷ items) zero (suc j) x h lt in_range = below_at o items j x h.0 (omega arith)
  rises_at (o ∷ items) (suc i) zero x h lt in_range = absurd (omega arith)
  rises_at (o ∷ items) (suc i) (suc j) x h lt in_range = rises_at items i j x h.1 (omega arith) (omega arith)

  sorted : (items : List OpenQuery) → AreInOrder (seen items) → IsSortedBy (λ a b. is_lt (codes_cmp (name a) (name b))) items
  sorted items h k d low below = rw (greater_from_less (name (get_or items k d)) (name (get_or items (k + 1) d)) (rises_at items k (k + 1) d h (omega arith) below)) refl

  rises : (items : List OpenQuery) (n : Codes) → AreInOrder (seen items) → IsNonDecreasingBy (λ o. ordering_index (codes_cmp (name o) n)) items
  rises items n h = searchable_from_sorted nat_list_cmp_total name items n (sorted items h)

  place_found : (transaction origin : ℕ) (items : List OpenQuery) (i : ℕ) (x : OpenQuery) → AreInOrder (seen items) → i < length items → name (get_or items i x) ≡ transaction ∷ origin ∷ [] → Some i ≡ place_named transaction origin (seen items)
  place_found transaction origin [] i x h lt e = absurd (omega arith)
  place_found transaction origin (o ∷ items) zero x h lt e = ap (λ b. cond b (Some 0) (option_map (λ i. suc i) (place_named transaction origin (seen items)))) (sym (is_named_so transaction origin (query_of deleted o) e))
  place_found transaction origin (o ∷ items) (suc i) x h lt e =
      ap (option_map (λ i. suc i)) (place_found transaction origin items i x h.1 (omega arith) e)
      ∙ ap (λ b. cond b (Some 0) (option_map (λ i. suc i) (place_named transaction origin (seen items)))) (sym (other (is_named transaction origin (query_of deleted o)) refl))
    where
      other : (b : Bool) → is_named transaction origin (query_of deleted o) ≡ b → b ≡ false
      other true g =
          let same = named_is transaction origin (query_of deleted o) g in
          let tied = codes_tied (name o) (name (get_or items i x)) (same ∙ sym e) in
          let less = below_at o items i x h.0 (omega arith) in
          absurd (cc)
      other false g = refl

  place_missing : (transaction origin : ℕ) (items : List OpenQuery) → ((k : ℕ) (x : OpenQuery) → k < length items → name (get_or items k x) ≢ transaction ∷ origin ∷ []) → None ≡ place_named transaction origin (seen items)
  place_missing transaction origin [] h = refl
  place_missing transaction origin (o ∷ items) h =
      ap (option_map (λ i. suc i)) (place_missing transaction origin items (λ k x lt. h (suc k) x (omega arith)))
      ∙ ap (λ b. cond b (Some 0) (option_map (λ i. suc i) (place_named transaction origin (seen items)))) (sym (other (is_named transaction origin (query_of deleted o)) refl))
    where
      other : (b : Bool) → is_named transaction origin (query_of deleted o) ≡ b → b ≡ false
      other true g = absurd (h 0 o (omega arith) (named_is transaction origin (query_of deleted o) g))
      other false g = refl

  pub found : (transaction origin : ℕ) (items : List OpenQuery) (r : Result ℕ ℕ) → AreInOrder (seen items) → IsSearchInRange r (length items) → IsBinarySearchResult (λ o. codes_cmp (name o) (transaction ∷ origin ∷ [])) items r
      → result_ok r ≡ place_named transaction origin (seen items)
  found transaction origin [] (Ok i) h in_range same = absurd (omega arith)
  found transaction origin (o ∷ items) (Ok i) h in_range same = place_found transaction origin (o ∷ items) i o h in_range (codes_equal _ _ (same o))
  found transaction origin items (Err i) h in_range parted =
      let parts = parted (rises items (transaction ∷ origin ∷ []) h) in
      place_missing transaction origin items (other parts.0 parts.1)
    where
      other : AllWithin (λ o. codes_cmp (name o) (transaction ∷ origin ∷ []) ≡ Less) items 0 i → AllWithin (λ o. codes_cmp (name o) (transaction ∷ origin ∷ []) ≡ Greater) items i (length items)
          → (k : ℕ) (x : OpenQuery) → k < length items → name (get_or items k x) ≢ transaction ∷ origin ∷ []
      other before after k x lt e =
          let tied = codes_tied (name (get_or items k x)) (transaction ∷ origin ∷ []) e in
          elim (cases_lt k i) [
            | inl below ↦ let h = before k x (omega arith) below in absurd (cc)
            | inr above ↦ let h = after k x above lt in absurd (cc)
          ]
