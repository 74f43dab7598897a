-- Keys that are seen as something, in the order of what they are seen as.
use Rattle.std.proofs.Common.{◌≡◌, List, [], ◌∷◌, map, refl, ap}
use Rattle.std.specs.List.{AllByRecursion}
use Rattle.std.specs.List.Sorted.{IsStrictlySortedBy}
use Rattle.std.specs.BTreeSet.{insert_key}
use Rattle.std.specs.Ordering.{match_ordering}
use Rattle.std.specs.declared.cmp.Ordering.{Ordering}
use Rattle.std.specs.declared.cmp.Ordering.TheVariants.{Less, Equal, Greater}

module _ {K X : Type 0} (see : K → X) (cmp : X → X → Ordering) where
  -- a key that is put in is seen put in
  pub insert_seen : (ks : List K) (k : K) → map see (insert_key (λ x y. cmp (see x) (see y)) ks k) ≡ insert_key cmp (map see ks) (see k)
  insert_seen [] k = refl
  insert_seen (x ∷ xs) k = elim (cmp (see k) (see x)) as (λ o. map see (match_ordering o (k ∷ x ∷ xs) (x ∷ xs) (x ∷ insert_key (λ x y. cmp (see x) (see y)) xs k)) ≡ match_ordering o (see k ∷ see x ∷ map see xs) (see x ∷ map see xs) (see x ∷ insert_key cmp (map see xs) (see k))) [
    | Less ↦ refl
    | Equal ↦ refl
    | Greater ↦ ap (λ l. see x ∷ l) (insert_seen xs k)
  ]

  below_seen : (x : X) (ks : List K) → AllByRecursion (λ y. cmp x (see y) ≡ Less) ks → AllByRecursion (λ y. cmp x y ≡ Less) (map see ks)
  below_seen x [] h = tt
  below_seen x (k ∷ ks) h = (h.0, below_seen x ks h.1)

  -- keys in order are seen in order
  pub sorted_seen : (ks : List K) → IsStrictlySortedBy (λ x y. cmp (see x) (see y)) ks → IsStrictlySortedBy cmp (map see ks)
  unfolding IsStrictlySortedBy
  sorted_seen [] h = tt
  sorted_seen (k ∷ ks) h = (below_seen (see k) ks h.0, sorted_seen ks h.1)
