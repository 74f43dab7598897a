-- Sums over lists of which one element changes.
use Rattle.std.proofs.Common.{◌≡◌, ℕ, zero, suc, ◌+◌, ◌≤◌, List, [], ◌∷◌, ◌++◌, length, Some, ap, arith}
use Rattle.std.specs.Prelude.{slice_get}
use Rattle.whips_lists.specs.Lists.{changed_at, map_with_place, sum_with_place, front, without_front, places_from, total}
use Rattle.whips_lists.proofs.Options.{some_same, none_some}
use Rattle.whips_lists.proofs.Lists.{front_is}

module _ {A : Type 0} (w : ℕ → A → ℕ) (g : A → A) where
  pub sum_at_changed : (k i j : ℕ) (xs : List A) (x : A) → j ≡ k + i → slice_get xs i ≡ Some x → sum_with_place w k (changed_at i g xs) + w j x ≡ sum_with_place w k xs + w j (g x)
  sum_at_changed k i j [] x e h = none_some x h
  sum_at_changed k zero j (z ∷ xs) x e h =
      let jk : j ≡ k = omega arith in
      let zx : z ≡ x = some_same z x h in
      omega (arith, ap (λ n. w n x) jk, ap (λ n. w n (g x)) jk, ap (λ a. w k a) zx, ap (λ a. w k (g a)) zx)
  sum_at_changed k (suc i) j (z ∷ xs) x e h = omega (arith, sum_at_changed (suc k) i j xs x (omega arith) h)

  pub sum_at_grows : (c k i j : ℕ) (xs : List A) → j ≡ k + i → ((x : A) → w j (g x) ≤ w j x + c) → sum_with_place w k (changed_at i g xs) ≤ sum_with_place w k xs + c
  sum_at_grows c k i j [] e h = omega arith
  sum_at_grows c k zero j (z ∷ xs) e h =
      let jk : j ≡ k = omega arith in
      omega (arith, ap (λ n. w n z) jk, ap (λ n. w n (g z)) jk, h z)
  sum_at_grows c k (suc i) j (z ∷ xs) e h = omega (arith, sum_at_grows c (suc k) i j xs (omega arith) h)

module _ {A : Type 0} (w : A → ℕ) where
  pub total_append : (xs ys : List A) → total w (xs ++ ys) ≡ total w xs + total w ys
  total_append [] ys = omega arith
  total_append (x ∷ xs) ys = omega (arith, total_append xs ys)

  pub total_front : (xs : List A) (x : A) → front xs ≡ Some x → total w xs ≡ w x + total w (without_front xs)
  total_front xs x h = ap (λ ys. total w ys) (front_is xs x h)

-- each element gains at most what v gives of its place
pub sum_map_at : {A : Type 0} (w : ℕ → A → ℕ) (g : ℕ → A → A) (v : ℕ → ℕ) → ((j : ℕ) (x : A) → w j (g j x) ≤ w j x + v j) → (k : ℕ) (xs : List A) → sum_with_place w k (map_with_place g k xs) ≤ sum_with_place w k xs + total v (places_from k (length xs))
sum_map_at w g v h k [] = omega arith
sum_map_at w g v h k (x ∷ xs) = omega (arith, h k x, sum_map_at w g v h (suc k) xs)
