-- The sources of a workload, made one after another.
use Rattle.std.proofs.Common.{◌≡◌, ℕ, zero, suc, ◌+◌, List, [], ◌∷◌, ◌++◌, take, drop, Some, ap, ap₂, ◌∙◌, arith}
use Rattle.std.specs.Prelude.{slice_get}
use Rattle.whips_lists.specs.Lists.{map_with_place}

-- the first of those that are left is the one at this place
pub left_get : {A : Type 0} (i : ℕ) (xs rest : List A) (x : A) → drop i xs ≡ x ∷ rest → slice_get xs i ≡ Some x
left_get zero [] rest x h = absurd (cc)
left_get zero (y ∷ xs) rest x h = cc
left_get (suc i) [] rest x h = absurd (cc)
left_get (suc i) (y ∷ xs) rest x h = left_get i xs rest x h

left_after : {A : Type 0} (i : ℕ) (xs rest : List A) (x : A) → drop i xs ≡ x ∷ rest → drop (suc i) xs ≡ rest
left_after zero [] rest x h = absurd (cc)
left_after zero (y ∷ xs) rest x h = cc
left_after (suc i) [] rest x h = absurd (cc)
left_after (suc i) (y ∷ xs) rest x h = left_after i xs rest x h

pub left_next : {A : Type 0} (i : ℕ) (xs rest : List A) (x : A) → drop i xs ≡ x ∷ rest → drop (i + 1) xs ≡ rest
left_next i xs rest x h = let e : i + 1 ≡ suc i = omega arith in ap (λ n. drop n xs) e ∙ left_after i xs rest x h

made_after : {A B : Type 0} (g : ℕ → A → B) (k i : ℕ) (xs rest : List A) (x : A) → drop i xs ≡ x ∷ rest → map_with_place g k (take (suc i) xs) ≡ map_with_place g k (take i xs) ++ g (k + i) x ∷ []
made_after g k i [] rest x h = absurd (none i h)
  where
    none : (i : ℕ) → drop i [] ≡ x ∷ rest → ⊥
    none zero h = cc
    none (suc i) h = cc
made_after g k zero (y ∷ xs) rest x h = let e : k ≡ k + 0 = omega arith in let same : y ≡ x = cc in ap₂ (λ n z. g n z ∷ []) e same
made_after g k (suc i) (y ∷ xs) rest x h = let e : suc k + i ≡ k + suc i = omega arith in ap (λ l. g k y ∷ l) (made_after g (suc k) i xs rest x h ∙ ap (λ n. map_with_place g (suc k) (take i xs) ++ g n x ∷ []) e)

pub made_next : {A B : Type 0} (g : ℕ → A → B) (i : ℕ) (xs rest : List A) (x : A) → drop i xs ≡ x ∷ rest → map_with_place g 0 (take (i + 1) xs) ≡ map_with_place g 0 (take i xs) ++ g i x ∷ []
made_next g i xs rest x h =
    let e : i + 1 ≡ suc i = omega arith in
    let f : 0 + i ≡ i = omega arith in
    ap (λ n. map_with_place g 0 (take n xs)) e ∙ (made_after g 0 i xs rest x h ∙ ap (λ n. map_with_place g 0 (take i xs) ++ g n x ∷ []) f)
