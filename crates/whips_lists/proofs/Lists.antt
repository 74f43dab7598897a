-- Lists of which one element changes, queues, and one more element of a list.
use Rattle.std.proofs.Common.{◌≡◌, ℕ, zero, suc, ◌+◌, List, [], ◌∷◌, ◌++◌, length, take, Some, None, set, refl, sym, ap, ◌∙◌}
use Rattle.std.specs.Prelude.{slice_get}
use Rattle.std.proofs.lemmas.List.{take_more}
use Rattle.std.proofs.lemmas.Option.{slice_get_within, get_or_from_slice_get}
use Rattle.whips_lists.specs.Lists.{changed_at, map_with_place, front, without_front}
use Rattle.whips_lists.proofs.Options.{some_same, none_some}

pub front_is : {A : Type 0} (xs : List A) (x : A) → front xs ≡ Some x → xs ≡ x ∷ without_front xs
front_is [] x h = none_some x h
front_is (y ∷ xs) x h = ap (λ z. z ∷ xs) (some_same y x h)

pub front_nil : {A : Type 0} (xs : List A) → front xs ≡ None → xs ≡ []
front_nil [] h = refl
front_nil (y ∷ xs) h = absurd (cc)

pub length_changed : {A : Type 0} (g : A → A) (i : ℕ) (xs : List A) → length (changed_at i g xs) ≡ length xs
length_changed g i [] = refl
length_changed g zero (x ∷ xs) = refl
length_changed g (suc i) (x ∷ xs) = ap suc (length_changed g i xs)

pub length_map_at : {A B : Type 0} (g : ℕ → A → B) (k : ℕ) (xs : List A) → length (map_with_place g k xs) ≡ length xs
length_map_at g k [] = refl
length_map_at g k (x ∷ xs) = ap suc (length_map_at g (suc k) xs)

-- the element that is there, written anew, is the list with this element changed
pub set_changed : {A : Type 0} (f : A → A) (xs : List A) (i : ℕ) (x : A) → slice_get xs i ≡ Some x → set xs i (f x) ≡ changed_at i f xs
set_changed f [] i x h = none_some x h
set_changed f (y ∷ xs) zero x h = ap (λ z. f z ∷ xs) (sym (some_same y x h))
set_changed f (y ∷ xs) (suc i) x h = ap (λ z. y ∷ z) (set_changed f xs i x h)

-- one more element
pub take_next : {A : Type 0} (xs : List A) (i : ℕ) (x : A) → slice_get xs i ≡ Some x → take (i + 1) xs ≡ take i xs ++ x ∷ []
take_next xs i x e = take_more xs i x (slice_get_within xs i x e) ∙ ap (λ y. take i xs ++ y ∷ []) (get_or_from_slice_get xs i x x e)
