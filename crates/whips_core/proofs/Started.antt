-- The managers of the views, one after another.
use Rattle.std.proofs.Common.{◌≡◌, ℕ, zero, suc, ◌+◌, false, List, [], ◌∷◌, ◌++◌, length, take, Some, refl, sym, ap, ap₂, ◌∙◌, arith}
use Rattle.std.specs.Prelude.{slice_get}
use Rattle.whips_lists.specs.Lists.{map_with_place}
use Rattle.whips_lists.proofs.Lists.{take_next}
use Rattle.whips_view.specs.ViewDefs.{View}
use Rattle.whips_actions.specs.declared.action.ActionList.{ActionList}
use Rattle.whips_managers.specs.Managers.{new_manager}
use Rattle.whips_strobe.specs.Strobes.{ManagerData}
use Rattle.whips_contents.specs.Contents.{ManagerInput, LoadedManager, new_loaded_manager}

placed_push : {A B : Type 0} (g : ℕ → A → B) (k n : ℕ) (xs : List A) (x : A) → n ≡ k + length xs → map_with_place g k (xs ++ x ∷ []) ≡ map_with_place g k xs ++ g n x ∷ []
placed_push g k n [] x e = let same : k ≡ n = omega (arith, e) in ap (λ m. g m x ∷ []) same
placed_push g k n (y ∷ xs) x e = ap (λ l. g k y ∷ l) (placed_push g (suc k) n xs x (omega (arith, e)))

pub manager_is : (x : ℕ) (view : View) (d : ManagerData) (ms : List ManagerInput) (ls : List ActionList) → d ≡ record { number = x; view = view; stopped = false; state = new_manager 0 } → ms ≡ [] → ls ≡ [] → record { manager = d; messages = ms; lists = ls } ≡ new_loaded_manager x view
manager_is x view d ms ls e f g = ap (λ z. record { manager = z; messages = ms; lists = ls }) e ∙ ap₂ (λ a b. record { manager = record { number = x; view = view; stopped = false; state = new_manager 0 }; messages = a; lists = b }) f g

pub managers_next : (views : List View) (x : ℕ) (view : View) (before after : List LoadedManager) (m : LoadedManager) → before ≡ map_with_place new_loaded_manager 0 (take x views) → slice_get views x ≡ Some view → m ≡ new_loaded_manager x view → after ≡ before ++ m ∷ [] → after ≡ map_with_place new_loaded_manager 0 (take (x + 1) views)
managers_next views x view before after m h there is e =
    e ∙ (ap₂ (λ l z. l ++ z ∷ []) h is ∙ sym (ap (map_with_place new_loaded_manager 0) (take_next views x view there) ∙ placed_push new_loaded_manager 0 x (take x views) view (omega (arith, length_take_within x views view there))))
  where
    length_take_within : {A : Type 0} (i : ℕ) (xs : List A) (a : A) → slice_get xs i ≡ Some a → length (take i xs) ≡ i
    length_take_within zero [] a q = refl
    length_take_within (suc i) [] a q = absurd (cc)
    length_take_within zero (z ∷ xs) a q = refl
    length_take_within (suc i) (z ∷ xs) a q = ap suc (length_take_within i xs a q)
