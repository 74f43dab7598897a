-- Lists of which elements change, and what is made of them.
use Rattle.std.proofs.Common.{◌≡◌, inl, inr, ℕ, zero, suc, ◌+◌, ◌<◌, ◌≤◌, ◌==◌, ◌&&◌, ◌||◌, Bool, true, false, eqb-true, List, [], ◌∷◌, ◌++◌, length, map, Some, cond, refl, sym, ap, ap₂, subst, ◌∙◌, arith}
use Rattle.std.specs.Prelude.{slice_get, filter, fold}
use Rattle.std.specs.Option.{option_map}
use Rattle.std.specs.List.{list_any, sum_by}
use Rattle.std.proofs.lemmas.Bool.{eqb-false, cases_lt}
use Rattle.whips_lists.specs.Lists.{changed_at, map_with_place, places_from, front, without_front}

module _ {A B : Type 0} (T : A → B) where
  -- a change that T turns into another change
  pub map_changed : (g : A → A) (h : B → B) (i : ℕ) (xs : List A) → ((x : A) → slice_get xs i ≡ Some x → T (g x) ≡ h (T x)) → map T (changed_at i g xs) ≡ changed_at i h (map T xs)
  map_changed g h i [] e = refl
  map_changed g h zero (x ∷ xs) e = ap (λ z. z ∷ map T xs) (e x refl)
  map_changed g h (suc i) (x ∷ xs) e = ap (λ z. T x ∷ z) (map_changed g h i xs e)

  pub map_behind : (xs : List A) → map T (without_front xs) ≡ without_front (map T xs)
  map_behind [] = refl
  map_behind (x ∷ xs) = refl

  pub map_front : (xs : List A) → front (map T xs) ≡ option_map T (front xs)
  map_front [] = refl
  map_front (x ∷ xs) = refl

  pub map_push : (xs ys : List A) → map T (xs ++ ys) ≡ map T xs ++ map T ys
  map_push [] ys = refl
  map_push (x ∷ xs) ys = ap (λ z. T x ∷ z) (map_push xs ys)

  pub map_get : (xs : List A) (i : ℕ) → slice_get (map T xs) i ≡ option_map T (slice_get xs i)
  map_get [] i = refl
  map_get (x ∷ xs) zero = refl
  map_get (x ∷ xs) (suc i) = map_get xs i

module _ {A : Type 0} where
  -- the same change of what is there
  pub changed_same : (g h : A → A) (i : ℕ) (xs : List A) → ((x : A) → slice_get xs i ≡ Some x → g x ≡ h x) → changed_at i g xs ≡ changed_at i h xs
  changed_same g h i [] e = refl
  changed_same g h zero (x ∷ xs) e = ap (λ z. z ∷ xs) (e x refl)
  changed_same g h (suc i) (x ∷ xs) e = ap (λ z. x ∷ z) (changed_same g h i xs e)

  -- changes at the places that pass a test, one after another
  abbrev pub all_changed : (ℕ → Bool) → (A → A) → ℕ → A → A
  all_changed P g x m = cond (P x) (g m) m

  changes_behind : (P : ℕ → Bool) (g : A → A) (n k : ℕ) (m : A) (ms : List A) → fold (λ l x. changed_at x g l) (m ∷ ms) (filter P (places_from (suc k) n)) ≡ m ∷ fold (λ l x. changed_at x g l) ms (filter (λ x. P (suc x)) (places_from k n))
  changes_behind P g zero k m ms = refl
  changes_behind P g (suc n) k m ms = elim (P (suc k)) as (λ b. fold (λ l x. changed_at x g l) (m ∷ ms) (cond b (suc k ∷ filter P (places_from (suc (suc k)) n)) (filter P (places_from (suc (suc k)) n))) ≡ m ∷ fold (λ l x. changed_at x g l) ms (cond b (k ∷ filter (λ x. P (suc x)) (places_from (suc k) n)) (filter (λ x. P (suc x)) (places_from (suc k) n)))) [
    | true ↦ changes_behind P g n (suc k) m (changed_at k g ms)
    | false ↦ changes_behind P g n (suc k) m ms
  ]

  places_shift : {B : Type 0} (h : ℕ → A → B) (k : ℕ) (ms : List A) → map_with_place h (suc k) ms ≡ map_with_place (λ x. h (suc x)) k ms
  places_shift h k [] = refl
  places_shift h k (m ∷ ms) = ap (λ z. h (suc k) m ∷ z) (places_shift h (suc k) ms)

  pub changes_are : (P : ℕ → Bool) (g : A → A) (ms : List A) → fold (λ l x. changed_at x g l) ms (filter P (places_from 0 (length ms))) ≡ map_with_place (all_changed P g) 0 ms
  changes_are P g [] = refl
  changes_are P g (m ∷ ms) = elim (P 0) as (λ b. fold (λ l x. changed_at x g l) (m ∷ ms) (cond b (0 ∷ filter P (places_from 1 (length ms))) (filter P (places_from 1 (length ms)))) ≡ cond b (g m) m ∷ map_with_place (all_changed P g) 1 ms) [
    | true ↦ changes_behind P g (length ms) 0 (g m) ms ∙ ap (λ z. g m ∷ z) (changes_are (λ x. P (suc x)) g ms ∙ sym (places_shift (all_changed P g) 0 ms))
    | false ↦ changes_behind P g (length ms) 0 m ms ∙ ap (λ z. m ∷ z) (changes_are (λ x. P (suc x)) g ms ∙ sym (places_shift (all_changed P g) 0 ms))
  ]

-- a map at each place, through another map
pub map_with_place_map : {A B : Type 0} (T : A → B) (g : ℕ → A → A) (h : ℕ → B → B) (k : ℕ) (xs : List A) → ((x : ℕ) (m : A) → T (g x m) ≡ h x (T m)) → map T (map_with_place g k xs) ≡ map_with_place h k (map T xs)
map_with_place_map T g h k [] e = refl
map_with_place_map T g h k (x ∷ xs) e = ap₂ (λ a b. a ∷ b) (e k x) (map_with_place_map T g h (suc k) xs e)

-- ---- places that pass a test

abbrev pub is_filled : List ℕ → Bool
is_filled [] = false
is_filled (x ∷ xs) = true

pub any_is : (P : ℕ → Bool) (xs : List ℕ) → list_any P xs ≡ is_filled (filter P xs)
any_is P [] = refl
any_is P (x ∷ xs) = elim (P x) as (λ b. (b || list_any P xs) ≡ is_filled (cond b (x ∷ filter P xs) (filter P xs))) [ true ↦ refl | false ↦ any_is P xs ]

and_no : (b : Bool) → (b && false) ≡ false
and_no true = refl
and_no false = refl

found_in : (P : ℕ → Bool) (x : ℕ) (xs : List ℕ) → list_any (λ m. m == x) (filter P xs) ≡ (list_any (λ m. m == x) xs && P x)
found_in P x [] = refl
found_in P x (y ∷ xs) = go (found_in P x xs) (y == x) (P y) refl refl
  where
    go : list_any (λ m. m == x) (filter P xs) ≡ (list_any (λ m. m == x) xs && P x) → (b c : Bool) → (y == x) ≡ b → P y ≡ c → list_any (λ m. m == x) (cond c (y ∷ filter P xs) (filter P xs)) ≡ ((b || list_any (λ m. m == x) xs) && P x)
    go ih true true e h = ap (λ b. b || list_any (λ m. m == x) (filter P xs)) e ∙ sym (subst (λ z. P z ≡ true) (eqb-true y x e) h)
    go ih true false e h = let no : P x ≡ false = subst (λ z. P z ≡ false) (eqb-true y x e) h in ih ∙ (ap (λ b. list_any (λ m. m == x) xs && b) no ∙ (and_no (list_any (λ m. m == x) xs) ∙ sym no))
    go ih false true e h = ap (λ b. b || list_any (λ m. m == x) (filter P xs)) e ∙ ih
    go ih false false e h = ih

in_places : (x k m : ℕ) → k ≤ x → x < k + m → list_any (λ n. n == x) (places_from k m) ≡ true
in_places x k zero le lt = absurd (omega (arith, le, lt))
in_places x k (suc m) le lt = go (λ a b. in_places x (suc k) m a b) (k == x) refl
  where
    go : (suc k ≤ x → x < suc k + m → list_any (λ n. n == x) (places_from (suc k) m) ≡ true) → (b : Bool) → (k == x) ≡ b → (b || list_any (λ n. n == x) (places_from (suc k) m)) ≡ true
    go ih true e = refl
    go ih false e = let ne = eqb-false k x e in ih (more ne) (omega (arith, lt))
      where
        more : (k ≡ x → ⊥) → suc k ≤ x
        more ne = elim (cases_lt k x) [ inl h ↦ h | inr h ↦ absurd (ne (omega (arith, h, le))) ]

pub map_places : {B : Type 0} (f g : ℕ → B) (k m : ℕ) → ((x : ℕ) → k ≤ x → x < k + m → f x ≡ g x) → map f (places_from k m) ≡ map g (places_from k m)
map_places f g k zero h = refl
map_places f g k (suc m) h = ap₂ (λ a b. a ∷ b) (h k (omega arith) (omega arith)) (map_places f g (suc k) m (λ x a b. h x (omega (arith, a)) (omega (arith, b))))

-- a place below m passes where it is among those that do
pub passes : (P : ℕ → Bool) (m x : ℕ) → x < m → list_any (λ n. n == x) (filter P (places_from 0 m)) ≡ P x
passes P m x lt = found_in P x (places_from 0 m) ∙ ap (λ b. b && P x) (in_places x 0 m (omega arith) (omega (arith, lt)))

-- ---- sums

sum_from : {A : Type 0} (f : A → ℕ) (k : ℕ) (xs : List A) → fold (λ a x. a + f x) k xs ≡ k + sum_by f xs
sum_from f k [] = omega arith
sum_from f k (x ∷ xs) = let a = sum_from f (k + f x) xs in let b = sum_from f (0 + f x) xs in omega (arith, a, b)

pub sum_first : {A : Type 0} (f : A → ℕ) (x : A) (xs : List A) → sum_by f (x ∷ xs) ≡ f x + sum_by f xs
sum_first f x xs = let b = sum_from f (0 + f x) xs in omega (arith, b)
