-- Elements of lists, and lists of which one element changes.
use Rattle.std.proofs.Common.{◌≡◌, ℕ, zero, suc, ◌+◌, ◌<◌, ◌≤◌, Bool, true, false, not, List, [], ◌∷◌, ◌++◌, length, Some, None, cond, refl, sym, ap, subst, ◌∙◌, arith, ◌⊎◌, inl, inr}
use Rattle.std.specs.Prelude.{slice_get, map, filter, find, replicate}
use Rattle.whips_lists.specs.Lists.{changed_at, map_with_place}
use Rattle.std.specs.Option.{option_and_then}
use Rattle.whips_lists.proofs.InList.{In}
use Rattle.whips_lists.proofs.Options.{some_same}

module _ {A : Type 0} where
  pub in_append : (x : A) (xs ys : List A) → In x (xs ++ ys) → In x xs ⊎ In x ys
  in_append x [] ys i = inr i
  in_append x (z ∷ xs) ys (inl e) = inl (inl e)
  in_append x (z ∷ xs) ys (inr i) = go (in_append x xs ys i)
    where
      go : In x xs ⊎ In x ys → In x (z ∷ xs) ⊎ In x ys
      go (inl j) = inl (inr j)
      go (inr j) = inr j

  pub in_left : (x : A) (xs ys : List A) → In x xs → In x (xs ++ ys)
  in_left x [] ys i = absurd i
  in_left x (z ∷ xs) ys (inl e) = inl e
  in_left x (z ∷ xs) ys (inr i) = inr (in_left x xs ys i)

  pub in_right : (x : A) (xs ys : List A) → In x ys → In x (xs ++ ys)
  in_right x [] ys i = i
  in_right x (z ∷ xs) ys i = inr (in_right x xs ys i)

  pub in_filter : (p : A → Bool) (x : A) (xs : List A) → In x (filter p xs) → In x xs × (p x ≡ true)
  in_filter p x [] i = absurd i
  in_filter p x (z ∷ xs) i = go (p z) refl (in_filter p x xs) i
    where
      go : (b : Bool) → p z ≡ b → (In x (filter p xs) → In x xs × (p x ≡ true)) → In x (cond b (z ∷ filter p xs) (filter p xs)) → In x (z ∷ xs) × (p x ≡ true)
      go true e more (inl h) = (inl h, subst (λ a. p a ≡ true) h e)
      go true e more (inr h) = let m = more h in (inr m.0, m.1)
      go false e more h = let m = more h in (inr m.0, m.1)

  pub in_map : {B : Type 0} (g : A → B) (y : B) (xs : List A) → In y (map g xs) → (x : A) × In x xs × (g x ≡ y)
  in_map g y [] i = absurd i
  in_map g y (z ∷ xs) (inl e) = (z, inl refl, e)
  in_map g y (z ∷ xs) (inr i) = let m = in_map g y xs i in (m.0, inr m.1, m.2)

  -- an element is still there, or it is the one that changed
  pub in_changed : (g : A → A) (i : ℕ) (xs : List A) (x : A) → In x xs → In x (changed_at i g xs) ⊎ ((slice_get xs i ≡ Some x) × In (g x) (changed_at i g xs))
  in_changed g i [] x h = absurd h
  in_changed g zero (z ∷ xs) x (inl e) = inr (ap Some e, inl (ap g e))
  in_changed g zero (z ∷ xs) x (inr h) = inl (inr h)
  in_changed g (suc i) (z ∷ xs) x (inl e) = inl (inl e)
  in_changed g (suc i) (z ∷ xs) x (inr h) = go (in_changed g i xs x h)
    where
      go : In x (changed_at i g xs) ⊎ ((slice_get xs i ≡ Some x) × In (g x) (changed_at i g xs)) → In x (z ∷ changed_at i g xs) ⊎ ((slice_get xs i ≡ Some x) × In (g x) (z ∷ changed_at i g xs))
      go (inl j) = inl (inr j)
      go (inr j) = inr (j.0, inr j.1)

  -- an element of the changed list was there, or is the changed one
  pub in_changed_from : (g : A → A) (i : ℕ) (xs : List A) (x : A) → In x (changed_at i g xs) → In x xs ⊎ ((z : A) × In z xs × (g z ≡ x))
  in_changed_from g i [] x h = absurd h
  in_changed_from g zero (z ∷ xs) x (inl e) = inr (z, inl refl, e)
  in_changed_from g zero (z ∷ xs) x (inr h) = inl (inr h)
  in_changed_from g (suc i) (z ∷ xs) x (inl e) = inl (inl e)
  in_changed_from g (suc i) (z ∷ xs) x (inr h) = go (in_changed_from g i xs x h)
    where
      go : In x xs ⊎ ((y : A) × In y xs × (g y ≡ x)) → In x (z ∷ xs) ⊎ ((y : A) × In y (z ∷ xs) × (g y ≡ x))
      go (inl j) = inl (inr j)
      go (inr j) = inr (j.0, inr j.1, j.2)

  pub get_in : (i : ℕ) (xs : List A) (x : A) → slice_get xs i ≡ Some x → In x xs
  get_in i [] x h = absurd (cc)
  get_in zero (z ∷ xs) x h = inl (some_same z x h)
  get_in (suc i) (z ∷ xs) x h = inr (get_in i xs x h)

  pub in_get : (xs : List A) (x : A) → In x xs → (i : ℕ) × (i < length xs) × (slice_get xs i ≡ Some x)
  in_get [] x h = absurd h
  in_get (z ∷ xs) x (inl e) = (0, omega arith, ap Some e)
  in_get (z ∷ xs) x (inr h) = let m = in_get xs x h in (suc m.0, omega (arith, m.1), m.2)

  pub get_there : (i : ℕ) (xs : List A) → i < length xs → (x : A) × (slice_get xs i ≡ Some x)
  get_there i [] lt = absurd (omega arith)
  get_there zero (z ∷ xs) lt = (z, refl)
  get_there (suc i) (z ∷ xs) lt = get_there i xs (omega arith)

  pub get_within : (i : ℕ) (xs : List A) (x : A) → slice_get xs i ≡ Some x → i < length xs
  get_within i [] x h = absurd (cc)
  get_within zero (z ∷ xs) x h = omega arith
  get_within (suc i) (z ∷ xs) x h = omega (arith, get_within i xs x h)

  pub get_changed : (g : A → A) (i : ℕ) (xs : List A) (x : A) → slice_get xs i ≡ Some x → slice_get (changed_at i g xs) i ≡ Some (g x)
  get_changed g i [] x h = absurd (cc)
  get_changed g zero (z ∷ xs) x h = ap (λ o. option_and_then (λ a. Some (g a)) o) h
  get_changed g (suc i) (z ∷ xs) x h = get_changed g i xs x h

  -- what stands at a place of the changed list
  pub get_cases : (g : A → A) (i j : ℕ) (xs : List A) (x : A) → slice_get (changed_at i g xs) j ≡ Some x → ((j ≡ i) × ((z : A) × (slice_get xs i ≡ Some z) × (g z ≡ x))) ⊎ ((j ≡ i → ⊥) × (slice_get xs j ≡ Some x))
  get_cases g i j [] x h = absurd (cc)
  get_cases g zero zero (z ∷ xs) x h = inl (refl, (z, refl, some_same (g z) x h))
  get_cases g zero (suc j) (z ∷ xs) x h = inr ((λ e. omega (arith, e)), h)
  get_cases g (suc i) zero (z ∷ xs) x h = inr ((λ e. omega (arith, e)), h)
  get_cases g (suc i) (suc j) (z ∷ xs) x h = go (get_cases g i j xs x h)
    where
      go : ((j ≡ i) × ((z : A) × (slice_get xs i ≡ Some z) × (g z ≡ x))) ⊎ ((j ≡ i → ⊥) × (slice_get xs j ≡ Some x)) → ((suc j ≡ suc i) × ((z : A) × (slice_get xs i ≡ Some z) × (g z ≡ x))) ⊎ ((suc j ≡ suc i → ⊥) × (slice_get xs j ≡ Some x))
      go (inl e) = inl (ap suc e.0, e.1)
      go (inr e) = inr ((λ q. e.0 (omega (arith, q))), e.1)

  pub get_changed_other : (g : A → A) (i j : ℕ) (xs : List A) → (j ≡ i → ⊥) → slice_get (changed_at i g xs) j ≡ slice_get xs j
  get_changed_other g i j [] ne = refl
  get_changed_other g zero zero (z ∷ xs) ne = absurd (ne refl)
  get_changed_other g zero (suc j) (z ∷ xs) ne = refl
  get_changed_other g (suc i) zero (z ∷ xs) ne = refl
  get_changed_other g (suc i) (suc j) (z ∷ xs) ne = get_changed_other g i j xs (λ e. ne (ap suc e))

  pub changed_twice : (g h : A → A) (i : ℕ) (xs : List A) → changed_at i g (changed_at i h xs) ≡ changed_at i (λ x. g (h x)) xs
  changed_twice g h i [] = refl
  changed_twice g h zero (x ∷ xs) = refl
  changed_twice g h (suc i) (x ∷ xs) = ap (λ z. x ∷ z) (changed_twice g h i xs)

  pub get_map_at : {B : Type 0} (g : ℕ → A → B) (k i j : ℕ) (xs : List A) (y : B) → j ≡ k + i → slice_get (map_with_place g k xs) i ≡ Some y → (x : A) × (slice_get xs i ≡ Some x) × (g j x ≡ y)
  get_map_at g k i j [] y e h = absurd (cc)
  get_map_at g k zero j (x ∷ xs) y e h = let jk : j ≡ k = omega arith in (x, refl, ap (λ n. g n x) jk ∙ some_same (g k x) y h)
  get_map_at g k (suc i) j (x ∷ xs) y e h = get_map_at g (suc k) i j xs y (omega arith) h

  pub get_mapped_at : {B : Type 0} (g : ℕ → A → B) (k i j : ℕ) (xs : List A) (x : A) → j ≡ k + i → slice_get xs i ≡ Some x → slice_get (map_with_place g k xs) i ≡ Some (g j x)
  get_mapped_at g k i j [] x e h = absurd (cc)
  get_mapped_at g k zero j (z ∷ xs) x e h = let jk : k ≡ j = omega arith in ap (λ n. Some (g n z)) jk ∙ ap (λ a. Some (g j a)) (some_same z x h)
  get_mapped_at g k (suc i) j (z ∷ xs) x e h = get_mapped_at g (suc k) i j xs x (omega arith) h

  pub get_map : {B : Type 0} (g : A → B) (i : ℕ) (xs : List A) (y : B) → slice_get (map g xs) i ≡ Some y → (x : A) × (slice_get xs i ≡ Some x) × (g x ≡ y)
  get_map g i [] y h = absurd (cc)
  get_map g zero (x ∷ xs) y h = (x, refl, some_same (g x) y h)
  get_map g (suc i) (x ∷ xs) y h = get_map g i xs y h

  pub get_mapped : {B : Type 0} (g : A → B) (i : ℕ) (xs : List A) (x : A) → slice_get xs i ≡ Some x → slice_get (map g xs) i ≡ Some (g x)
  get_mapped g i [] x h = absurd (cc)
  get_mapped g zero (z ∷ xs) x h = ap (λ a. Some (g a)) (some_same z x h)
  get_mapped g (suc i) (z ∷ xs) x h = get_mapped g i xs x h

  pub find_none : (test : A → Bool) (xs : List A) → find test xs ≡ None → (x : A) → In x xs → test x ≡ false
  find_none test [] h x i = absurd i
  find_none test (z ∷ xs) h x i = go (test z) refl h (find_none test xs) i
    where
      go : (b : Bool) → test z ≡ b → cond b (Some z) (find test xs) ≡ None → (find test xs ≡ None → (x : A) → In x xs → test x ≡ false) → In x (z ∷ xs) → test x ≡ false
      go true e k more j = absurd (cc)
      go false e k more (inl j) = subst (λ a. test a ≡ false) j e
      go false e k more (inr j) = more k x j

  pub find_in : (test : A → Bool) (xs : List A) (x : A) → find test xs ≡ Some x → In x xs
  find_in test [] x h = absurd (cc)
  find_in test (z ∷ xs) x h = elim (test z) as (λ b. cond b (Some z) (find test xs) ≡ Some x → In x (z ∷ xs)) [
    | true ↦ λ e. inl (some_same z x e)
    | false ↦ λ e. inr (find_in test xs x e)
  ] h

  pub fewer : (p : A → Bool) (xs : List A) (x : A) → In x xs → p x ≡ true → length (filter (λ y. not (p y)) xs) < length xs
  fewer p [] x i h = absurd i
  fewer p (z ∷ xs) x (inl e) h = rw (subst (λ a. p a ≡ true) (sym e) h) (omega (arith, no_more xs))
    where
      no_more : (ys : List A) → length (filter (λ y. not (p y)) ys) ≤ length ys
      no_more [] = omega arith
      no_more (y ∷ ys) = elim (not (p y)) as (λ b. length (cond b (y ∷ filter (λ y. not (p y)) ys) (filter (λ y. not (p y)) ys)) ≤ suc (length ys)) [ true ↦ omega (arith, no_more ys) | false ↦ omega (arith, no_more ys) ]
  fewer p (z ∷ xs) x (inr i) h = elim (not (p z)) as (λ b. length (cond b (z ∷ filter (λ y. not (p y)) xs) (filter (λ y. not (p y)) xs)) < suc (length xs)) [ true ↦ omega (arith, fewer p xs x i h) | false ↦ omega (arith, fewer p xs x i h) ]

pub in_copies : {A : Type 0} (n : ℕ) (x y : A) → In y (replicate n x) → x ≡ y
in_copies zero x y i = absurd i
in_copies (suc n) x y (inl e) = e
in_copies (suc n) x y (inr i) = in_copies n x y i
