-- What is in a list made from others.
use Rattle.std.proofs.Common.{◌≡◌, ◌⊎◌, inl, inr, ℕ, zero, suc, ◌<◌, Bool, true, false, cond, List, [], ◌∷◌, ◌++◌, length, map, get_or, refl, sym, ap, subst, arith}
use Rattle.std.specs.List.{filter, flat_map, list_any, AllByRecursion}
use Rattle.std.proofs.lemmas.Bool.{or_left, or_right, or_cases}
use Rattle.whips_lists.specs.Members.{Has, AreDistinct}

module _ {X : Type 0} where
  pub has_first : (x : X) (xs : List X) → Has x (x ∷ xs)
  unfolding Has
  has_first x xs = inl refl

  pub has_later : (x y : X) (xs : List X) → Has x xs → Has x (y ∷ xs)
  unfolding Has
  has_later x y xs h = inr h

  pub has_none : (x : X) → Has x [] → ⊥
  unfolding Has
  has_none x h = h

  pub has_cases : (x y : X) (ys : List X) → Has x (y ∷ ys) → (x ≡ y) ⊎ Has x ys
  unfolding Has
  has_cases x y ys h = h

  pub has_same : (x y : X) (xs : List X) → x ≡ y → Has x xs → Has y xs
  has_same x y xs e h = subst (λ z. Has z xs) e h

  pub has_left : (x : X) (xs ys : List X) → Has x xs → Has x (xs ++ ys)
  unfolding Has
  has_left x [] ys h = absurd h
  has_left x (z ∷ xs) ys (inl e) = inl e
  has_left x (z ∷ xs) ys (inr h) = inr (has_left x xs ys h)

  pub has_right : (x : X) (xs ys : List X) → Has x ys → Has x (xs ++ ys)
  unfolding Has
  has_right x [] ys h = h
  has_right x (z ∷ xs) ys h = inr (has_right x xs ys h)

  pub has_either : (x : X) (xs ys : List X) → Has x (xs ++ ys) → Has x xs ⊎ Has x ys
  unfolding Has
  has_either x [] ys h = inr h
  has_either x (z ∷ xs) ys (inl e) = inl (inl e)
  has_either x (z ∷ xs) ys (inr h) = elim (has_either x xs ys h) [ inl g ↦ inl (inr g) | inr g ↦ inr g ]

  pub has_passing : (p : X → Bool) (x : X) (xs : List X) → p x ≡ true → Has x xs → Has x (filter p xs)
  unfolding Has
  has_passing p x [] e h = absurd h
  has_passing p x (y ∷ xs) e (inl same) = subst (λ b. Has x (cond b (y ∷ filter p xs) (filter p xs))) (sym (subst (λ z. p z ≡ true) same e)) (inl same)
  has_passing p x (y ∷ xs) e (inr h) = elim (p y) as (λ b. Has x (cond b (y ∷ filter p xs) (filter p xs))) [ true ↦ inr (has_passing p x xs e h) | false ↦ has_passing p x xs e h ]

  pub has_passed : (p : X → Bool) (x : X) (xs : List X) → Has x (filter p xs) → Has x xs × (p x ≡ true)
  unfolding Has
  has_passed p x [] h = absurd h
  has_passed p x (y ∷ xs) h = by_test (λ g. has_passed p x xs g) (p y) refl h
    where
      by_test : (Has x (filter p xs) → Has x xs × (p x ≡ true)) → (b : Bool) → p y ≡ b → Has x (cond b (y ∷ filter p xs) (filter p xs)) → ((x ≡ y) ⊎ Has x xs) × (p x ≡ true)
      by_test ih true e (inl same) = (inl same, subst (λ z. p z ≡ true) (sym same) e)
      by_test ih true e (inr g) = (inr (ih g).0, (ih g).1)
      by_test ih false e g = (inr (ih g).0, (ih g).1)

  -- from all by recursion, and back
  pub all_has : (P : X → Type 0) (xs : List X) → AllByRecursion P xs → (x : X) → Has x xs → P x
  unfolding Has
  all_has P [] h x g = absurd g
  all_has P (y ∷ xs) h x (inl e) = subst P (sym e) h.0
  all_has P (y ∷ xs) h x (inr g) = all_has P xs h.1 x g

  pub all_from_has : (P : X → Type 0) (xs : List X) → ((x : X) → Has x xs → P x) → AllByRecursion P xs
  unfolding Has
  all_from_has P [] h = tt
  all_from_has P (y ∷ xs) h = (h y (inl refl), all_from_has P xs (λ x g. h x (inr g)))

  pub has_at : (xs : List X) (i : ℕ) (d : X) → i < length xs → Has (get_or xs i d) xs
  unfolding Has
  has_at [] i d lt = absurd (omega arith)
  has_at (x ∷ xs) zero d lt = inl refl
  has_at (x ∷ xs) (suc i) d lt = inr (has_at xs i d (omega arith))

module _ {X Y : Type 0} (f : X → Y) where
  pub has_mapped : (x : X) (xs : List X) → Has x xs → Has (f x) (map f xs)
  unfolding Has
  has_mapped x [] h = absurd h
  has_mapped x (y ∷ xs) (inl e) = inl (ap f e)
  has_mapped x (y ∷ xs) (inr h) = inr (has_mapped x xs h)

  pub has_before : (y : Y) (xs : List X) → Has y (map f xs) → (x : X) × Has x xs × (y ≡ f x)
  unfolding Has
  has_before y [] h = absurd h
  has_before y (x ∷ xs) (inl e) = (x, inl refl, e)
  has_before y (x ∷ xs) (inr h) = let g = has_before y xs h in (g.0, inr g.1, g.2)

module _ {X Y : Type 0} (f : X → List Y) where
  pub has_joined : (x : X) (y : Y) (xs : List X) → Has x xs → Has y (f x) → Has y (flat_map f xs)
  unfolding Has
  has_joined x y [] h g = absurd h
  has_joined x y (z ∷ xs) (inl e) g = has_left y (f z) (flat_map f xs) (subst (λ w. Has y (f w)) e g)
  has_joined x y (z ∷ xs) (inr h) g = has_right y (f z) (flat_map f xs) (has_joined x y xs h g)

  pub has_source : (y : Y) (xs : List X) → Has y (flat_map f xs) → (x : X) × Has x xs × Has y (f x)
  unfolding Has
  has_source y [] h = absurd h
  has_source y (x ∷ xs) h = elim (has_either y (f x) (flat_map f xs) h) [
    | inl g ↦ (x, inl refl, g)
    | inr g ↦ let k = has_source y xs g in (k.0, inr k.1, k.2)
  ]

-- ---- lists in which no element stands twice

module _ {X : Type 0} where
  pub distinct_more : (x : X) (xs : List X) → AreDistinct xs → (Has x xs → ⊥) → AreDistinct (xs ++ x ∷ [])
  distinct_more x [] d h = (has_none x, tt)
  distinct_more x (y ∷ xs) d h = (
    λ k. elim (has_either y xs (x ∷ []) k) [
      | inl g ↦ d.0 g
      | inr g ↦ elim (has_cases y x [] g) [ inl e ↦ h (subst (λ z. Has z (y ∷ xs)) e (has_first y xs)) | inr g ↦ has_none y g ]
    ],
    distinct_more x xs d.1 (λ k. h (has_later x y xs k)),
  )

  pub distinct_filter : (test : X → Bool) (xs : List X) → AreDistinct xs → AreDistinct (filter test xs)
  distinct_filter test [] d = tt
  distinct_filter test (x ∷ xs) d = elim (test x) as (λ b. AreDistinct (cond b (x ∷ filter test xs) (filter test xs))) [
    | true ↦ (λ k. d.0 (has_passed test x xs k).0, distinct_filter test xs d.1)
    | false ↦ distinct_filter test xs d.1
  ]

-- ---- some element passes

module _ {X : Type 0} (test : X → Bool) where
  pub any_from_has : (x : X) (xs : List X) → Has x xs → test x ≡ true → list_any test xs ≡ true
  unfolding Has
  any_from_has x [] h e = absurd h
  any_from_has x (y ∷ xs) (inl same) e = or_left (test y) (list_any test xs) (subst (λ z. test z ≡ true) same e)
  any_from_has x (y ∷ xs) (inr h) e = or_right (test y) (list_any test xs) (any_from_has x xs h e)

  pub has_from_any : (xs : List X) → list_any test xs ≡ true → (x : X) × Has x xs × (test x ≡ true)
  has_from_any [] e = absurd (cc)
  has_from_any (y ∷ xs) e = elim (or_cases (test y) (list_any test xs) e) [
    | inl h ↦ (y, has_first y xs, h)
    | inr h ↦ let g = has_from_any xs h in (g.0, has_later g.0 y xs g.1, g.2)
  ]

  pub none_from_has : (xs : List X) → ((x : X) → Has x xs → test x ≡ true → ⊥) → list_any test xs ≡ false
  none_from_has xs h = go (list_any test xs) refl
    where
      go : (b : Bool) → list_any test xs ≡ b → b ≡ false
      go true e = let g = has_from_any xs e in absurd (h g.0 g.1 g.2)
      go false e = refl
