-- Lists by cases of which element it is: In is Has of the specs, which goes by no cases where it isn't unfolded.
use Rattle.std.proofs.Common.{◌≡◌, Bool, true, false, List, [], ◌∷◌, refl, sym, subst, ◌⊎◌, inl, inr}
use Rattle.std.specs.List.{list_any, AllByRecursion}
use Rattle.std.proofs.lemmas.Bool.{or_left, or_right, or_cases, false≢true}
use Rattle.whips_lists.specs.Members.{Has}
use Rattle.whips_lists.proofs.Members.{has_first, has_later, has_none, has_cases}

-- x is an element of the list
abbrev pub In : {A : Type 0} → A → List A → Type 0
In x [] = ⊥
In x (y ∷ ys) = (y ≡ x) ⊎ In x ys

module _ {A : Type 0} where
  pub all_in : (P : A → Type 0) (xs : List A) (x : A) → AllByRecursion P xs → In x xs → P x
  all_in P [] x h i = absurd i
  all_in P (y ∷ ys) x h (inl e) = subst P e h.0
  all_in P (y ∷ ys) x h (inr i) = all_in P ys x h.1 i

  pub all_from : (P : A → Type 0) (xs : List A) → ((x : A) → In x xs → P x) → AllByRecursion P xs
  all_from P [] h = tt
  all_from P (y ∷ ys) h = (h y (inl refl), all_from P ys (λ x i. h x (inr i)))

  pub any_from : (test : A → Bool) (xs : List A) (x : A) → In x xs → test x ≡ true → list_any test xs ≡ true
  any_from test [] x i h = absurd i
  any_from test (y ∷ ys) x (inl e) h = or_left (test y) (list_any test ys) (subst (λ z. test z ≡ true) (sym e) h)
  any_from test (y ∷ ys) x (inr i) h = or_right (test y) (list_any test ys) (any_from test ys x i h)

  pub any_to : (test : A → Bool) (xs : List A) → list_any test xs ≡ true → (x : A) × In x xs × (test x ≡ true)
  any_to test [] h = absurd (false≢true h)
  any_to test (y ∷ ys) h = go (or_cases (test y) (list_any test ys) h) (any_to test ys)
    where
      go : (test y ≡ true) ⊎ (list_any test ys ≡ true) → (list_any test ys ≡ true → (x : A) × In x ys × (test x ≡ true)) → (x : A) × In x (y ∷ ys) × (test x ≡ true)
      go (inl e) more = (y, inl refl, e)
      go (inr e) more = let m = more e in (m.0, inr m.1, m.2)

  -- the same fact as Has
  pub in_from_has : (x : A) (xs : List A) → Has x xs → In x xs
  in_from_has x [] h = absurd (has_none x h)
  in_from_has x (y ∷ ys) h = elim (has_cases x y ys h) [ inl e ↦ inl (sym e) | inr g ↦ inr (in_from_has x ys g) ]

  pub has_from_in : (x : A) (xs : List A) → In x xs → Has x xs
  has_from_in x [] h = absurd h
  has_from_in x (y ∷ ys) (inl e) = subst (λ z. Has z (y ∷ ys)) e (has_first y ys)
  has_from_in x (y ∷ ys) (inr h) = has_later x y ys (has_from_in x ys h)
