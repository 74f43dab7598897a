-- Lists with one more element.
use Rattle.std.proofs.Common.{◌≡◌, ℕ, suc, ◌+◌, ◌&&◌, ◌||◌, ◌==◌, Bool, true, false, cond, not, List, [], ◌∷◌, ◌++◌, length, length-append, find, Option, Some, None, refl, sym, ap, ap₂, subst, ◌∙◌, arith, eqb-true, eq-eqb}
use Rattle.std.specs.Option.{option_or}
use Rattle.std.specs.List.{list_all, list_any, AllByRecursion}
use Rattle.std.proofs.lemmas.Bool.{and_parts}
use Rattle.std.proofs.lemmas.List.Folds.{list_all-append}

-- ---- refusals

module _ {E : Type 0} where
  pub both_none : (a b : Option E) → a ≡ None → b ≡ None → option_or a b ≡ None
  both_none None b e f = f
  both_none (Some x) b e f = absurd (cc)

  pub none_before : (a b : Option E) → option_or a b ≡ None → (a ≡ None) × (b ≡ None)
  none_before None b e = (refl, e)
  none_before (Some x) b e = absurd (cc)

  pub test_passed : (b : Bool) (x : E) (rest : Option E) → cond b rest (Some x) ≡ None → (b ≡ true) × (rest ≡ None)
  test_passed true x rest e = (refl, e)
  test_passed false x rest e = absurd (cc)

  pub passes : (b : Bool) (x : E) (rest : Option E) → b ≡ true → rest ≡ None → cond b rest (Some x) ≡ None
  passes true x rest e f = f
  passes false x rest e f = absurd (cc)

  pub test_failed : (b : Bool) (x : E) (rest : Option E) → cond b (Some x) rest ≡ None → (b ≡ false) × (rest ≡ None)
  test_failed true x rest e = absurd (cc)
  test_failed false x rest e = (refl, e)

  pub fails : (b : Bool) (x : E) (rest : Option E) → b ≡ false → rest ≡ None → cond b (Some x) rest ≡ None
  fails true x rest e f = absurd (cc)
  fails false x rest e f = f

pub is_not : (b : Bool) → not b ≡ true → b ≡ false
is_not true e = absurd (cc)
is_not false e = refl

-- ---- lists

module _ {X : Type 0} where
  pub one_longer : (xs : List X) (x : X) (n : ℕ) → length xs ≡ n → length (xs ++ x ∷ []) ≡ suc n
  one_longer xs x n e = omega (arith, length-append xs (x ∷ []))

  pub all_more : (p : X → Bool) (xs : List X) (x : X) → list_all p xs ≡ true → p x ≡ true → list_all p (xs ++ x ∷ []) ≡ true
  all_more p xs x e f = list_all-append p xs (x ∷ []) ∙ ap₂ (λ a b. a && (b && true)) e f

  pub each_append : (P : X → Type 0) (xs ys : List X) → AllByRecursion P xs → AllByRecursion P ys → AllByRecursion P (xs ++ ys)
  each_append P [] ys h k = k
  each_append P (x ∷ xs) ys h k = (h.0, each_append P xs ys h.1 k)

  -- what holds of each holds of the one that is found
  pub found : (P : X → Type 0) (p : X → Bool) (xs : List X) (x : X) → AllByRecursion P xs → find p xs ≡ Some x → P x
  found P p [] x h e = absurd (cc)
  found P p (y ∷ xs) x h e = go (λ f. found P p xs x h.1 f) (p y) e
    where
      go : (find p xs ≡ Some x → P x) → (b : Bool) → cond b (Some y) (find p xs) ≡ Some x → P x
      go ih true f = let same : y ≡ x = cc in subst P same h.0
      go ih false f = ih f

-- numbers of which no two are the same
pub other : (xs : List ℕ) (x y : ℕ) → (y == x) ≡ false → list_any (λ z. z == y) xs ≡ false → list_any (λ z. z == y) (xs ++ x ∷ []) ≡ false
other [] x y e f = go (x == y) refl
  where
    go : (b : Bool) → (x == y) ≡ b → ((x == y) || false) ≡ false
    go true g = let same : (y == x) ≡ true = eq-eqb y x (sym (eqb-true x y g)) in absurd (cc)
    go false g = ap (λ b. b || false) g
other (z ∷ xs) x y e f = go (λ h. other xs x y e h) (z == y) refl f
  where
    go : (list_any (λ z. z == y) xs ≡ false → list_any (λ z. z == y) (xs ++ x ∷ []) ≡ false) → (b : Bool) → (z == y) ≡ b → (b || list_any (λ z. z == y) xs) ≡ false → ((z == y) || list_any (λ z. z == y) (xs ++ x ∷ [])) ≡ false
    go ih true g h = absurd (cc)
    go ih false g h = ap (λ b. b || list_any (λ z. z == y) (xs ++ x ∷ [])) g ∙ ih h
