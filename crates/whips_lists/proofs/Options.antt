-- What an option holds, and what a search finds.
use Rattle.std.proofs.Common.{◌≡◌, Bool, true, false, List, [], ◌∷◌, Option, Some, None, cond, refl, subst}
use Rattle.std.specs.Prelude.{is_some, find}
use Rattle.std.specs.Option.{option_and_then}

pub some_same : {A : Type 0} (x y : A) → Some x ≡ Some y → x ≡ y
some_same x y e = cc

pub none_some : {A : Type 0} {P : Type 0} (x : A) → None ≡ Some x → P
none_some x e = absurd (cc)

pub some_of : {A : Type 0} (o : Option A) → is_some o ≡ true → (a : A) × (o ≡ Some a)
some_of None e = absurd (cc)
some_of (Some a) e = (a, refl)

pub none_of : {A : Type 0} (o : Option A) → is_some o ≡ false → o ≡ None
none_of None e = refl
none_of (Some a) e = absurd (cc)

-- what two steps give, of which each may fail, comes from what the first gave
pub of_some_is : {A B : Type 0} (o : Option A) (g : A → Option B) (b : B) → option_and_then g o ≡ Some b → (a : A) × (o ≡ Some a) × (g a ≡ Some b)
of_some_is None g b h = none_some b h
of_some_is (Some a) g b h = (a, refl, h)

-- what is found passes the test
pub found_passes : {A : Type 0} (test : A → Bool) (xs : List A) (a : A) → find test xs ≡ Some a → test a ≡ true
found_passes test [] a h = none_some a h
found_passes test (x ∷ xs) a h = elim (test x) as (λ b. test x ≡ b → cond b (Some x) (find test xs) ≡ Some a → test a ≡ true) [
  | true ↦ λ e g. subst (λ z. test z ≡ true) (some_same x a g) e
  | false ↦ λ e g. found_passes test xs a g
] refl h
