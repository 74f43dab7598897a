-- What is in lists that are found, filtered and set.
use Rattle.std.proofs.Common.{◌≡◌, ◌⊎◌, inl, inr, ℕ, zero, suc, ◌+◌, ◌<◌, ◌≤◌, Bool, true, false, cond, not, List, [], ◌∷◌, ◌++◌, length, get_or, Option, Some, None, refl, sym, ap, subst, ◌∙◌, arith}
use Rattle.std.specs.Prelude.{reverse, set, ◌||◌, ◌&&◌}
use Rattle.std.specs.List.{filter_map, cons_option, list_any, list_all, position, position_or_len, AllByRecursion}
use Rattle.std.proofs.lemmas.List.{reverse-append}
use Rattle.std.proofs.lemmas.Bool.{lt-ltb, cases_lt}
use Rattle.whips_lists.specs.Lists.{places_from}
use Rattle.whips_lists.specs.Members.{Has}
use Rattle.whips_lists.proofs.Members.{has_first, has_later, has_none, has_cases, has_left, has_right, has_either}

module _ {X : Type 0} (p : X → Bool) where
  pub any_found : (xs : List X) → list_any p xs ≡ true → (x : X) × Has x xs × (p x ≡ true)
  any_found [] e = absurd (cc)
  any_found (x ∷ xs) e = go (p x) refl e (λ g. any_found xs g)
    where
      go : (b : Bool) → p x ≡ b → (b || list_any p xs) ≡ true → (list_any p xs ≡ true → (y : X) × Has y xs × (p y ≡ true)) → (y : X) × Has y (x ∷ xs) × (p y ≡ true)
      go true h g more = (x, has_first x xs, h)
      go false h g more = let m = more g in (m.0, has_later m.0 x xs m.1, m.2)

  pub any_none : (xs : List X) → list_any p xs ≡ false → (x : X) → Has x xs → p x ≡ false
  any_none [] e x h = absurd (has_none x h)
  any_none (y ∷ xs) e x h = go (p y) refl e (λ g. any_none xs g) (has_cases x y xs h)
    where
      go : (b : Bool) → p y ≡ b → (b || list_any p xs) ≡ false → (list_any p xs ≡ false → (x : X) → Has x xs → p x ≡ false) → (x ≡ y) ⊎ Has x xs → p x ≡ false
      go true f g more cases = absurd (cc)
      go false f g more (inl same) = subst (λ z. p z ≡ false) (sym same) f
      go false f g more (inr h) = more g x h

  pub all_pass : (xs : List X) → list_all p xs ≡ true → (x : X) → Has x xs → p x ≡ true
  all_pass [] e x h = absurd (has_none x h)
  all_pass (y ∷ xs) e x h = go (p y) refl e (λ g. all_pass xs g) (has_cases x y xs h)
    where
      go : (b : Bool) → p y ≡ b → (b && list_all p xs) ≡ true → (list_all p xs ≡ true → (x : X) → Has x xs → p x ≡ true) → (x ≡ y) ⊎ Has x xs → p x ≡ true
      go true f g more (inl same) = subst (λ z. p z ≡ true) (sym same) f
      go true f g more (inr h) = more g x h
      go false f g more cases = absurd (cc)

  pub one_fails : (xs : List X) → list_all p xs ≡ false → (x : X) × Has x xs × (p x ≡ false)
  one_fails [] e = absurd (cc)
  one_fails (x ∷ xs) e = go (p x) refl e (λ g. one_fails xs g)
    where
      go : (b : Bool) → p x ≡ b → (b && list_all p xs) ≡ false → (list_all p xs ≡ false → (y : X) × Has y xs × (p y ≡ false)) → (y : X) × Has y (x ∷ xs) × (p y ≡ false)
      go true h g more = let m = more g in (m.0, has_later m.0 x xs m.1, m.2)
      go false h g more = (x, has_first x xs, h)

  pub passes_all : (xs : List X) → ((x : X) → Has x xs → p x ≡ true) → list_all p xs ≡ true
  passes_all [] h = refl
  passes_all (x ∷ xs) h = rw (h x (has_first x xs)) (passes_all xs (λ y g. h y (has_later y x xs g)))

  none_len : (xs : List X) → length xs ≤ position_or_len p xs → (i : ℕ) (d : X) → i < length xs → p (get_or xs i d) ≡ false
  none_len [] le i d lt = absurd (omega arith)
  none_len (x ∷ xs) le i d lt = go (p x) refl le (λ le j lt. none_len xs le j d lt) i lt
    where
      go : (b : Bool) → p x ≡ b → suc (length xs) ≤ cond (not b) (1 + position_or_len p xs) 0 → (length xs ≤ position_or_len p xs → (j : ℕ) → j < length xs → p (get_or xs j d) ≡ false) → (i : ℕ) → i < suc (length xs) → p (get_or (x ∷ xs) i d) ≡ false
      go true e le more i lt = absurd (omega arith)
      go false e le more zero lt = e
      go false e le more (suc i) lt = more (omega arith) i (omega arith)

  pub no_position : (xs : List X) → position p xs ≡ None → (i : ℕ) (d : X) → i < length xs → p (get_or xs i d) ≡ false
  no_position xs e = none_len xs (elim (cases_lt (position_or_len p xs) (length xs)) [
    | inl lt ↦ absurd (let h = lt-ltb (position_or_len p xs) (length xs) lt in cc)
    | inr ge ↦ ge
  ])

module _ {X Y : Type 0} (f : X → Option Y) where
  pub has_found : (xs : List X) (i : ℕ) (d : X) (y : Y) → i < length xs → f (get_or xs i d) ≡ Some y → Has y (filter_map f xs)
  has_found [] i d y lt e = absurd (omega arith)
  has_found (x ∷ xs) zero d y lt e = subst (λ o. Has y (cons_option o (filter_map f xs))) (sym e) (has_first y (filter_map f xs))
  has_found (x ∷ xs) (suc i) d y lt e = go (f x) (has_found xs i d y (omega arith) e)
    where
      go : (o : Option Y) → Has y (filter_map f xs) → Has y (cons_option o (filter_map f xs))
      go None h = h
      go (Some z) h = has_later y z (filter_map f xs) h

  pub found_from : (xs : List X) (d : X) (y : Y) → Has y (filter_map f xs) → (i : ℕ) × (i < length xs) × (f (get_or xs i d) ≡ Some y)
  found_from [] d y h = absurd (has_none y h)
  found_from (x ∷ xs) d y h = go (f x) refl h (λ g. found_from xs d y g)
    where
      go : (o : Option Y) → f x ≡ o → Has y (cons_option o (filter_map f xs)) → (Has y (filter_map f xs) → (i : ℕ) × (i < length xs) × (f (get_or xs i d) ≡ Some y)) → (i : ℕ) × (i < suc (length xs)) × (f (get_or (x ∷ xs) i d) ≡ Some y)
      go None e h more = let m = more h in (suc m.0, omega (arith, m.1), m.2)
      go (Some z) e h more = elim (has_cases y z (filter_map f xs) h) [
        | inl same ↦ (0, omega arith, e ∙ ap (λ w. Some w) (sym same))
        | inr g ↦ let m = more g in (suc m.0, omega (arith, m.1), m.2)
      ]

  pub set_found : (xs : List X) (i : ℕ) (x d : X) → f x ≡ f (get_or xs i d) → filter_map f (set xs i x) ≡ filter_map f xs
  set_found [] i x d e = refl
  set_found (y ∷ xs) zero x d e = ap (λ o. cons_option o (filter_map f xs)) e
  set_found (y ∷ xs) (suc i) x d e = ap (λ l. cons_option (f y) l) (set_found xs i x d e)

  pub first_found : (xs : List X) (y : Y) (ys : List Y) → filter_map f xs ≡ y ∷ ys → (x : X) × Has x xs × (f x ≡ Some y)
  first_found [] y ys e = absurd (cc)
  first_found (x ∷ xs) y ys e = go (f x) refl e (λ g. first_found xs y ys g)
    where
      go : (o : Option Y) → f x ≡ o → cons_option o (filter_map f xs) ≡ y ∷ ys → (filter_map f xs ≡ y ∷ ys → (x : X) × Has x xs × (f x ≡ Some y)) → (z : X) × Has z (x ∷ xs) × (f z ≡ Some y)
      go None h e more = let m = more e in (m.0, has_later m.0 x xs m.1, m.2)
      go (Some z) h e more = let same : z ≡ y = cc in (x, has_first x xs, h ∙ ap (λ w. Some w) same)

module _ {X : Type 0} where
  reverse_first : (x : X) (xs : List X) → reverse (x ∷ xs) ≡ reverse xs ++ x ∷ []
  reverse_first x xs = reverse-append (x ∷ []) xs

  pub has_reversed : (x : X) (xs : List X) → Has x xs → Has x (reverse xs)
  has_reversed x [] h = absurd (has_none x h)
  has_reversed x (y ∷ xs) h = subst (Has x) (sym (reverse_first y xs)) (elim (has_cases x y xs h) [
    | inl same ↦ has_right x (reverse xs) (y ∷ []) (subst (λ z. Has z (y ∷ [])) (sym same) (has_first y []))
    | inr g ↦ has_left x (reverse xs) (y ∷ []) (has_reversed x xs g)
  ])

  pub has_unreversed : (x : X) (xs : List X) → Has x (reverse xs) → Has x xs
  has_unreversed x [] h = h
  has_unreversed x (y ∷ xs) h = elim (has_either x (reverse xs) (y ∷ []) (subst (Has x) (reverse_first y xs) h)) [
    | inl g ↦ has_later x y xs (has_unreversed x xs g)
    | inr g ↦ elim (has_cases x y [] g) [
      | inl same ↦ subst (λ z. Has z (y ∷ xs)) (sym same) (has_first y xs)
      | inr e ↦ absurd (has_none x e)
    ]
  ]

  pub all_set : (P : X → Type 0) (xs : List X) (i : ℕ) (x : X) → AllByRecursion P xs → P x → AllByRecursion P (set xs i x)
  all_set P [] i x h p = tt
  all_set P (y ∷ xs) zero x h p = (p, h.1)
  all_set P (y ∷ xs) (suc i) x h p = (h.0, all_set P xs i x h.1 p)

  pub same_option : (a b : Option X) → ((x : X) → a ≡ Some x → b ≡ Some x) → ((x : X) → b ≡ Some x → a ≡ Some x) → a ≡ b
  same_option None None h g = refl
  same_option None (Some y) h g = g y refl
  same_option (Some x) b h g = sym (h x refl)

pub place_within : (m a v : ℕ) → Has v (places_from a m) → (a ≤ v) × (v < a + m)
place_within zero a v h = absurd (has_none v h)
place_within (suc m) a v h = elim (has_cases v a (places_from (suc a) m) h) [
  | inl same ↦ (omega (arith, same), omega (arith, same))
  | inr g ↦ let m = place_within m (suc a) v g in (omega (arith, m.0), omega (arith, m.1))
]

pub within_places : (m a v : ℕ) → a ≤ v → v < a + m → Has v (places_from a m)
within_places zero a v le lt = absurd (omega arith)
within_places (suc m) a v le lt = elim (cases_lt a v) [
  | inl below ↦ has_later v a (places_from (suc a) m) (within_places m (suc a) v (omega arith) (omega arith))
  | inr above ↦ subst (λ z. Has z (places_from a (suc m))) (let e : a ≡ v = omega arith in e) (has_first a (places_from (suc a) m))
]
