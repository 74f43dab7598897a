-- A turn of a loop that keeps what passes a test.
use Rattle.std.proofs.Common.{◌≡◌, ℕ, zero, suc, ◌+◌, Bool, true, false, cond, Some, List, [], ◌∷◌, ◌++◌, get_or, take, refl, sym, ap, subst, ◌∙◌, add-one, append-nil}
use Rattle.std.specs.Prelude.{slice_get}
use Rattle.std.specs.List.{filter}

module _ {X : Type 0} (p : X → Bool) where
  kept_more : (xs : List X) (i : ℕ) (x : X) → slice_get xs i ≡ Some x → filter p (take (suc i) xs) ≡ filter p (take i xs) ++ cond (p x) (x ∷ []) []
  kept_more [] i x e = absurd (cc)
  kept_more (y ∷ xs) zero x e = let same : y ≡ x = cc in subst (λ (z : X). cond (p y) (y ∷ []) [] ≡ cond (p z) (z ∷ []) []) same refl
  kept_more (y ∷ xs) (suc i) x e = go (kept_more xs i x e) (p y)
    where
      go : filter p (take (suc i) xs) ≡ filter p (take i xs) ++ cond (p x) (x ∷ []) [] → (b : Bool)
          → cond b (y ∷ filter p (take (suc i) xs)) (filter p (take (suc i) xs)) ≡ cond b (y ∷ filter p (take i xs)) (filter p (take i xs)) ++ cond (p x) (x ∷ []) []
      go ih true = ap (λ l. y ∷ l) ih
      go ih false = ih

  get_same : (xs : List X) (i : ℕ) (x d : X) → slice_get xs i ≡ Some x → get_or xs i d ≡ x
  get_same [] i x d e = absurd (cc)
  get_same (y ∷ xs) zero x d e = cc
  get_same (y ∷ xs) (suc i) x d e = get_same xs i x d e

  module _ (xs : List X) (i : ℕ) (x : X) (now new : List X) where
    pub kept : (d : X) → slice_get xs i ≡ Some x → now ≡ filter p (take i xs) → p x ≡ true → new ≡ now ++ get_or xs i d ∷ [] → new ≡ filter p (take (i + 1) xs)
    kept d at so_far passes more = rw add-one (more ∙ ap (λ z. now ++ z ∷ []) (get_same xs i x d at) ∙ ap (λ l. l ++ x ∷ []) so_far ∙ sym (kept_more xs i x at ∙ ap (λ b. filter p (take i xs) ++ cond b (x ∷ []) []) passes))

    pub left_out : slice_get xs i ≡ Some x → now ≡ filter p (take i xs) → p x ≡ false → new ≡ now → new ≡ filter p (take (i + 1) xs)
    left_out at so_far fails same = rw add-one (same ∙ so_far ∙ sym (kept_more xs i x at ∙ ap (λ b. filter p (take i xs) ++ cond b (x ∷ []) []) fails ∙ append-nil (filter p (take i xs))))
