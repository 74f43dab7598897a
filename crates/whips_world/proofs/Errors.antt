-- Lists that are told in parts, and calls that fail.
use Rattle.std.proofs.Common.{◌≡◌, ℕ, zero, suc, ◌+◌, ◌<◌, List, [], ◌∷◌, ◌++◌, length, take, Result, Ok, Err, refl, sym, ap, subst, ◌∙◌, arith}
use Rattle.std.specs.Prelude.{slice_index_or, IfErr, IfOk, OnOk}
use Rattle.std.specs.Result.{IsErrAnd}
use Rattle.whips_lists.specs.Lists.{map_with_place}
use Rattle.whips_world.specs.Runs.{IsFirstPart}

-- an error that is handed on
pub err_with : {A E : Type 0} (r : Result A E) (e : E) (P : E → Type 0) → IsErrAnd r (λ x. x ≡ e) → P e → IfErr r P
err_with (Ok a) e P h p = tt
err_with (Err x) e P h p = subst P (sym h) p

-- what follows where a call fails, and where it doesn't
pub if_err : {A E : Type 0} (r : Result A E) {P Q : E → Type 0} → IfErr r P → ((e : E) → P e → Q e) → IfErr r Q
if_err (Ok a) h f = tt
if_err (Err x) h f = f x h

pub if_ok : {A E : Type 0} (r : Result A E) {P Q : Type 0} → OnOk r P → (P → Q) → OnOk r Q
if_ok (Ok a) h f = f h
if_ok (Err x) h f = tt

pub ok_both : {A E : Type 0} (r : Result A E) (P Q : Type 0) → OnOk r P → OnOk r Q → OnOk r (P × Q)
ok_both (Ok a) P Q p q = (p, q)
ok_both (Err x) P Q p q = tt

pub ok_with : {A E : Type 0} (r : Result A E) (P : A → Type 0) (Q : Type 0) → IfOk r P → OnOk r Q → IfOk r (λ a. P a × Q)
ok_with (Ok a) P Q p q = (p, q)
ok_with (Err x) P Q p q = tt

pub if_is_ok : {A E : Type 0} (r : Result A E) {P Q : A → Type 0} → IfOk r P → ((a : A) → P a → Q a) → IfOk r Q
if_is_ok (Ok a) h f = f a h
if_is_ok (Err x) h f = tt

-- ---- elements with their places

placed_from : {A B : Type 0} (g : ℕ → A → B) (k i : ℕ) (xs : List A) (d : A) → i < length xs → map_with_place g k (take (suc i) xs) ≡ map_with_place g k (take i xs) ++ g (k + i) (slice_index_or xs i d) ∷ []
placed_from g k i [] d lt = absurd (omega (arith, lt))
placed_from g k zero (x ∷ xs) d lt = let e : k ≡ k + 0 = omega arith in ap (λ n. g n x ∷ []) e
placed_from g k (suc i) (x ∷ xs) d lt = let e : suc k + i ≡ k + suc i = omega arith in ap (λ l. g k x ∷ l) (placed_from g (suc k) i xs d (omega (arith, lt)) ∙ ap (λ n. map_with_place g (suc k) (take i xs) ++ g n (slice_index_or xs i d) ∷ []) e)

pub placed_next : {A B : Type 0} (g : ℕ → A → B) (i : ℕ) (xs : List A) (d : A) → i < length xs → map_with_place g 0 (take (i + 1) xs) ≡ map_with_place g 0 (take i xs) ++ g i (slice_index_or xs i d) ∷ []
placed_next g i xs d lt =
    let e : i + 1 ≡ suc i = omega arith in
    let f : 0 + i ≡ i = omega arith in
    ap (λ n. map_with_place g 0 (take n xs)) e ∙ (placed_from g 0 i xs d lt ∙ ap (λ n. map_with_place g 0 (take i xs) ++ g n (slice_index_or xs i d) ∷ []) f)

pub first_placed : {A B : Type 0} (g : ℕ → A → B) (k i : ℕ) (xs : List A) → IsFirstPart (map_with_place g k (take i xs)) (map_with_place g k xs)
first_placed g k zero xs = (map_with_place g k xs, refl)
first_placed g k (suc i) [] = ([], refl)
first_placed g k (suc i) (x ∷ xs) = let p = first_placed g (suc k) i xs in (p.0, ap (λ l. g k x ∷ l) p.1)
