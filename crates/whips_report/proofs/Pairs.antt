-- The pairs of two lists, one more at a time, and to the end of the shorter one.
use Rattle.std.proofs.Common.{◌≡◌, ℕ, zero, suc, ◌+◌, ◌<◌, min, List, [], ◌∷◌, ◌++◌, length, take, get_or, refl, ap, arith, add-one}
use Rattle.std.specs.List.{zip}

-- one pair more
next_pair : {A B : Type 0} (xs : List A) (ys : List B) (i : ℕ) (d : A) (e : B) → i < length xs → i < length ys → zip (take (suc i) xs) (take (suc i) ys) ≡ zip (take i xs) (take i ys) ++ (get_or xs i d, get_or ys i e) ∷ []
next_pair [] ys i d e p q = absurd (omega (arith, p))
next_pair (x ∷ xs) [] i d e p q = absurd (omega (arith, q))
next_pair (x ∷ xs) (y ∷ ys) zero d e p q = refl
next_pair (x ∷ xs) (y ∷ ys) (suc i) d e p q = ap (λ l. (x, y) ∷ l) (next_pair xs ys i d e (omega (arith, p)) (omega (arith, q)))

pub pairs_more : {A B : Type 0} (xs : List A) (ys : List B) (i n : ℕ) (d : A) (e : B) → n ≡ i + 1 → i < length xs → i < length ys → zip (take n xs) (take n ys) ≡ zip (take i xs) (take i ys) ++ (get_or xs i d, get_or ys i e) ∷ []
pairs_more xs ys i n d e is p q = rw (is, add-one) (next_pair xs ys i d e p q)

pub pairs_all : {A B : Type 0} (xs : List A) (ys : List B) (n : ℕ) → n ≡ min (length xs) (length ys) → zip (take n xs) (take n ys) ≡ zip xs ys
pairs_all [] ys zero is = refl
pairs_all [] ys (suc n) is = refl
pairs_all (x ∷ xs) [] zero is = refl
pairs_all (x ∷ xs) [] (suc n) is = refl
pairs_all (x ∷ xs) (y ∷ ys) zero is = absurd (omega (arith, is))
pairs_all (x ∷ xs) (y ∷ ys) (suc n) is = ap (λ l. (x, y) ∷ l) (pairs_all xs ys n (omega (arith, is)))
