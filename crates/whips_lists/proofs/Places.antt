-- Places in turn.
use Rattle.std.proofs.Common.{◌≡◌, ℕ, zero, suc, ◌+◌, ◌<◌, ◌≤◌, [], ◌∷◌, ◌++◌, length, map, get_or, refl, ap, ◌∙◌, ◌⊎◌, inl, inr, arith, ⊎_elim}
use Rattle.std.proofs.lemmas.Bool.{cases_lt}
use Rattle.whips_lists.specs.Lists.{places_from}
use Rattle.whips_lists.specs.Members.{Has, AreDistinct}
use Rattle.whips_lists.proofs.Members.{has_first, has_later, has_none, has_cases, has_same}

-- the last place stands behind those before it
pub places_more : (k n : ℕ) → places_from k (suc n) ≡ places_from k n ++ (k + n) ∷ []
places_more k zero = let e : k ≡ k + 0 = omega arith in ap (λ z. z ∷ []) e
places_more k (suc n) = let e : suc k + n ≡ k + suc n = omega arith in ap (λ l. k ∷ l) (places_more (suc k) n ∙ ap (λ z. places_from (suc k) n ++ z ∷ []) e)

pub places_next : (n : ℕ) → places_from 0 (suc n) ≡ places_from 0 n ++ n ∷ []
places_next n = let e : 0 + n ≡ n = omega arith in places_more 0 n ∙ ap (λ z. places_from 0 n ++ z ∷ []) e

pub length_places : (k n : ℕ) → length (places_from k n) ≡ n
length_places k zero = refl
length_places k (suc n) = ap suc (length_places (suc k) n)

pub places_within : (k n j : ℕ) → Has j (places_from k n) → (k ≤ j) × (j < k + n)
places_within k zero j h = absurd (has_none j h)
places_within k (suc n) j h = elim (has_cases j k (places_from (suc k) n) h) [
  | inl e ↦ (omega arith, omega arith)
  | inr g ↦ let w = places_within (suc k) n j g in (omega (arith, w.0), omega (arith, w.1))
]

pub has_place : (k n j : ℕ) → k ≤ j → j < k + n → Has j (places_from k n)
has_place k zero j le lt = absurd (omega arith)
has_place k (suc n) j le lt = ⊎_elim
    (λ above. has_later j k (places_from (suc k) n) (has_place (suc k) n j (omega (arith, above)) (omega arith)))
    (λ below. let e : k ≡ j = omega (arith, below) in has_same k j (places_from k (suc n)) e (has_first k (places_from (suc k) n)))
    (cases_lt k j)

pub places_distinct : (k n : ℕ) → AreDistinct (places_from k n)
places_distinct k zero = tt
places_distinct k (suc n) = (λ h. let w = places_within (suc k) n k h in absurd (omega (arith, w.0)), places_distinct (suc k) n)

-- the places below n
pub below_is : (n j : ℕ) → Has j (places_from 0 n) → j < n
below_is n j h = let w = places_within 0 n j h in omega (arith, w.1)

pub is_below : (n j : ℕ) → j < n → Has j (places_from 0 n)
is_below n j lt = has_place 0 n j (omega arith) (omega arith)

-- what stands at a place among the values of places in turn
pub mapped_at : {A : Type 0} (f : ℕ → A) (n k i : ℕ) (d : A) → i < n → get_or (map f (places_from k n)) i d ≡ f (k + i)
mapped_at f zero k i d lt = absurd (omega arith)
mapped_at f (suc n) k zero d lt = let e : k ≡ k + 0 = omega arith in ap f e
mapped_at f (suc n) k (suc i) d lt = let e : suc k + i ≡ k + suc i = omega arith in mapped_at f n (suc k) i d (omega arith) ∙ ap f e
