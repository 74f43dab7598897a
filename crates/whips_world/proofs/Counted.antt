-- Elements of joined lists, by their place.
--
-- `got_front`, `got_behind`: an element of two lists that are joined. `joined_more`: lists for each place below one more. `joined_there`: an element of such a list, by the place whose list it is in.
use Rattle.std.proofs.Common.{◌≡◌, ℕ, zero, suc, ◌+◌, ◌-◌, ◌<◌, ◌≤◌, List, [], ◌∷◌, ◌++◌, length, length-append, append-nil, append_assoc, refl, sym, ap, ◌∙◌, arith}
use Rattle.std.specs.Prelude.{min, slice_get}
use Rattle.std.proofs.Math.Nat.{min-eq_left}
use Rattle.std.specs.List.{flat_map}
use Rattle.std.proofs.lemmas.Grind.{flat_map-append}
use Rattle.whips_lists.specs.Lists.{places_from}
use Rattle.whips_lists.proofs.Places.{places_next}

pub got_front : {A : Type 0} (xs ys : List A) (k : ℕ) → k < length xs → slice_get (xs ++ ys) k ≡ slice_get xs k
got_front [] ys k lt = absurd (omega (arith, lt))
got_front (x ∷ xs) ys zero lt = refl
got_front (x ∷ xs) ys (suc k) lt = got_front xs ys k (omega (arith, lt))

pub got_behind : {A : Type 0} (xs ys : List A) (k n : ℕ) → n + length xs ≡ k → slice_get (xs ++ ys) k ≡ slice_get ys n
got_behind [] ys k n e = let same : k ≡ n = omega (arith, e) in ap (slice_get ys) same
got_behind (x ∷ xs) ys zero n e = absurd (omega (arith, e))
got_behind (x ∷ xs) ys (suc k) n e = got_behind xs ys k n (omega (arith, e))

module _ {A : Type 0} (of : ℕ → List A) where
  -- the lists of the first places, one behind the other
  abbrev pub joined : ℕ → List A
  joined n = flat_map of (places_from 0 n)

  pub joined_next : (n : ℕ) → joined (suc n) ≡ joined n ++ of n
  joined_next n = ap (flat_map of) (places_next n) ∙ (flat_map-append of (places_from 0 n) (n ∷ []) ∙ ap (λ l. joined n ++ l) (append-nil (of n)))

  pub joined_longer : (n : ℕ) → length (joined (suc n)) ≡ length (joined n) + length (of n)
  joined_longer n = ap length (joined_next n) ∙ length-append (joined n) (of n)

  -- the same, by a turn of a loop
  pub joined_turn : (n : ℕ) → length (joined (n + 1)) ≡ length (joined n) + length (of n)
  joined_turn n = let e : n + 1 ≡ suc n = omega arith in ap (λ k. length (joined k)) e ∙ joined_longer n

  -- the lists of more places
  pub joined_more : (n k : ℕ) → (rest : List A) × (joined (k + n) ≡ joined n ++ rest)
  joined_more n zero = let e : 0 + n ≡ n = omega arith in ([], ap joined e ∙ sym (append-nil (joined n)))
  joined_more n (suc k) =
      let e : suc k + n ≡ suc (k + n) = omega arith in
      let before = joined_more n k in
      (before.0 ++ of (k + n), ap joined e ∙ (joined_next (k + n) ∙ (ap (λ l. l ++ of (k + n)) before.1 ∙ append_assoc (joined n) before.0 (of (k + n)))))

  pub joined_within : (n m : ℕ) → n ≤ m → (rest : List A) × (joined m ≡ joined n ++ rest)
  joined_within n m le =
      let e : (m - n) + n ≡ m = omega (arith, le) in
      let more = joined_more n (m - n) in
      (more.0, sym (ap joined e) ∙ more.1)

  -- the first lists are no longer than all
  pub joined_grows : (n m : ℕ) → n ≤ m → length (joined n) ≤ length (joined m)
  joined_grows n m le =
      let more = joined_within n m le in
      omega (arith, ap length more.1, length-append (joined n) more.0)

  -- an element of the list of this place
  pub joined_there : (n m k left : ℕ) → n < m → left + length (joined n) ≡ k → left < length (of n) → slice_get (joined m) k ≡ slice_get (of n) left
  joined_there n m k left lt at within =
      let more = joined_within (suc n) m (omega (arith, lt)) in
      ap (λ l. slice_get l k) (more.1 ∙ ap (λ l. l ++ more.0) (joined_next n))
      ∙ (got_front (joined n ++ of n) more.0 k (omega (arith, length-append (joined n) (of n), at, within)) ∙ got_behind (joined n) (of n) k left at)

-- the least of a number that isn't less
pub least : (most n : ℕ) → most ≤ n → most ≡ min most n
least most n le = sym (min-eq_left le)
