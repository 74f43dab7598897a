-- The place of a text in an ordered list is the number of texts before it.
use Rattle.std.proofs.Common.{◌≡◌, ℕ, zero, suc, ◌≤◌, Bool, true, false, List, [], ◌∷◌, length, get_or, refl, ap, arith}
use Rattle.std.specs.List.{filter}
use Rattle.std.specs.List.Sorted.{IsStrictlySortedBy, IsPartitionedBy, IsPartitionPoint}
use Rattle.std.specs.Ordering.{is_lt}
use Rattle.std.specs.declared.cmp.Ordering.{Ordering}
use Rattle.std.specs.declared.cmp.Ordering.TheVariants.{Less, Equal, Greater}
use Rattle.std.proofs.lemmas.Bool.{false≢true}
use Rattle.std.proofs.lemmas.Cmp.{nat_list_cmp_total}
use Rattle.whips_model.proofs.Keyed.{all_at}
use Rattle.whips_reading.specs.Json.{Text}
use Rattle.whips_texts.specs.Texts.{text_cmp, is_before}

less : (o : Ordering) → is_lt o ≡ true → o ≡ Less
less Less e = refl
less Equal e = absurd (false≢true e)
less Greater e = absurd (false≢true e)

-- what is before a text that is before t is before t
before_trans : (a b t : Text) → text_cmp a b ≡ Less → is_before b t ≡ true → is_before a t ≡ true
before_trans a b t h e = ap is_lt (nat_list_cmp_total.trans a b t h (less (text_cmp b t) e))

pub parted : (t : Text) (texts : List Text) → IsStrictlySortedBy text_cmp texts → IsPartitionedBy (λ u. is_before u t) texts
unfolding IsStrictlySortedBy
parted t [] h i j d le lt e = absurd (omega arith)
parted t (u ∷ texts) h zero zero d le lt e = e
parted t (u ∷ texts) h zero (suc j) d le lt e = before_trans u (get_or texts j d) t (all_at (λ v. text_cmp u v ≡ Less) texts j d h.0 (omega arith)) e
parted t (u ∷ texts) h (suc i) zero d le lt e = absurd (omega arith)
parted t (u ∷ texts) h (suc i) (suc j) d le lt e = parted t texts h.1 i j d (omega arith) (omega arith) e

-- the number that pass is the place where they end
module _ {X : Type 0} (p : X → Bool) where
  pub counted : (xs : List X) (i : ℕ) → i ≤ length xs → IsPartitionPoint (λ x. p x ≡ true) (λ x. p x ≡ false) xs i → i ≡ length (filter p xs)
  counted [] zero le h = refl
  counted [] (suc i) le h = absurd (omega arith)
  counted (x ∷ xs) zero le h = rw (h.1 0 x (omega arith) (omega arith)) (counted xs zero (omega arith) (λ k d low lt. absurd (omega arith), λ k d low lt. h.1 (suc k) d (omega arith) (omega arith)))
  counted (x ∷ xs) (suc i) le h = rw (h.0 0 x (omega arith) (omega arith)) (ap suc (counted xs i (omega arith) (λ k d low lt. h.0 (suc k) d (omega arith) (omega arith), λ k d low lt. h.1 (suc k) d (omega arith) (omega arith))))
