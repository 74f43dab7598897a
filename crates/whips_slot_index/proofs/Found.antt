-- Where a search through the slots ends.
use Rattle.std.proofs.Common.{◌≡◌, inl, inr, ℕ, zero, suc, ◌+◌, ◌<◌, ◌≤◌, Bool, true, false, cond, List, [], ◌∷◌, length, get_or, Option, Some, None, refl, sym, ap, subst, ◌∙◌, arith}
use Rattle.std.specs.Prelude.{set}
use Rattle.std.specs.List.{position, position_or_len}
use Rattle.std.proofs.lemmas.Bool.{lt-ltb, le-ltb, cases_lt}
use Rattle.std.proofs.lemmas.List.{length-map}
use Rattle.std.proofs.lemmas.List.Sums.{position_or_len_is}
use Rattle.whips_model.proofs.Keyed.{all_at}
use Rattle.whips_vnl.specs.Records.{steps_or_none}
use Rattle.whips_vnl.specs.declared.record.Vstep.{Vstep}
use Rattle.whips_slot_index.specs.Slots.{all_steps, AreKept}

pub steps_at : (records : List (Option (List Vstep))) (i : ℕ) (d : Option (List Vstep)) → i < length records → get_or (all_steps records) i [] ≡ steps_or_none (get_or records i d)
steps_at [] i d lt = absurd (omega arith)
steps_at (r ∷ records) zero d lt = refl
steps_at (r ∷ records) (suc i) d lt = steps_at records i d (omega arith)

module _ (p : List Vstep → Bool) (records : List (Option (List Vstep))) where
  -- none of the first i slots passes
  abbrev pub NoneYet : ℕ → Type 0
  NoneYet i = (k : ℕ) → k < i → p (get_or (all_steps records) k []) ≡ false

  pub none_at_first : NoneYet 0
  none_at_first k lt = absurd (omega arith)

  pub one_more : (i : ℕ) (r : Option (List Vstep)) (b : Bool) → NoneYet i → i < length records → r ≡ get_or records i r → b ≡ p (steps_or_none r) → b ≡ false → NoneYet (i + 1)
  one_more i r b h lt is e f k below = elim (cases_lt k i) [
    | inl before ↦ h k before
    | inr from ↦ let same : i ≡ k = omega arith in
        subst (λ j. p (get_or (all_steps records) j []) ≡ false) same (ap p (steps_at records i r lt ∙ ap steps_or_none (sym is)) ∙ sym e ∙ f)
  ]

  pub found : (i : ℕ) (r : Option (List Vstep)) (b : Bool) → NoneYet i → i < length records → r ≡ get_or records i r → b ≡ p (steps_or_none r) → b ≡ true → Some i ≡ position p (all_steps records)
  found i r b h lt is e f =
      let count : length (all_steps records) ≡ length records = length-map records steps_or_none in
      let place : position_or_len p (all_steps records) ≡ i = position_or_len_is p (all_steps records) i [] (omega arith) h (λ _. ap p (steps_at records i r lt ∙ ap steps_or_none (sym is)) ∙ sym e ∙ f) in
      sym (ap (λ b. cond b (Some (position_or_len p (all_steps records))) None) (lt-ltb (position_or_len p (all_steps records)) (length (all_steps records)) (omega arith)) ∙ ap (λ i. Some i) place)

  pub not_found : (i : ℕ) → NoneYet i → length records ≤ i → None ≡ position p (all_steps records)
  not_found i h le =
      let count : length (all_steps records) ≡ length records = length-map records steps_or_none in
      let place : position_or_len p (all_steps records) ≡ length records = position_or_len_is p (all_steps records) (length records) [] (omega arith) (λ k lt. h k (omega arith)) (λ lt. absurd (omega arith)) in
      sym (ap (λ b. cond b (Some (position_or_len p (all_steps records))) None) (le-ltb (position_or_len p (all_steps records)) (length (all_steps records)) (omega arith)))

pub kept_at : (n : ℕ) (records : List (Option (List Vstep))) (i : ℕ) (r : Option (List Vstep)) → AreKept n records → i < length records → r ≡ get_or records i r → length (steps_or_none r) ≤ n
kept_at n records i r h lt is = subst (λ x. length (steps_or_none x) ≤ n) (sym is) (all_at (λ x. length (steps_or_none x) ≤ n) records i r h lt)

-- the steps once a slot's record is taken out and another is put there
pub steps_set : (records : List (Option (List Vstep))) (i : ℕ) (x y : Option (List Vstep)) → all_steps (set (set records i x) i y) ≡ set (all_steps records) i (steps_or_none y)
steps_set [] i x y = refl
steps_set (r ∷ records) zero x y = refl
steps_set (r ∷ records) (suc i) x y = ap (λ l. steps_or_none r ∷ l) (steps_set records i x y)

pub slot_changed : (records : List (Option (List Vstep))) (i : ℕ) (x old : Option (List Vstep)) (new : List Vstep) (made : List Vstep → List Vstep) → i < length records → old ≡ get_or records i old → new ≡ made (steps_or_none old)
    → all_steps (set (set records i x) i (Some new)) ≡ set (all_steps records) i (made (get_or (all_steps records) i []))
slot_changed records i x old new made lt is e = steps_set records i x (Some new) ∙ ap (λ l. set (all_steps records) i l) (e ∙ ap made (ap steps_or_none is ∙ sym (steps_at records i old lt)))
