-- All steps of a query on one state.
use Rattle.std.proofs.Common.{◌≡◌, ◌≢◌, ◌⊎◌, ◌↔◌, inl, inr, ℕ, zero, suc, ◌+◌, ◌<◌, ◌≤◌, Bool, true, Some, None, is_some, List, [], ◌∷◌, length, map, get_or, refl, sym, ap, subst, ◌∙◌, arith, eq-eqb, ne_eqb}
use Rattle.std.specs.List.{AllByRecursion}
use Rattle.std.proofs.lemmas.Bool.{cases_eq}
use Rattle.whips_model.specs.Tuples.{Codes}
use Rattle.whips_model.specs.Views.{Choice, meets}
use Rattle.whips_lists.specs.Members.{Has, AreDistinct}
use Rattle.whips_choices.specs.KeyedViews.{KeyedView, IsKeyedView, AreTables, IsChoiceOf}
use Rattle.whips_choices.specs.Partials.{Partial, slot, seed, meets_on, extended}
use Rattle.whips_lists.proofs.Members.{has_first, has_later, has_none, has_same, has_before, has_mapped, all_from_has}
use Rattle.whips_choices.proofs.Parts.{seed_width, seed_at, seed_other, seed_part}
use Rattle.whips_choices.proofs.Rows.{same_row}
use Rattle.whips_states.specs.Concerns.{meets_part}
use Rattle.whips_trans_laws.proofs.Alone.{meets_is}
use Rattle.whips_steps.specs.Steps.{asked_sources, step_parts, is_filled}
use Rattle.whips_steps.specs.Answers.{projected, answers_from, whole_answer, unstruck, IsWhole, DifferInKey, AllDifferInKey}
use Rattle.whips_steps.specs.Laws.{IsSeededRow, StepsFind, AnswersAreWhole}
use Rattle.whips_steps.proofs.Fills.{IsFilling, IsFound, with_all, fill_all, found_all}
use Rattle.whips_steps.proofs.Stepping.{parts_distinct, parts_free, filled_next, all_filled, filled_first}
use Rattle.whips_steps.proofs.Whole.{found_seeded, in_found}

-- with no pending key nothing is struck
pub none_struck : (v : KeyedView) (ps : List Partial) → unstruck v [] ps ≡ ps
none_struck v [] = refl
none_struck v (p ∷ ps) = ap (λ l. p ∷ l) (none_struck v ps)

-- distinct tuples of one relation differ in their keys
pub differ_seeds : (v : KeyedView) (tables : List (List Codes)) (good : AreTables v tables) (origin : ℕ) → origin < length v.keys → (seeds : List Codes) → AreDistinct seeds → ((t : Codes) → Has t seeds → Has t (get_or tables origin []))
    → AllDifferInKey v.keys (map (seed (length v.keys) origin) seeds)
differ_seeds v tables good origin lt [] d there = tt
differ_seeds v tables good origin lt (t ∷ seeds) d there = (λ q k. first q (has_before (seed (length v.keys) origin) q seeds k), differ_seeds v tables good origin lt seeds d.1 (λ u h. there u (has_later u t seeds h)))
  where
    first : (q : Partial) → (u : Codes) × Has u seeds × (q ≡ seed (length v.keys) origin u) → DifferInKey v.keys (seed (length v.keys) origin t) q
    first q b = record {
      part = origin;
      left = t;
      right = b.0;
      in_left = seed_at (length v.keys) origin t lt;
      in_right = ap (λ z. slot z origin) b.2 ∙ seed_at (length v.keys) origin b.0 lt;
      differ = λ same. d.0 (subst (λ z. Has z seeds) (sym (same_row (get_or v.keys origin []) t b.0 (get_or tables origin []) (good.keyed origin lt) (there t (has_first t seeds)) (there b.0 (has_later b.0 t seeds b.1)) same)) b.1);
    }

-- the same parts filled, in other words
filling_same : (v : KeyedView) (tables : List (List Codes)) (seeds : List Codes) (origin : ℕ) (pending : List (ℕ × Codes)) (f g : ℕ → Bool) (ps : List Partial) → ((j : ℕ) → j < length v.keys → f j ≡ g j) → IsFilling v tables seeds origin pending f ps → IsFilling v tables seeds origin pending g ps
filling_same v tables seeds origin pending f g ps same h = record { width = h.width; seed = h.seed; filled = λ p j k lt. h.filled p j k lt ∙ same j lt; meets = h.meets; chosen = h.chosen; differ = h.differ }

module _ (v : KeyedView) (is : IsKeyedView v) (tables : List (List Codes)) (good : AreTables v tables) (origin : ℕ) (lt : origin < length v.keys) (seeds : List Codes) where
  fills : (n k : ℕ) (ps : List Partial) → 1 ≤ k → k + n ≡ length (asked_sources v origin) + 1 → IsFilling v tables seeds origin [] (is_filled v origin k) ps → IsFilling v tables seeds origin [] (is_filled v origin (k + n)) (answers_from v tables origin n k ps)
  fills zero k ps low e h = let same : k ≡ k + 0 = omega arith in subst (λ z. IsFilling v tables seeds origin [] (is_filled v origin z) ps) same h
  fills (suc n) k ps low e h =
      let high : k ≤ length (asked_sources v origin) = omega arith in
      let same : k + 1 + n ≡ k + suc n = omega arith in
      let next : IsFilling v tables seeds origin [] (is_filled v origin (k + 1)) (extended v.base tables (step_parts v origin k) ps) =
      filling_same v tables seeds origin [] (with_all (is_filled v origin k) (step_parts v origin k)) (is_filled v origin (k + 1)) _ (filled_next v origin k low high)
      (fill_all v tables seeds origin [] good (is_filled v origin k) (step_parts v origin k) ps (parts_distinct v origin k) (parts_free v origin k low high) h) in
      subst (λ z. IsFilling v tables seeds origin [] (is_filled v origin z) (answers_from v tables origin n (k + 1) (extended v.base tables (step_parts v origin k) ps))) same
      (fills n (k + 1) _ (omega arith) (omega arith) next)

  finds_all : (c : Choice) → IsChoiceOf tables c → meets v.base c ≡ true → (n k : ℕ) (ps : List Partial) → 1 ≤ k → k + n ≡ length (asked_sources v origin) + 1 → IsFound ps c → IsFound (answers_from v tables origin n k ps) c
  finds_all c d m zero k ps low e h = h
  finds_all c d m (suc n) k ps low e h = finds_all c d m n (k + 1) _ (omega arith) (omega arith)
      (found_all v is tables good.parts c d m (step_parts v origin k) ps (λ j g. (parts_free v origin k low (omega arith) j g).0) h)

  module _ (distinct : AreDistinct seeds) (there : (t : Codes) → Has t seeds → Has t (get_or tables origin [])) (concern : (t : Codes) → Has t seeds → meets_part v.base origin t ≡ true) where
    begins : IsFilling v tables seeds origin [] (is_filled v origin 1) (map (seed (length v.keys) origin) seeds)
    begins = record {
      width = λ p h. let b = from p h in ap length b.2 ∙ seed_width (length v.keys) origin b.0;
      seed = λ p h. let b = from p h in (b.0, b.1, ap (λ z. slot z origin) b.2 ∙ seed_at (length v.keys) origin b.0 lt);
      filled = λ p j h below. let b = from p h in ap (λ z. is_some (slot z j)) b.2 ∙ filled b.0 j (cases_eq j origin);
      meets = λ p h. let b = from p h in ap (meets_on v.base) b.2 ∙ meets_is v.base (length v.keys) origin b.0 lt ∙ concern b.0 b.1;
      chosen = λ p j t h e. let b = from p h in inl (chosen b.0 b.1 j t (ap (λ z. slot z j) (sym b.2) ∙ e) (cases_eq j origin));
      differ = differ_seeds v tables good origin lt seeds distinct there;
    }
      where
        from : (p : Partial) → Has p (map (seed (length v.keys) origin) seeds) → (t : Codes) × Has t seeds × (p ≡ seed (length v.keys) origin t)
        from p h = has_before (seed (length v.keys) origin) p seeds h

        filled : (t : Codes) (j : ℕ) → (j ≡ origin) ⊎ (j ≢ origin) → is_some (slot (seed (length v.keys) origin t) j) ≡ is_filled v origin 1 j
        filled t j (inl e) = subst (λ z. is_some (slot (seed (length v.keys) origin t) z) ≡ is_filled v origin 1 z) (sym e) (ap is_some (seed_at (length v.keys) origin t lt) ∙ sym (filled_first v origin origin ∙ eq-eqb origin origin refl))
        filled t j (inr ne) = ap is_some (seed_other (length v.keys) origin j t ne) ∙ sym (filled_first v origin j ∙ ne_eqb j origin ne)

        chosen : (u : Codes) → Has u seeds → (j : ℕ) (t : Codes) → slot (seed (length v.keys) origin u) j ≡ Some t → (j ≡ origin) ⊎ (j ≢ origin) → Has t (get_or tables j [])
        chosen u h j t e (inl same) =
            let at : slot (seed (length v.keys) origin u) origin ≡ Some u = seed_at (length v.keys) origin u lt in
            let here : slot (seed (length v.keys) origin u) origin ≡ Some t = subst (λ z. slot (seed (length v.keys) origin u) z ≡ Some t) same e in
            let equal : u ≡ t = cc (at, here) in
            subst (λ z. Has t (get_or tables z [])) (sym same) (has_same u t _ equal (there u h))
        chosen u h j t e (inr ne) = let none : slot (seed (length v.keys) origin u) j ≡ None = seed_other (length v.keys) origin j u ne in absurd (cc (none, e))

    total : 1 + length (asked_sources v origin) ≡ length (asked_sources v origin) + 1
    total = omega arith

    filling : IsFilling v tables seeds origin [] (is_filled v origin (1 + length (asked_sources v origin))) (whole_answer v tables origin seeds)
    filling = fills (length (asked_sources v origin)) 1 (map (seed (length v.keys) origin) seeds) (omega arith) total begins

    full : (j : ℕ) → j < length v.keys → is_filled v origin (1 + length (asked_sources v origin)) j ≡ true
    full = all_filled v origin (1 + length (asked_sources v origin)) (omega arith)

    pub whole : AllByRecursion (IsWhole (length v.keys)) (whole_answer v tables origin seeds)
    whole = all_from_has (IsWhole (length v.keys)) (whole_answer v tables origin seeds) (λ p h. record { width = filling.width p h; filled = λ part below. filling.filled p part h below ∙ full part below })

    pub differ : AllDifferInKey v.keys (whole_answer v tables origin seeds)
    differ = filling.differ

    pub both : (r : Codes) → Has r (projected v (whole_answer v tables origin seeds)) ↔ IsSeededRow v tables origin seeds r
    both r = (forth, back)
      where
        forth : Has r (projected v (whole_answer v tables origin seeds)) → IsSeededRow v tables origin seeds r
        forth h =
            let a = found_seeded v is tables good seeds origin [] (is_filled v origin (1 + length (asked_sources v origin))) (whole_answer v tables origin seeds) filling full r
            (subst (λ ps. Has r (projected v ps)) (sym (none_struck v (whole_answer v tables origin seeds))) h) in
            record { choice = a.choice; is = a.is; seed = a.seed }

        back : IsSeededRow v tables origin seeds r → Has r (projected v (whole_answer v tables origin seeds))
        back s =
            let first : IsFound (map (seed (length v.keys) origin) seeds) s.choice = record {
              partial = seed (length v.keys) origin (get_or s.choice origin []);
              there = has_mapped (seed (length v.keys) origin) (get_or s.choice origin []) seeds s.seed;
              part = seed_part (length v.keys) origin s.choice (s.is.choice_of.width ∙ good.parts) lt;
            } in
            let a = finds_all s.choice s.is.choice_of s.is.meets (length (asked_sources v origin)) 1 (map (seed (length v.keys) origin) seeds) (omega arith) total first in
            subst (λ ps. Has r (projected v ps)) (none_struck v (whole_answer v tables origin seeds))
            (has_same _ r _ (sym s.is.row) (in_found v is tables good seeds origin [] (is_filled v origin (1 + length (asked_sources v origin))) (whole_answer v tables origin seeds) filling full a.partial s.choice a.there a.part (λ j below h. has_none _ h)))

pub finds : StepsFind
finds v tables origin seeds is good lt distinct there concern r = both v is tables good origin lt seeds distinct there concern r

pub wholes : AnswersAreWhole
wholes v tables origin seeds is good lt distinct there concern = (whole v is tables good origin lt seeds distinct there concern, differ v is tables good origin lt seeds distinct there concern)
