-- Worked partial choices.
use Rattle.std.proofs.Common.{◌≡◌, ◌≢◌, ℕ, zero, suc, ◌<◌, true, inl, inr, None, is_some, [], ◌∷◌, get_or, refl, ap, arith}
use Rattle.std.specs.List.{AllByRecursion}
use Rattle.whips_lists.specs.Members.{AreDistinct}
use Rattle.whips_model.specs.Tuples.{Codes}
use Rattle.whips_lists.proofs.Members.{has_none, has_cases}
use Rattle.whips_choices.specs.Partials.{Partial, slot, seed}
use Rattle.whips_steps.specs.Answers.{IsWhole, DifferInKey, AllDifferInKey}

whole_one : (t : Codes) → IsWhole 1 (seed 1 0 t)
whole_one t = record { width = refl; filled = filled }
  where
    filled : (part : ℕ) → part < 1 → is_some (get_or (seed 1 0 t) part None) ≡ true
    filled zero lt = refl
    filled (suc part) lt = absurd (omega arith)

-- two partial choices of one relation
pub whole_two : (t u : Codes) → AllByRecursion (IsWhole 1) (seed 1 0 t ∷ seed 1 0 u ∷ [])
whole_two t u = (whole_one t, (whole_one u, tt))

pub differ_two : (t u : Codes) → get_or t 0 0 ≢ get_or u 0 0 → AllDifferInKey ((0 ∷ []) ∷ []) (seed 1 0 t ∷ seed 1 0 u ∷ [])
differ_two t u ne = (λ q h. elim (has_cases q (seed 1 0 u) [] h) [ inl same ↦ first q same | inr k ↦ absurd (has_none q k) ], ((λ q h. absurd (has_none q h)), tt))
  where
    first : (q : Partial) → q ≡ seed 1 0 u → DifferInKey ((0 ∷ []) ∷ []) (seed 1 0 t) q
    first q same = record {
      part = 0;
      left = t;
      right = u;
      in_left = refl;
      in_right = ap (λ z. slot z 0) same;
      differ = λ e. ne (ap (λ l. get_or l 0 0) e);
    }

-- two parts that differ
pub distinct_two : (i j : ℕ) → i ≢ j → AreDistinct (i ∷ j ∷ [])
distinct_two i j ne = (λ h. elim (has_cases i j [] h) [ inl same ↦ ne same | inr k ↦ has_none i k ], (has_none j, tt))
