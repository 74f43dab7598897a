use Rattle.std.proofs.Common.{◌≡◌, ℕ, zero, suc, ◌<◌, [], ◌∷◌, length, Some, is_some, refl, sym, ap, arith}
use Rattle.whips_model.specs.Tuples.{Codes}
use Rattle.whips_choices.specs.Partials.{seed, slot}
use Rattle.whips_steps.specs.Steps.{asked_sources, is_filled}
use Rattle.whips_view.specs.ViewDefs.{keyed}
use Rattle.whips_view.specs.Widths.{widths_of}
use Rattle.std.specs.Prelude.{slice_index}
use Rattle.whips_source.specs.Asks.{IsAskTo}
use Rattle.whips_view_tests.specs.Worked.{pair_view}
use Rattle.whips_view_tests.proofs.source.answered.Goals as goal

seed_filled : (part : ℕ) → part < 2 → is_some (slot (seed 2 0 (1 ∷ 5 ∷ [])) part) ≡ is_filled (keyed pair_view) 0 1 part
unfolding is_filled
seed_filled zero lt = refl
seed_filled (suc zero) lt = refl
seed_filled (suc (suc part)) lt = absurd (omega arith)

seed_wide : (part : ℕ) (t : Codes) → slot (seed 2 0 (1 ∷ 5 ∷ [])) part ≡ Some t → length t ≡ slice_index (widths_of pair_view) part
seed_wide zero t e = let same : 1 ∷ 5 ∷ [] ≡ t = cc in ap length (sym same)
seed_wide (suc zero) t e = absurd (cc)
seed_wide (suc (suc part)) t e = absurd (cc)

seed_asked : IsAskTo (pair_view ∷ []) 1 (record { view = 0; update = 3; origin = 0; step = 1; partials = seed 2 0 (1 ∷ 5 ∷ []) ∷ [] })
unfolding asked_sources
seed_asked = record { view = pair_view; there = refl; is = record { origin = omega arith; first = omega arith; last = omega arith; filled = (record { parts = refl; filled = seed_filled; tuples = seed_wide }, tt) }; asked = refl }

pub answer-requires : goal.answer-requires
answer-requires c = rw (c.requires.source, c.requires.ask) seed_asked
