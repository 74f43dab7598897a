use Rattle.std.proofs.Common.{◌≡◌, None, List, [], ◌∷◌, length, subst, sym}
use Rattle.std.specs.List.{AllByRecursion}
use Rattle.whips_choices.specs.Partials.{Partial, slot}
use Rattle.whips_choices.proofs.Parts.{seed_width}
use Rattle.whips_manager_tests.proofs.Told.{others_free}
use Rattle.whips_manager_tests.proofs.messages.extended.Goals as goal

pub extend-requires-clause-wide : goal.extend-requires-clause-wide
extend-requires-clause-wide c =
    subst (λ (ps : List Partial). AllByRecursion (λ p. length p ≡ length c.args.view.now.bases) ps) (sym c.in_ok-begun.ensures)
    (seed_width (length c.args.view.now.bases) c.args.origin (c.args.codes.0 ∷ c.args.codes.1 ∷ []), tt)

pub extend-requires-clause-free : goal.extend-requires-clause-free
extend-requires-clause-free c =
    subst (λ (ps : List Partial). AllByRecursion (λ p. AllByRecursion (λ i. slot p i ≡ None) c.args.parts.now) ps) (sym c.in_ok-begun.ensures)
    (others_free (length c.args.view.now.bases) c.args.origin (c.args.codes.0 ∷ c.args.codes.1 ∷ []) c.args.parts.now c.requires.others, tt)
