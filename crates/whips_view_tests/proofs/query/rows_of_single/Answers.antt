use Rattle.std.proofs.Common.{[], ◌∷◌}
use Rattle.whips_view_tests.proofs.Choices.{whole_two, differ_two}
use Rattle.whips_view_tests.proofs.query.rows_of_single.Goals as goal

pub project-requires-clause-whole : goal.project-requires-clause-whole
project-requires-clause-whole c = rw (c.in_ok-partials.ensures, c.requires) (whole_two _ _)

pub project-requires-clause-keys : goal.project-requires-clause-keys
project-requires-clause-keys c = rw (c.in_ok-partials.ensures, c.requires, c.in_ok-first.ensures, c.in_ok-second.ensures) (differ_two (4 ∷ 1 ∷ []) (2 ∷ 3 ∷ []) (λ e. absurd (cc)))
