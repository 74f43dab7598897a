use Rattle.std.proofs.Common.{◌≡◌, nat_lt, drop}
use Rattle.std.specs.List.{list_all}
use Rattle.whips_setup.proofs.limits.are_sources.Given as goal

abbrev pub invariant-loop-home : goal.invariant-loop-home
invariant-loop-home l = list_all (λ home. nat_lt home l.sources) (drop l.home-index l.homes) ≡ list_all (λ home. nat_lt home l.sources) l.homes
