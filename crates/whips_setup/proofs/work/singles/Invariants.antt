use Rattle.std.proofs.Common.{◌≡◌, [], ◌∷◌, map}
use Rattle.whips_setup.proofs.work.singles.Given as goal

abbrev pub invariant-loop-update : goal.invariant-loop-update
invariant-loop-update l = l.made.items ≡ map (λ u. u ∷ []) l.yielded
