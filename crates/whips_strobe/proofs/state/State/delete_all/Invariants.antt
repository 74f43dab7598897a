use Rattle.std.proofs.Common.{◌≡◌, take}
use Rattle.whips_managers.specs.Managers.{with_deletions}
use Rattle.whips_strobe.proofs.state.State.delete_all.Given as goal

abbrev pub invariant-loop-entry : goal.invariant-loop-entry
invariant-loop-entry l = l.self ≡ with_deletions l.initial.self (take l.entry-index l.keys)
