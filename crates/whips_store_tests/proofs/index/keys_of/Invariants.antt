use Rattle.std.proofs.Common.{◌≡◌, map, take}
use Rattle.whips_net.specs.Made.{change_key}
use Rattle.whips_store_tests.proofs.index.keys_of.Given as goal

abbrev pub invariant-loop-change : goal.invariant-loop-change
invariant-loop-change l = l.keys.items ≡ map (change_key l.schema.key) (take l.change-index l.changes)
