use Rattle.std.proofs.Common.{◌≡◌, length, map, take}
use Rattle.whips_store.specs.Stores.{ViewState}
use Rattle.whips_world.proofs.lines.row_counts.Given as goal

abbrev pub invariant-loop-x : goal.invariant-loop-x
invariant-loop-x g l = l.counts.items ≡ map (λ (v : ViewState). length v.current) (take l.x (g.S.Store.state l.store).views)
