use Rattle.std.proofs.Common.{◌≡◌, take, map}
use Rattle.whips_contents.specs.Events.{changes_of}
use Rattle.whips_core.proofs.changes.changes_by.Given as goal

abbrev pub invariant-loop-x : goal.invariant-loop-x
invariant-loop-x g l = map (λ v. (v.0, v.1.items)) l.views.items ≡ take l.x (changes_of 0 l.setup.views (g.S.Store.state l.store).views l.lists)
