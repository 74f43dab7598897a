use Rattle.std.proofs.Common.{◌≡◌, length, map, take}
use Rattle.whips_contents.specs.Contents.{LoadedSource}
use Rattle.whips_world.proofs.runs.transactions_left.Given as goal

abbrev pub invariant-loop-source : goal.invariant-loop-source
invariant-loop-source g l = l.counts.items ≡ map (λ (s : LoadedSource). length s.site.left) (take l.source-index l.sources)
