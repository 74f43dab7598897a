use Rattle.std.proofs.Common.{◌≡◌, ◌++◌, take}
use Rattle.whips_rel.proofs.chunk.Chunk.joined_to.Given as goal

abbrev pub invariant-loop-row : goal.invariant-loop-row
invariant-loop-row l = l.rows.items ≡ l.self ++ take l.row-index l.row-items
