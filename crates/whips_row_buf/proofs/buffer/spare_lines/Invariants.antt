use Rattle.std.proofs.Common.{◌≡◌, ◌≤◌, length}
use Rattle.std.specs.Prelude.{vec_capacity}
use Rattle.std.specs.List.{AllByRecursion}
use Rattle.whips_row_buf.proofs.buffer.spare_lines.Given as goal

abbrev pub invariant-loop : goal.invariant-loop
invariant-loop l = (length l.spare.items ≡ l.counter) × AllByRecursion (λ t. length t ≡ l.width) l.spare.items × (l.room ≤ vec_capacity l.spare)
