use Rattle.std.proofs.Common.{◌≡◌}
use Rattle.whips_board_store.proofs.Changed.{with_row}
use Rattle.whips_board_store.proofs.changes.store_row.Given as goal

abbrev pub invariant-loop-k : goal.invariant-loop-k
invariant-loop-k g l = l.words ≡ with_row l.initial.words l.place l.k l.row
