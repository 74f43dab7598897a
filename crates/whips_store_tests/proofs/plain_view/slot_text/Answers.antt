use Rattle.std.proofs.Common.{arith}
use Rattle.whips_store_tests.proofs.OneView.{slot_kept, slot_wide}
use Rattle.whips_store_tests.proofs.plain_view.slot_text.Goals as goal

pub look-requires-clause-kept : goal.look-requires-clause-kept
look-requires-clause-kept c = slot_kept 2 1 _ c.requires.records _ (omega arith)

pub look-requires-clause-widths : goal.look-requires-clause-widths
look-requires-clause-widths c = slot_wide _ _ c.requires.widths _ (omega arith)
