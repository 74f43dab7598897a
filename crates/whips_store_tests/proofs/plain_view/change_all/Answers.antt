use Rattle.std.proofs.Common.{refl, ◌∙◌, arith}
use Rattle.whips_store_tests.proofs.OneView.{changed_sound, changed_columns}
use Rattle.whips_store_tests.proofs.plain_view.change_all.Goals as goal

pub loop-turn-preserved : goal.loop-turn-preserved
loop-turn-preserved c = rw c.change_next.ensures.changed (changed_columns 2 0 _ ∙ c.loop-turn.invariant.0, changed_sound 2 1 0 _ (omega arith) refl c.loop-turn.invariant.1)
