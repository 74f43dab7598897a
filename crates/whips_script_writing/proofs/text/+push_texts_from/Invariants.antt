use Rattle.std.proofs.Common.{length}
use Rattle.whips_script_writing.proofs.text.+push_texts_from.Given as goal

abbrev pub decreases-push_texts_from : goal.decreases-push_texts_from
decreases-push_texts_from l = length l.texts.now
