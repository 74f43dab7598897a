use Rattle.std.proofs.Common.{length, refl}
use Rattle.whips_core.proofs.Places.{written, past}
use Rattle.whips_contents.specs.Events.{source_after_commit}
use Rattle.whips_core.proofs.queues.commit_at.Goals as goal

pub returns-in_ok-commit : goal.returns-in_ok-commit
returns-in_ok-commit g c = written (length c.args.sources.now) c.args.sources.now c.args.y refl (source_after_commit) _ c.commit.new.self c.if-at-sources.true c.in_ok-commit.ensures

pub returns-else-at-sources : goal.returns-else-at-sources
returns-else-at-sources g c = past (length c.args.sources.now) c.args.sources.now c.args.y refl (source_after_commit) c.if-at-sources.false
