use Rattle.std.proofs.Common.{length}
use Rattle.whips_flow.specs.Work.{work}
use Rattle.whips_facts.specs.ScriptFacts.{facts_of}
use Rattle.whips_contents.specs.Tokens.{tokens}
use Rattle.whips_world.specs.Runs.{IsOnWay}
use Rattle.whips_world.proofs.events.drain.Given as goal

abbrev pub invariant-loop-e : goal.invariant-loop-e
invariant-loop-e g l = IsOnWay g.K.RecordSink.told g.at l.core l.sink

abbrev pub decreases-loop-e : goal.decreases-loop-e
decreases-loop-e g l = work (facts_of g.at.script) (tokens (length g.at.script.setup.views) l.core.loaded)
