-- The facts of a script meet the premises of the laws on the pipeline.
use Rattle.whips_facts.specs.Scripts.{Script}
use Rattle.whips_facts.specs.ScriptFacts.{facts_of}
use Rattle.whips_facts.specs.Values.{AreAtSources}
use Rattle.whips_drain_laws.specs.Drain.{IsRoomy}
use Rattle.whips_settled_laws.specs.Settled.{AsksSourcesOfRun}

abbrev pub FactsAreRoomy : Type 0
FactsAreRoomy = (s : Script) → IsRoomy (facts_of s)

abbrev pub FactsAskSourcesOfRun : Type 0
FactsAskSourcesOfRun = (s : Script) → AreAtSources s → AsksSourcesOfRun (facts_of s)
