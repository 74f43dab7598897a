use Rattle.std.proofs.Common.{◌≡◌, take, map, fold}
use Rattle.serde_json.specs.View.{view}
use Rattle.whips_texts.specs.Dictionary.{with_source}
use Rattle.whips_texts.proofs.collect.add_sources.Given as goal

abbrev pub invariant-loop-source : goal.invariant-loop-source
invariant-loop-source l = l.texts ≡ fold with_source l.initial.texts (map view (take l.source-index l.items))
