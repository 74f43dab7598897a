use Rattle.std.proofs.Common.{◌≡◌, take, map, fold}
use Rattle.serde_json.specs.View.{view}
use Rattle.whips_texts.specs.Dictionary.{with_condition}
use Rattle.whips_texts.proofs.collect.add_conditions.Given as goal

abbrev pub invariant-loop-condition : goal.invariant-loop-condition
invariant-loop-condition l = l.texts ≡ fold with_condition l.initial.texts (map view (take l.condition-index l.items))
