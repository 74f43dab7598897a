use Rattle.std.proofs.Common.{◌≡◌, take, map, fold}
use Rattle.serde_json.specs.View.{view}
use Rattle.whips_texts.specs.Dictionary.{with_value}
use Rattle.whips_texts.proofs.collect.add_values.Given as goal

abbrev pub invariant-loop-value : goal.invariant-loop-value
invariant-loop-value l = l.texts ≡ fold with_value l.initial.texts (map view (take l.value-index l.items))
