use Rattle.std.proofs.Common.{◌≡◌, take, map, fold}
use Rattle.serde_json.specs.View.{view}
use Rattle.whips_texts.specs.Dictionary.{with_view}
use Rattle.whips_texts.proofs.collect.add_views.Given as goal

abbrev pub invariant-loop-definition : goal.invariant-loop-definition
invariant-loop-definition l = l.texts ≡ fold with_view l.initial.texts (map view (take l.definition-index l.items))
