use Rattle.std.proofs.Common.{◌≡◌, take, map, fold}
use Rattle.serde_json.specs.View.{view}
use Rattle.whips_texts.specs.Dictionary.{with_relation}
use Rattle.whips_texts.proofs.collect.add_relations.Given as goal

abbrev pub invariant-loop-relation : goal.invariant-loop-relation
invariant-loop-relation l = l.texts ≡ fold with_relation l.initial.texts (map view (take l.relation-index l.items))
