use Rattle.std.proofs.Common.{◌≡◌, drop}
use Rattle.whips_states.specs.States.{applied, AreValid}
use Rattle.whips_source.proofs.made.make_all.Given as goal

abbrev pub invariant-loop-update : goal.invariant-loop-update
invariant-loop-update l = record {
  valid : AreValid l.relations.items (drop l.update-index l.updates);
  rest : applied l.relations.items (drop l.update-index l.updates) ≡ applied l.initial.relations.items l.updates;
}
