use Rattle.std.proofs.Common.{ap, ◌∙◌}
use Rattle.whips_model.specs.Relation.{value_of}
use Rattle.whips_reading.specs.Places.{path_steps}
use Rattle.whips_script_reading.proofs.Over.{slots_refused, same_refusal}
use Rattle.whips_script_reading.proofs.views.Ground.check_slots.Goals as goal

pub returns : goal.returns
returns c = λ r is. rw (← c.self.view_is)
    (same_refusal (slots_refused c.self.inside.basis.now.relations c.args.view.now c.args.slots (path_steps c.args.path.now) c.in_ok-value.field-0.rows
    (ap (λ rows. rows.rows) c.in_ok-value.ensures ∙ ap (λ db. value_of c.args.view.now.parts db) c.self.invariant.1)
    (rw c.len-2.ensures at c.if-len-slots.false))
    (rw (← c.in_member.ensures) (c.refuse.ensures r is)))
