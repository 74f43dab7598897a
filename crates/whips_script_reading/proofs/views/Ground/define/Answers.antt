use Rattle.std.proofs.Common.{inl, inr, ap, sym, ◌∙◌}
use Rattle.whips_view.specs.Refusals.{refusal_of}
use Rattle.whips_reading.specs.Places.{path_steps}
use Rattle.whips_script_reading.proofs.Over.{view_refused, same_refusal}
use Rattle.whips_script_reading.proofs.views.Ground.define.Goals as goal

pub returns-in-Err : goal.returns-in-Err
returns-in-Err c = λ r is. elim c.refuse_view.ensures [
  | inl m ↦ let no = m.1 in absurd (cc)
  | inr n ↦ rw (← c.self.view_is) (same_refusal (view_refused c.self.inside.basis.now.relations c.args.parts (path_steps c.args.path.now) c.in-Err.error (ap (λ s. refusal_of s c.args.parts) (sym c.self.invariant.0) ∙ c.in-Err.ensures.refused n.0)) (n.1 r is))
]
