use Rattle.std.proofs.Common.{ap, ◌∙◌}
use Rattle.serde_json.specs.View.{view}
use Rattle.whips_reading.specs.Places.{path_steps}
use Rattle.whips_script_reading.specs.Views.{view_added}
use Rattle.whips_script_reading.proofs.Over.{over_bases, handed_on, view_stops}
use Rattle.whips_script_reading.proofs.views.Ground.add_view.Goals as goal

pub check_slots-requires : goal.check_slots-requires
check_slots-requires c = over_bases c.args.self.now.relations c.name.inside.parts (path_steps c.args.path.now) c.in_ok-view.view c.in_ok-view.ensures

pub returns-in_err-view-clause-made : goal.returns-in_err-view-clause-made
returns-in_err-view-clause-made c =
    handed_on _ c.from_residual-in_err-view.result c.in_err-view.field-0.0 (view_added c.args.self.now c.args.views.now (path_steps c.args.path.now) (view c.args.value.now)) c.from_residual-in_err-view.ensures.1
    (λ r is. view_stops c.args.self.now c.self.inside.basis.now c.self.view_is c.args.views.now c.deref.result.now (c.deref.ensures.value ∙ ap (λ v. v.names) c.views.view_is) (path_steps c.args.path.now) (view c.args.value.now) c.in_ok-name.field-0 c.name.inside.parts (ap (λ f. f.parts) c.name.view_is) r c.in_ok-name.ensures (c.in_err-view.ensures r is))
