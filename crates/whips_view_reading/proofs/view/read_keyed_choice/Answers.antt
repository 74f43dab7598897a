use Rattle.serde_json.specs.View.{view}
use Rattle.whips_reading.specs.Places.{path_steps}
use Rattle.whips_view_reading.specs.Views.{keyed_choice}
use Rattle.whips_view_reading.proofs.Chosen.{refused_on, keyed_refused, keyed_after}
use Rattle.whips_view_reading.proofs.view.read_keyed_choice.Goals as goal

pub returns-in_err-choice : goal.returns-in_err-choice
returns-in_err-choice c =
    refused_on c.from_residual-in_err-choice.result c.in_err-choice.field-0.0 (keyed_choice c.args.basis.now c.args.numbers.now (path_steps c.args.path.now) (view c.args.value.now)) c.from_residual-in_err-choice.ensures.1
    (λ r is. keyed_refused c.args.basis.now c.basis.inside.relations.now c.basis.inside.homes.now c.basis.inside.texts.now c.basis.view_is c.args.numbers.now (path_steps c.args.path.now) (view c.args.value.now) c.in_ok-columns.columns.items c.deref.result.now c.in_ok-columns.ensures c.deref.ensures.value r (c.in_err-choice.ensures r is))

pub returns : goal.returns
returns c =
    keyed_after c.args.basis.now c.basis.inside.relations.now c.basis.inside.homes.now c.basis.inside.texts.now c.basis.view_is c.args.numbers.now (path_steps c.args.path.now) (view c.args.value.now) c.in_ok-columns.columns.items c.deref.result.now c.in_ok-columns.ensures c.deref.ensures.value c.in_ok-choice.choice c.in_ok-choice.ensures c.with_keys.result c.with_keys.ensures
