use Rattle.std.proofs.Common.{map, ap, ◌∙◌}
use Rattle.std.proofs.lemmas.List.{take_all}
use Rattle.whips_steps.specs.Steps.{StepData}
use Rattle.whips_view.specs.ViewDefs.{keyed}
use Rattle.whips_strobe.proofs.Routes.{sources_are}
use Rattle.whips_strobe.proofs.routed.route.Goals as goal

pub returns : goal.returns
returns c =
    let all = c.loop-step.invariant ∙ ap (map (λ (s : StepData). s.source)) (take_all c.loop-step.step-index c.deref-step-items.result.now c.loop-step-test.false ∙ c.deref-step-items.ensures.value) in
    c.of.ensures ∙ sources_are (keyed c.args.view.now) c.args.origin c.in_ok-steps.steps.items c.loop-step.sources.items c.in_ok-steps.ensures all
