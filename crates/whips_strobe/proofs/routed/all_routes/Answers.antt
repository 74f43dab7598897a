use Rattle.std.proofs.Common.{◌≡◌, suc, length, map, ap, ◌∙◌, arith}
use Rattle.whips_lists.specs.Lists.{places_from}
use Rattle.whips_steps.specs.Steps.{asked_sources}
use Rattle.whips_view.specs.ViewDefs.{keyed}
use Rattle.whips_strobe.proofs.Routes.{values_next}
use Rattle.whips_strobe.proofs.routed.all_routes.Goals as goal

pub loop-origin-preserved : goal.loop-origin-preserved
loop-origin-preserved c =
    values_next (asked_sources (keyed c.args.view.now)) c.loop-origin.origin c.loop-origin.routes.items c.push.new.self.items c.in_ok-route.field-0
    c.loop-origin.invariant c.in_ok-route.ensures c.in_ok-push.ensures.items

pub returns : goal.returns
returns c =
    let width = c.width_of-origin-end.ensures.width in
    let within = c.loop-origin.auto.origin-end in
    let past = c.loop-origin-test.false in
    let all : c.loop-origin.origin ≡ suc (length c.args.view.now.bases) = omega (arith, width, within, past) in
    c.loop-origin.invariant ∙ ap (λ n. map (asked_sources (keyed c.args.view.now)) (places_from 0 n)) all
