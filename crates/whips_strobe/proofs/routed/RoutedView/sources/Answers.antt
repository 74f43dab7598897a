use Rattle.std.proofs.Common.{◌≡◌, ◌≤◌, length, arith, ap, ◌∙◌}
use Rattle.whips_steps.specs.Steps.{asked_sources}
use Rattle.whips_view.specs.ViewDefs.{keyed}
use Rattle.whips_strobe.specs.Routes.{routes_of}
use Rattle.whips_strobe.proofs.Routes.{route_there, route_is, route_few}
use Rattle.whips_strobe.proofs.routed.RoutedView.sources.Goals as goal

pub index-requires : goal.index-requires
index-requires c =
    let there = route_there c.args.self.now c.self.inside.routes.items c.width.result c.args.origin c.min-place.result (c.self.invariant ∙ ap routes_of c.self.view_is) c.width.ensures.width c.min-place.ensures in
    omega (arith, there, c.self.inside.routes.ok.0)

pub returns-clause-sources : goal.returns-clause-sources
returns-clause-sources c =
    c.as_slice.ensures ∙ route_is c.args.self.now c.self.inside.routes.items c.width.result c.args.origin c.min-place.result c.index.result.now (c.self.invariant ∙ ap routes_of c.self.view_is) c.width.ensures.width c.min-place.ensures c.index.ensures

pub returns-clause-few : goal.returns-clause-few
returns-clause-few c =
    let are : c.as_slice.result.now ≡ asked_sources (keyed c.args.self.now) c.args.origin =
    c.as_slice.ensures ∙ route_is c.args.self.now c.self.inside.routes.items c.width.result c.args.origin c.min-place.result c.index.result.now (c.self.invariant ∙ ap routes_of c.self.view_is) c.width.ensures.width c.min-place.ensures c.index.ensures in
    let width = c.width.ensures.width in
    let few = c.width.ensures.few in
    let bases : length c.args.self.now.bases ≤ 4 = omega arith in
    route_few c.args.self.now c.args.origin c.as_slice.result.now are bases
