use Rattle.std.proofs.Common.{◌<◌, length, arith, ap, ◌∙◌}
use Rattle.std.proofs.lemmas.List.{length-map}
use Rattle.whips_open_queries.specs.OpenQueries.{query_of}
use Rattle.whips_lists.specs.Lists.{changed_at}
use Rattle.whips_managers.specs.Managers.{moved_on}
use Rattle.whips_open_queries.proofs.Kept.{over_moved, seen_moved}
use Rattle.whips_open_queries.proofs.queries.Queries.move_on.Goals as goal

pub invariant_of-self : goal.invariant_of-self
invariant_of-self c =
    let lt : c.args.i < length c.self.inside.items.items = omega (arith, ap length c.self.view_is, length-map c.self.inside.items.items (query_of c.self.inside.deleted.items)) in
    (over_moved c.self.inside.deleted.items c.args.partials c.self.inside.items.items c.args.i c.index_mut-query.result.now c.self.invariant.0 lt c.index_mut-query.ensures.value, c.self.invariant.1)

pub returns : goal.returns
returns c =
    let lt : c.args.i < length c.self.inside.items.items = omega (arith, ap length c.self.view_is, length-map c.self.inside.items.items (query_of c.self.inside.deleted.items)) in
    seen_moved c.self.inside.deleted.items c.args.partials c.self.inside.items.items c.args.i c.index_mut-query.result.now lt c.index_mut-query.ensures.value
    ∙ ap (changed_at c.args.i (λ q. moved_on q c.args.partials)) c.self.view_is
