use Rattle.std.proofs.Common.{rules, ◌∷◌, [], length, ◌∙◌}
use Rattle.std.specs.List.Sorted.{IsSearchInRange}
use Rattle.std.proofs.lemmas.Fn.{always_returns_same}
use Rattle.whips_model.specs.Tuples.{codes_cmp}
use Rattle.whips_open_queries.proofs.Found.{name, found}
use Rattle.whips_open_queries.proofs.queries.Queries.place_of.Goals as goal

pub returns : goal.returns
returns c =
    let by_name = c.binary_search_by.ensures.position (λ o. codes_cmp (name o) (c.args.transaction ∷ c.args.origin ∷ [])) (always_returns_same _ _ _ (λ a r g called. search rules)) in
    let bound : IsSearchInRange c.binary_search_by.result (length c.self.inside.items.items) = search rules in
    let is = found c.self.inside.deleted.items c.args.transaction c.args.origin c.self.inside.items.items c.binary_search_by.result c.self.invariant.0.in_order bound by_name in
    rw (← c.self.view_is) (record { place = c.ok.ensures.value ∙ is; in_order = c.self.invariant.0.in_order })
