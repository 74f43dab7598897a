use Rattle.std.proofs.Common.{rules}
use Rattle.std.proofs.lemmas.Fn.{always_returns_same}
use Rattle.whips_model.specs.Tuples.{codes_cmp, at_columns}
use Rattle.whips_model.proofs.Keyed.{searched, finds_or_misses}
use Rattle.whips_view.proofs.net.place.Goals as goal

pub returns : goal.returns
returns c =
    let by_key = c.binary_search_by.ensures.position (λ t. codes_cmp (at_columns c.args.schema.now.key t) (at_columns c.args.schema.now.key c.args.tuple.now)) (always_returns_same _ _ _ (λ a r g called. search rules)) in
    let found = searched c.args.schema.now.key c.args.rows.now (at_columns c.args.schema.now.key c.args.tuple.now) c.binary_search_by.result c.requires c.binary_search_by.ensures.bound by_key in
    let missed = finds_or_misses c.args.schema.now.key c.args.rows.now (at_columns c.args.schema.now.key c.args.tuple.now) c.binary_search_by.result c.requires c.binary_search_by.ensures.bound by_key in
    record { found = found.0; absent = missed.1 }
