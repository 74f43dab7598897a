use Rattle.std.proofs.Common.{◌<◌, List, length, arith, sym, ap, ◌∙◌}
use Rattle.std.specs.List.{list_any}
use Rattle.std.proofs.lemmas.List.{length-map}
use Rattle.whips_managers.specs.Managers.{Query}
use Rattle.whips_open_queries.specs.Deletions.{is_entry, is_from, pending_at}
use Rattle.whips_open_queries.specs.OpenQueries.{query_of}
use Rattle.whips_open_queries.proofs.Placed.{pending_seen}
use Rattle.whips_open_queries.proofs.queries.Queries.is_pending.Goals as goal

pub returns-in-Some : goal.returns-in-Some
returns-in-Some c =
    let lt : c.args.i < length c.self.inside.items.items = omega (arith, ap length c.self.view_is, length-map c.self.inside.items.items (query_of c.self.inside.deleted.items)) in
    let behind = pending_seen c.self.inside.deleted.items c.self.inside.items.items c.args.i c.index.result.now lt c.index.ensures in
    ap (is_from c.index.result.now.since) c.in-Some.ensures.value
    ∙ sym (c.self.invariant.1 c.args.entry.now c.index.result.now.since)
    ∙ sym (ap (list_any (is_entry c.args.entry.now)) behind)
    ∙ ap (λ (q : List Query). list_any (is_entry c.args.entry.now) (pending_at q c.args.i)) c.self.view_is

pub returns-in-None : goal.returns-in-None
returns-in-None c =
    let lt : c.args.i < length c.self.inside.items.items = omega (arith, ap length c.self.view_is, length-map c.self.inside.items.items (query_of c.self.inside.deleted.items)) in
    let behind = pending_seen c.self.inside.deleted.items c.self.inside.items.items c.args.i c.index.result.now lt c.index.ensures in
    ap (is_from c.index.result.now.since) c.in-None.ensures.value
    ∙ sym (c.self.invariant.1 c.args.entry.now c.index.result.now.since)
    ∙ sym (ap (list_any (is_entry c.args.entry.now)) behind)
    ∙ ap (λ (q : List Query). list_any (is_entry c.args.entry.now) (pending_at q c.args.i)) c.self.view_is
