use Rattle.std.proofs.Common.{◌≤◌, List, length, rules, subst, sym}
use Rattle.whips_open_queries.specs.OpenQueries.{AreOver}
use Rattle.whips_open_queries.specs.declared.queries.OpenQuery.{OpenQuery}
use Rattle.whips_open_queries.proofs.Kept.{over_more}
use Rattle.whips_open_queries.proofs.queries.Queries.begin.Goals as goal

pub invariant_of-self-2 : goal.invariant_of-self-2
invariant_of-self-2 c =
    let since : c.len-since.result ≤ length c.self.inside.deleted.items = search rules in
    (subst (λ l. AreOver c.self.inside.deleted.items l) (sym {A = List OpenQuery} c.in_ok-push_back.ensures.items) (over_more c.self.inside.deleted.items c.self.inside.items.items _ c.self.invariant.0 since (rw c.self.view_is c.requires)), c.self.invariant.1)
