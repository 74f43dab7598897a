use Rattle.std.proofs.Common.{◌≡◌, ◌<◌, [], length, map, arith, subst, sym, ap, ◌∙◌}
use Rattle.std.specs.List.{remove}
use Rattle.std.specs.VecDeque.{deque_len}
use Rattle.std.proofs.lemmas.Bool.{false≢true, eq-eqb}
use Rattle.std.proofs.lemmas.List.{length-map}
use Rattle.whips_open_queries.specs.OpenQueries.{query_of, AreOver}
use Rattle.whips_open_queries.proofs.Kept.{over_removed, seen_removed, removed_is}
use Rattle.whips_open_queries.proofs.queries.Queries.close.Goals as goal

pub invariant_of-self-else-is_empty : goal.invariant_of-self-else-is_empty
invariant_of-self-else-is_empty c =
    let size = ap length c.self.view_is in
    let lt : c.args.i < deque_len c.self.inside.items = omega (arith, size, c.self.inside.items.ok.0, length-map c.self.inside.items.items (query_of c.self.inside.deleted.items)) in
    let left = removed_is _ c.self.inside.items.items c.remove-query.new.self.items c.args.i (deque_len c.self.inside.items) c.remove-query.ensures.items c.remove-query.ensures.variant lt in
    let some : remove c.self.inside.items.items c.args.i ≡ [] → ⊥ = λ e. false≢true (c.if-is_empty.ensures ∙ eq-eqb (deque_len c.remove-query.new.self) 0 (c.remove-query.new.self.ok.0 ∙ ap length (left ∙ e))) in
    (subst (λ l. AreOver c.self.inside.deleted.items l) (sym left) (over_removed c.self.inside.deleted.items c.self.inside.items.items c.args.i c.self.invariant.0 some), c.self.invariant.1)

pub returns : goal.returns
returns c =
    let size = ap length c.self.view_is in
    let lt : c.args.i < deque_len c.self.inside.items = omega (arith, size, c.self.inside.items.ok.0, length-map c.self.inside.items.items (query_of c.self.inside.deleted.items)) in
    let left = removed_is _ c.self.inside.items.items c.remove-query.new.self.items c.args.i (deque_len c.self.inside.items) c.remove-query.ensures.items c.remove-query.ensures.variant lt in
    ap (map (query_of c.self.inside.deleted.items)) left ∙ seen_removed c.self.inside.deleted.items c.self.inside.items.items c.args.i ∙ ap (λ l. remove l c.args.i) c.self.view_is
