use Rattle.std.proofs.Common.{◌≡◌, rules, ℕ, Some, cond, ◌∷◌, [], ◌++◌, length, map, sym, ap, ap₂, subst, ◌∙◌}
use Rattle.std.specs.VecDeque.{deque_len}
use Rattle.std.proofs.lemmas.Bool.{false≢true, eq-eqb}
use Rattle.std.specs.Map.{lookup}
use Rattle.whips_model.specs.Tuples.{Codes}
use Rattle.whips_managers.specs.Managers.{with_pending}
use Rattle.whips_open_queries.specs.Deletions.{is_entry, ArePlaced}
use Rattle.whips_open_queries.specs.OpenQueries.{query_of, AreOver}
use Rattle.whips_open_queries.proofs.Kept.{over_pending, seen_pending}
use Rattle.whips_open_queries.proofs.Placed.{placed_more}
use Rattle.whips_open_queries.proofs.queries.Queries.note_deletion.Goals as goal

pub invariant_of-self-in_default : goal.invariant_of-self-in_default
invariant_of-self-in_default c =
    let list : c.push.new.self.items ≡ c.self.inside.deleted.items ++ (c.args.part, c.args.key.now) ∷ [] = c.in_ok-push.ensures.items ∙ ap (λ k. c.self.inside.deleted.items ++ (c.args.part, k) ∷ []) c.in_ok-listed.ensures in
    let some : c.self.inside.items.items ≡ [] → ⊥ = λ e. false≢true (c.if-is_empty.ensures ∙ eq-eqb (deque_len c.self.inside.items) 0 (c.self.inside.items.ok.0 ∙ ap length e)) in
    let count : c.len-place.result ≡ length c.self.inside.deleted.items = search rules in
    let updates : (e : ℕ × Codes) → lookup (is_entry e) c.insert.new.self.entries ≡ cond (is_entry (c.args.part, c.args.key.now) e) (Some (length c.self.inside.deleted.items)) (lookup (is_entry e) c.self.inside.last.entries) =
    λ e. c.in_default.ensures.updates.0 e ∙ ap₂ (λ k n. cond (is_entry (c.args.part, k) e) (Some n) (lookup (is_entry e) c.self.inside.last.entries)) c.in_ok-own.ensures count in (
      subst (λ d. AreOver d c.self.inside.items.items) (sym list) (over_pending c.self.inside.deleted.items c.args.part c.args.key.now c.self.inside.items.items c.self.invariant.0 some),
      subst (λ d. ArePlaced d c.insert.new.self.entries) (sym list) (placed_more c.self.inside.deleted.items c.self.inside.last.entries c.insert.new.self.entries (c.args.part, c.args.key.now) c.self.invariant.1 updates),
    )

pub returns-clause-ok : goal.returns-clause-ok
returns-clause-ok c =
    ap (λ d. map (query_of d) c.self.inside.items.items) (c.in_ok-push.ensures.items ∙ ap (λ k. c.self.inside.deleted.items ++ (c.args.part, k) ∷ []) c.in_ok-listed.ensures)
    ∙ seen_pending c.self.inside.deleted.items c.args.part c.args.key.now c.self.inside.items.items c.self.invariant.0.since
    ∙ ap (map (with_pending c.args.part c.args.key.now)) c.self.view_is
