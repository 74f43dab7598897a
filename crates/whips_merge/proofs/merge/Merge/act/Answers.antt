use Rattle.std.proofs.Common.{◌<◌, ℕ, Bool, false, List, length, sym, ap, ap₂, subst, ◌∙◌, arith}
use Rattle.whips_actions.specs.declared.action.ActionList.{ActionList}
use Rattle.whips_merge.specs.Taking.{merge_of}
use Rattle.whips_merge.specs.Merging.{MergeState, with_settled, after_act}
use Rattle.whips_merge.specs.Holding.{rows_of, transactions_of, state_of}
use Rattle.whips_merge.proofs.Forming.{pushed_at}
use Rattle.whips_merge.proofs.merge.Merge.act.Goals as goal

pub returns-clause-taken : goal.returns-clause-taken
returns-clause-taken c =
    let list = c.args.list in
    let h = c.self.inside.held in
    let whole = c.self.invariant c.if-self.false in
    let in_lists : list.view < length h.lists.items = subst (λ (s : MergeState). list.view < length s.lists) (sym c.self.view_is) c.requires in
    let in_waiting : list.view < length h.waiting.items = omega (arith, in_lists, whole.waiting_views, whole.list_views) in
    let before : List (List ℕ) → List (List ActionList) → MergeState = λ waiting lists. record { merge = merge_of h.table.table.last_announced h.table.table.rows waiting (rows_of h.sets.items); lists = lists; cut = h.cut.items; transactions = transactions_of h.sets.items; is_stopped = false } in
    let was : Bool → MergeState = λ b. record (state_of h) { is_stopped = b } in
    c.in_ok-settle.ensures.settled
    ∙ ap₂ (λ waiting lists. with_settled (before waiting lists))
    (pushed_at h.waiting.items list.view list.upto c.index_mut.result.now c.push.new.self in_waiting c.index_mut.ensures.value c.in_ok-push.ensures.ok)
    (pushed_at h.lists.items list.view list c.index_mut-2.result.now c.push-2.new.self in_lists c.index_mut-2.ensures.value c.in_ok-push-2.ensures.ok)
    ∙ ap (after_act list) (sym (ap was c.if-self.false) ∙ c.self.view_is)
