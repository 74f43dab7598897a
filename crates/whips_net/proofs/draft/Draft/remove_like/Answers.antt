use Rattle.whips_net.proofs.Drafts.{draft_without_like}
use Rattle.whips_net.proofs.draft.Draft.remove_like.Goals as goal

pub invariant_of-self-2 : goal.invariant_of-self-2
invariant_of-self-2 c =
    let marked = rw c.in_ok-copy.ensures at c.in_ok-mark.ensures.marked in
    rw c.in_ok-delete_like.ensures.ok (draft_without_like c.self.inside.touched c.mark.new.touched c.self.inside.before.now c.self.inside.after c.args.row.now c.self.invariant c.in_ok-mark.ensures.columns marked)
