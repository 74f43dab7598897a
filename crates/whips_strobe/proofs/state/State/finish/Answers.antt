use Rattle.std.proofs.Common.{not, length, map}
use Rattle.std.specs.List.{list_any}
use Rattle.whips_model.specs.Tuples.{Columns}
use Rattle.whips_steps.specs.Answers.{has_key_at, IsWhole}
use Rattle.whips_steps.proofs.Fills.{differ_filter}
use Rattle.whips_view.specs.ViewDefs.{keyed}
use Rattle.whips_open_queries.specs.Deletions.{pending_at}
use Rattle.whips_strobe.proofs.Replies.{all_filter}
use Rattle.whips_strobe.proofs.state.State.finish.Goals as goal

pub put_rows-requires-clause-whole : goal.put_rows-requires-clause-whole
put_rows-requires-clause-whole c = rw c.in_ok-left.ensures (all_filter (IsWhole (length c.args.view.now.bases)) (λ p. not (list_any (has_key_at (keyed c.args.view.now) p) (pending_at c.self.inside.queries c.args.i))) c.args.partials.now c.requires.whole)

pub put_rows-requires-clause-keys : goal.put_rows-requires-clause-keys
put_rows-requires-clause-keys c = rw c.in_ok-left.ensures (differ_filter (map (λ (b : Columns). b.key) c.args.view.now.bases) (λ p. not (list_any (has_key_at (keyed c.args.view.now) p) (pending_at c.self.inside.queries c.args.i))) c.args.partials.now c.requires.keys)
