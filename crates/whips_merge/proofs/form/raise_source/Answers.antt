use Rattle.std.proofs.Common.{ap, ◌∙◌}
use Rattle.std.specs.Prelude.{max}
use Rattle.std.proofs.Math.ListN.{set}
use Rattle.whips_merge.proofs.Painting.{changed_set, changed_past}
use Rattle.whips_merge.proofs.form.raise_source.Goals as goal

pub returns-then-at-cut : goal.returns-then-at-cut
returns-then-at-cut c = ap (set c.args.cut.now c.args.source) c.max.ensures ∙ changed_set (max c.args.place) c.args.cut.now c.args.source c.if-at-cut.true

pub returns-else-at-cut : goal.returns-else-at-cut
returns-else-at-cut c = changed_past (max c.args.place) c.args.cut.now c.args.source c.if-at-cut.false
