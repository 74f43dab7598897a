use Rattle.std.proofs.Common.{◌≡◌, take}
use Rattle.whips_flow.specs.Cuts.{cut_after}
use Rattle.whips_merge.proofs.form.raise_cut.Given as goal

abbrev pub invariant-loop-row : goal.invariant-loop-row
invariant-loop-row l = l.cut ≡ cut_after l.initial.cut (take l.row-index l.rows)
