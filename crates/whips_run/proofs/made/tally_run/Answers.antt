use Rattle.std.proofs.Common.{ap, ◌∙◌}
use Rattle.whips_reports.specs.Reported.{reported, run_of}
use Rattle.whips_tally.specs.Tallies.{Tally, tally_after}
use Rattle.whips_world.specs.Runs.{scheduled}
use Rattle.whips_run.proofs.made.tally_run.Goals as goal

pub returns-in-Ok-clause-counted : goal.returns-in-Ok-clause-counted
returns-in-Ok-clause-counted c =
    let s = scheduled c.args.setup c.args.work 2 in
    c.in-Ok.ensures.told.0 ∙ ap (λ (t : Tally). tally_after t (reported s (run_of s c.args.plan.now))) c.new-tally.ensures
