use Rattle.whips_world.proofs.runs.run_on.Given as goal

abbrev pub ghost-play : goal.ghost-play
ghost-play g a = g.at

abbrev pub ghost-drain : goal.ghost-drain
ghost-drain g a = g.at
