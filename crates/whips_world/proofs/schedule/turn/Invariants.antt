use Rattle.whips_world.proofs.schedule.turn.Given as goal

abbrev pub ghost-act : goal.ghost-act
ghost-act g a = g.at.0
