use Rattle.whips_world.proofs.schedule.act.Given as goal

abbrev pub ghost-do_session : goal.ghost-do_session
ghost-do_session g a = g.at
