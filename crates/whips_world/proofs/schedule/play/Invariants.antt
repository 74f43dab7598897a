use Rattle.whips_world.proofs.schedule.play.Given as goal

abbrev pub ghost-play_listed : goal.ghost-play_listed
ghost-play_listed g a = (g.at, a.events.now)

abbrev pub ghost-play_picked : goal.ghost-play_picked
ghost-play_picked g a = g.at
