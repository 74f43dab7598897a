use Rattle.whips_setup.proofs.limits.+have_relations.Given as goal

abbrev pub decreases-have_relations : goal.decreases-have_relations
decreases-have_relations l = l.sources
