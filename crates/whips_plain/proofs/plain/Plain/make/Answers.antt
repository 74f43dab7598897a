use Rattle.whips_plain.proofs.Kept.{made_sound, first_kept}
use Rattle.whips_plain.proofs.plain.Plain.make.Goals as goal

pub invariant_of-result : goal.invariant_of-result
invariant_of-result c = first_kept c.args.setup.now c.versions.result c.in_ok-views.views.items c.sources-setup.ensures.sound c.versions.ensures c.in_ok-views.ensures.made c.in_ok-views.ensures.slots

pub returns-clause-sound : goal.returns-clause-sound
returns-clause-sound c = made_sound c.args.setup.now c.versions.result c.in_ok-views.views.items c.sources-setup.ensures.sound c.versions.ensures c.in_ok-views.ensures.made
