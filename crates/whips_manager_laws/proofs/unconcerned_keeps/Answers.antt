use Rattle.whips_manager_laws.proofs.Lawful.{insertion_unseen, deletion_unseen, change_unseen}
use Rattle.whips_manager_laws.proofs.unconcerned_keeps.Goals as goal

pub returns : goal.returns
returns c = record { insertion = insertion_unseen; deletion = deletion_unseen; change = change_unseen }
