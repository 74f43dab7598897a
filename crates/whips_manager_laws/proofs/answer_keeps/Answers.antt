use Rattle.whips_manager_laws.proofs.Lawful.{earlier_answer, last_answer}
use Rattle.whips_manager_laws.proofs.answer_keeps.Goals as goal

pub returns : goal.returns
returns c = record { earlier = earlier_answer; last = last_answer }
