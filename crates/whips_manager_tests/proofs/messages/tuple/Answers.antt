use Rattle.whips_manager_tests.proofs.messages.tuple.Goals as goal

pub returns : goal.returns
returns c = c.from_slice.ensures
