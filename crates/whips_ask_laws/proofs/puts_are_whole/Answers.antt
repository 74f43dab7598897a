use Rattle.whips_ask_laws.proofs.Askable.{last_whole, seeds_whole}
use Rattle.whips_ask_laws.proofs.puts_are_whole.Goals as goal

pub returns : goal.returns
returns c = record { last = last_whole; seeds = seeds_whole }
