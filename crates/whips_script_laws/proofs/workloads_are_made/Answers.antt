use Rattle.whips_script_laws.proofs.Made.{workload_made}
use Rattle.whips_script_laws.proofs.workloads_are_made.Goals as goal

pub returns : goal.returns
returns c = workload_made
