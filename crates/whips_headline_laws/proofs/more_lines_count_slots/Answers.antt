use Rattle.whips_headline_laws.proofs.Visits.{more_counts}
use Rattle.whips_headline_laws.proofs.more_lines_count_slots.Goals as goal

pub returns : goal.returns
returns c = more_counts
